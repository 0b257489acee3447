-- `Reading` in terms of the specification.
use Rattle.serde_json.specs.View.{view}
use Rattle.rewind_lines.specs.Lines as lines
use Rattle.rewind_lines.specs.declared.reading.Reading.{Reading}
use Rattle.rewind_lines.specs.declared.reading.Reading.TheVariants.{Blank, TooLong, NoJson, Json}

-- the reading in terms of the specification
abbrev pub reading_view : Reading → lines.Reading
reading_view Blank = lines.blank
reading_view TooLong = lines.too_long
reading_view NoJson = lines.no_json
reading_view (Json value) = lines.json (view value)
