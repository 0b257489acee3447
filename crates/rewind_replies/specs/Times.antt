-- The frontier at a location as a JSON value.
use Rattle.std.specs.Prelude.{List, map}
use Rattle.serde_json.specs.Data.{Data}
use Rattle.nd_time.specs.Time.{Time}
use Rattle.nd_state_json.specs.StateText.{row, time_data}

-- [[epoch,c1,...],...], in their order
abbrev pub times_data : List Time → Data
times_data times = row (map time_data times)
