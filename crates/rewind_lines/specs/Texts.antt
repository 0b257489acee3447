-- The text of replies.
use Rattle.std.specs.Prelude.{ℕ, List, [], ◌∷◌, ◌++◌}
use Rattle.std.specs.List.{flat_map}
use Rattle.serde_json.specs.Data.{Data}
use Rattle.serde_json.specs.Written.{compact_text}

-- the line of a reply
unfoldable pub reply_text : Data → List ℕ
reply_text reply = compact_text reply ++ 10 ∷ []

-- the lines of these replies, one after another
abbrev pub text_of : List Data → List ℕ
text_of replies = flat_map reply_text replies
