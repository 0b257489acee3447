-- Values that are sent to a serializer part by part, in the events of `serde_json`.
use Rattle.std.specs.Prelude.{ℕ, List}
use Rattle.serde.specs.Event.{Log, Logs, WritesEach, field_key}
use Rattle.serde.specs.declared.name.Case.TheVariants.{AsIs}
use Rattle.serde_json.specs.Data.{Data}
use Rattle.serde_json.specs.Events.{SendsValue}

-- a key, and the value at it
abbrev pub SendsMember : List ℕ → Data → Log → Log → Type 0
SendsMember k d old new = (named : Log) × Logs old named (field_key k AsIs) × SendsValue d named new

-- items of an array, one after the other
abbrev pub SendsEach : List Data → Log → Log → Type 0
SendsEach = WritesEach SendsValue

-- Of all items of an array those before the rest were sent, from `first` to `now`: whatever sends the rest from now on sends all.
abbrev pub SentBefore : List Data → List Data → Log → Log → Type 0
SentBefore rest all first now = (end : Log) → SendsEach rest now end → SendsEach all first end
