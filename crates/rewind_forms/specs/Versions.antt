-- The versions of a script, and the line that names one.
use Rattle.std.specs.Prelude.{ℕ, Bool, nat_eq, nat_le, [], ◌∷◌, if◌then◌else◌, Option, Some, None, option_and_then, codes}
use Rattle.serde_json.specs.Data.{Data}
use Rattle.nd_time.specs.Limits.{max_graph_line, max_line, max_processors, max_processors_v1, max_processors_v8}
use Rattle.nd_json.specs.Forms.{has_keys, whole_at}
use Rattle.rewind_forms.specs.declared.version.Version.{Version}
use Rattle.rewind_forms.specs.declared.version.Version.TheVariants.{First, Second, Third, Fourth, Fifth, Sixth, Seventh, Eighth, Ninth}

-- a script's version as a number, from 1 to 9
abbrev pub number_of : Version → ℕ
number_of First = 1
number_of Second = 2
number_of Third = 3
number_of Fourth = 4
number_of Fifth = 5
number_of Sixth = 6
number_of Seventh = 7
number_of Eighth = 8
number_of Ninth = 9

-- the version of this number, if a line can name it
unfoldable pub numbered : ℕ → Option Version
numbered n =
    if nat_eq n 2 then Some Second
    else (if nat_eq n 3 then Some Third
    else (if nat_eq n 4 then Some Fourth
    else (if nat_eq n 5 then Some Fifth
    else (if nat_eq n 6 then Some Sixth
    else (if nat_eq n 7 then Some Seventh
    else (if nat_eq n 8 then Some Eighth
    else (if nat_eq n 9 then Some Ninth else None)))))))

-- the version that a value names: {"version":n} with n from 2 to 9
unfoldable pub version_of : Data → Option Version
version_of d = if has_keys (codes "version" ∷ []) d then option_and_then numbered (whole_at (codes "version") d) else None

-- a script of version v has what the version `since` introduced
abbrev pub includes : Version → Version → Bool
includes v since = nat_le (number_of since) (number_of v)

-- the most processors of a cluster in a script of this version
abbrev pub most_processors : Version → ℕ
most_processors v = if includes v Ninth then max_processors else (if includes v Second then max_processors_v8 else max_processors_v1)

-- how many bytes the graph's line may have in a script of this version
abbrev pub longest_graph : Version → ℕ
longest_graph v = if includes v Ninth then max_graph_line else max_line
