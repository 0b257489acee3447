-- The words that say which steps of users a question for what can still happen lets be among the moves.
use Rattle.std.specs.Prelude.{ℕ, Bool, true, false, ◌&&◌, not, List, [], ◌∷◌, if◌then◌else◌, Option, Some, None, option_and_then, codes}
use Rattle.std.specs.Str.{bytes_eq}
use Rattle.serde_json.specs.Data.{Data}
use Rattle.nd_json.specs.Forms.{text, list}
use Rattle.nd_cluster.specs.declared.moves.Allowed.{Allowed}

-- no word
abbrev pub nothing_allowed : Allowed
nothing_allowed = record { feeds = false; releases = false }

-- what the words before it let, and this word; none if it is no word, or one of them
abbrev pub with_word : Allowed → List ℕ → Option Allowed
with_word old word =
    if bytes_eq word (codes "feed") && not old.feeds then Some (record { feeds = true; releases = old.releases })
    else (if bytes_eq word (codes "release") && not old.releases then Some (record { feeds = old.feeds; releases = true }) else None)

-- the same, of a value that must be a text
abbrev pub with_item : Allowed → Data → Option Allowed
with_item old d = option_and_then (with_word old) (text d)

-- one word, or two that differ
abbrev pub allowed_of : List Data → Option Allowed
allowed_of [] = None
allowed_of (d ∷ []) = with_item nothing_allowed d
allowed_of (d ∷ e ∷ []) = option_and_then (λ old. with_item old e) (with_item nothing_allowed d)
allowed_of (d ∷ e ∷ f ∷ ds) = None

-- the words that a value lists
unfoldable pub allowed_in : Data → Option Allowed
allowed_in d = option_and_then allowed_of (list d)
