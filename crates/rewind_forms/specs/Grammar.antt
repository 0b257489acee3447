-- The grammar of a script: the words that a line may have under "do", each with the keys of its object and the
-- first version whose scripts have it.
use Rattle.std.specs.Prelude.{ℕ, ◌&&◌, List, [], ◌∷◌, if◌then◌else◌, Option, Some, None, option_and_then, codes}
use Rattle.std.specs.Str.{bytes_eq}
use Rattle.serde_json.specs.Data.{Data}
use Rattle.nd_json.specs.Forms.{has_keys, text_at}
use Rattle.rewind_forms.specs.Versions.{includes}
use Rattle.rewind_forms.specs.declared.version.Version.{Version}
use Rattle.rewind_forms.specs.declared.version.Version.TheVariants.{First, Second, Third, Fourth, Fifth, Sixth, Seventh, Eighth}
use Rattle.rewind_forms.specs.declared.form.LineForm.{LineForm}
use Rattle.rewind_forms.specs.declared.form.LineForm.TheVariants.{Step, Command, Query}
use Rattle.rewind_forms.specs.declared.form.StepForm.{StepForm}
use Rattle.rewind_forms.specs.declared.form.StepForm.TheVariants as step
use Rattle.rewind_forms.specs.declared.form.CommandForm.{CommandForm}
use Rattle.rewind_forms.specs.declared.form.CommandForm.TheVariants as command
use Rattle.rewind_forms.specs.declared.form.QueryForm.{QueryForm}
use Rattle.rewind_forms.specs.declared.form.QueryForm.TheVariants as query

-- ---- the words, each with its keys, in the order of their bytes, with the first version that has them, and with the form that they
-- mean

-- the keys that each send has
abbrev pub send_keys : List (List ℕ)
send_keys = codes "do" ∷ codes "p" ∷ codes "port" ∷ codes "time" ∷ codes "values" ∷ codes "vertex" ∷ []

unfoldable pub steps : List (List ℕ × List (List ℕ) × Version × StepForm)
steps =
    (codes "feed", codes "do" ∷ codes "next" ∷ codes "p" ∷ codes "values" ∷ codes "vertex" ∷ [], First, step.Feed)
    ∷ (codes "take", codes "do" ∷ codes "edge" ∷ codes "p" ∷ codes "time" ∷ codes "value" ∷ [], First, step.Take)
    ∷ (codes "notice", codes "do" ∷ codes "p" ∷ codes "time" ∷ codes "vertex" ∷ [], First, step.Notice)
    ∷ (codes "release", codes "do" ∷ codes "p" ∷ codes "time" ∷ codes "vertex" ∷ [], Fifth, step.Release)
    ∷ (codes "release", codes "do" ∷ codes "p" ∷ codes "time" ∷ codes "to" ∷ codes "vertex" ∷ [], Fifth, step.Release)
    ∷ (codes "release", codes "do" ∷ codes "keep" ∷ codes "p" ∷ codes "time" ∷ codes "to" ∷ codes "vertex" ∷ [], Sixth, step.Release)
    ∷ (codes "send", send_keys, Sixth, step.Send)
    ∷ (codes "send", codes "at" ∷ send_keys, Sixth, step.Send)
    ∷ (codes "send", codes "dest" ∷ send_keys, Sixth, step.Send)
    ∷ (codes "send", codes "at" ∷ codes "dest" ∷ send_keys, Sixth, step.Send)
    ∷ (codes "broadcast", codes "do" ∷ codes "p" ∷ [], First, step.Broadcast)
    ∷ (codes "broadcast", codes "do" ∷ codes "p" ∷ codes "part" ∷ [], First, step.Part)
    ∷ (codes "receive", codes "do" ∷ codes "from" ∷ codes "to" ∷ [], First, step.Receive)
    ∷ []

unfoldable pub commands : List (List ℕ × List (List ℕ) × Version × CommandForm)
commands =
    (codes "back", codes "do" ∷ [], First, command.Back)
    ∷ (codes "redo", codes "do" ∷ [], First, command.Redo)
    ∷ (codes "jump", codes "do" ∷ codes "to" ∷ [], First, command.Jump)
    ∷ (codes "run", codes "do" ∷ codes "limit" ∷ [], First, command.Run)
    ∷ (codes "run", codes "do" ∷ codes "limit" ∷ codes "only" ∷ [], Fifth, command.Run)
    ∷ (codes "run", codes "do" ∷ codes "limit" ∷ codes "seed" ∷ [], Seventh, command.Run)
    ∷ (codes "run", codes "do" ∷ codes "limit" ∷ codes "only" ∷ codes "seed" ∷ [], Seventh, command.Run)
    ∷ (codes "break", codes "do" ∷ codes "when" ∷ [], First, command.Break)
    ∷ (codes "unbreak", codes "do" ∷ codes "id" ∷ [], First, command.Unbreak)
    ∷ []

unfoldable pub queries : List (List ℕ × List (List ℕ) × Version × QueryForm)
queries =
    (codes "state", codes "do" ∷ [], First, query.State)
    ∷ (codes "count", codes "at" ∷ codes "do" ∷ codes "time" ∷ [], First, query.Count)
    ∷ (codes "before", codes "do" ∷ codes "from" ∷ codes "to" ∷ [], First, query.Before)
    ∷ (codes "view", codes "do" ∷ codes "q" ∷ [], First, query.View)
    ∷ (codes "frontier", codes "do" ∷ codes "q" ∷ [], First, query.Frontier)
    ∷ (codes "passed", codes "at" ∷ codes "do" ∷ codes "q" ∷ codes "time" ∷ [], First, query.Passed)
    ∷ (codes "search", codes "do" ∷ codes "hi" ∷ codes "lo" ∷ codes "when" ∷ codes "workers" ∷ [], First, query.Search)
    ∷ (codes "export", codes "do" ∷ [], Second, query.Export)
    ∷ (codes "why", codes "at" ∷ codes "do" ∷ codes "q" ∷ codes "time" ∷ [], Third, query.Why)
    ∷ (codes "changes", codes "at" ∷ codes "do" ∷ codes "hi" ∷ codes "lo" ∷ codes "q" ∷ codes "time" ∷ [], Third, query.Changes)
    ∷ (codes "step", codes "do" ∷ codes "to" ∷ [], Third, query.Step)
    ∷ (codes "candidates", codes "do" ∷ [], Fourth, query.Candidates)
    ∷ (codes "effect", codes "do" ∷ codes "to" ∷ [], Fourth, query.Effect)
    ∷ (codes "turns", codes "do" ∷ codes "hi" ∷ codes "lo" ∷ codes "when" ∷ [], Fourth, query.Turns)
    ∷ (codes "frontier", codes "at" ∷ codes "do" ∷ codes "q" ∷ [], Fourth, query.FrontierAt)
    ∷ (codes "why", codes "at" ∷ codes "before" ∷ codes "do" ∷ codes "q" ∷ codes "time" ∷ [], Fourth, query.Why)
    ∷ (codes "reach", codes "do" ∷ codes "limit" ∷ codes "when" ∷ [], Seventh, query.Reach)
    ∷ (codes "reach", codes "do" ∷ codes "limit" ∷ codes "when" ∷ codes "with" ∷ [], Seventh, query.Reach)
    ∷ (codes "why", codes "at" ∷ codes "do" ∷ codes "q" ∷ codes "rest" ∷ codes "time" ∷ [], Eighth, query.Why)
    ∷ (codes "why", codes "at" ∷ codes "before" ∷ codes "do" ∷ codes "q" ∷ codes "rest" ∷ codes "time" ∷ [], Eighth, query.Why)
    ∷ []

-- ---- the form of a line

-- the version and the meaning in the first row that has this word and the keys of this object
abbrev pub find : {A : Type 0} → List (List ℕ × List (List ℕ) × Version × A) → List ℕ → Data → Option (Version × A)
find [] word d = None
find (row ∷ rows) word d = if bytes_eq word row.0 && has_keys row.1 d then Some (row.2, row.3) else find rows word d

abbrev pub one_of : Option (Version × StepForm) → Option (Version × CommandForm) → Option (Version × QueryForm) → Option (Version × LineForm)
one_of (Some (since, form)) command query = Some (since, Step form)
one_of None (Some (since, form)) query = Some (since, Command form)
one_of None None (Some (since, form)) = Some (since, Query form)
one_of None None None = None

-- what the word and the keys of an object mean, and the first version whose scripts have it
abbrev pub meant : List ℕ → Data → Option (Version × LineForm)
meant word d = one_of (find steps word d) (find commands word d) (find queries word d)

-- a form, if a script of version v has what the version `since` introduced
abbrev pub known_to : Version → Version × LineForm → Option LineForm
known_to v (since, form) = if includes v since then Some form else None

-- the form of an object in a script of this version
unfoldable pub form_of : Version → Data → Option LineForm
form_of v d = option_and_then (λ word. option_and_then (known_to v) (meant word d)) (text_at (codes "do") d)
