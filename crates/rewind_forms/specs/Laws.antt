-- How steps and their JSON objects are related, as statements.
use Rattle.std.specs.Prelude.{◌≡◌, Ok}
use Rattle.std.specs.declared.alloc.Global.{Global}
use Rattle.serde_json.specs.Data.{Data}
use Rattle.nd_graph.specs.Graph.{Dataflow}
use Rattle.nd_graph.specs.Checked.{IsFaultless}
use Rattle.nd_protocol.specs.declared.step.Step.{Step}
use Rattle.rewind_forms.specs.Steps.{read_of}
use Rattle.nd_state_json.specs.Objects.{object_of}
use Rattle.nd_protocol.specs.Ranges.{NumbersFit}
use Rattle.rewind_forms.specs.Fitting.{NamesFit}

-- reading the object of a step gives the step, if the graph is checked and has what the step names
abbrev pub ObjectsAreReadBack : Type 0
ObjectsAreReadBack = (g : Dataflow) (x : Step Global) → IsFaultless g → NamesFit g x → NumbersFit x → read_of g (object_of g x) ≡ Ok x

-- two such steps with the same object are equal
abbrev pub ObjectsDetermineSteps : Type 0
ObjectsDetermineSteps =
    (g : Dataflow) (x y : Step Global) → IsFaultless g → NamesFit g x → NumbersFit x → NamesFit g y → NumbersFit y
    → object_of g x ≡ object_of g y → x ≡ y

-- the graph has what a step that was read names
abbrev pub ReadStepsFit : Type 0
ReadStepsFit = (g : Dataflow) (d : Data) (x : Step Global) → read_of g d ≡ Ok x → NamesFit g x
