-- The form of a line, from what it asks for.
use Rattle.std.proofs.Common.{◌≡◌, Bool, true, false, Option, Some, None, Result, Ok, Err, refl, ap, sym, ◌∙◌}
use Rattle.std.specs.Prelude.{IfOk}
use Rattle.serde_json.specs.Data.{Data}
use Rattle.nd_graph.specs.Graph.{Dataflow}
use Rattle.rewind_forms.specs.Asked.{asked_as, asked_of}
use Rattle.rewind_forms.specs.Forms.{given, after}
use Rattle.rewind_forms.specs.Grammar.{form_of}
use Rattle.rewind_forms.specs.declared.version.Version.{Version}
use Rattle.rewind_forms.specs.declared.form.LineForm.{LineForm}
use Rattle.rewind_forms.specs.declared.form.LineForm.TheVariants.{Step, Command, Query}
use Rattle.rewind_forms.specs.declared.asked.Asked.{Asked}
use Rattle.rewind_forms.specs.declared.fault.LineFault.{LineFault}
use Rattle.rewind_forms.specs.declared.fault.LineFault.TheVariants.{BadShape}
use Rattle.rewind_sessions.specs.Orders.{asks_query, is_query}

-- whatever follows the reading of a part asks for the same kind
after_asks : {X : Type 0} (b : Bool) (r : Result X LineFault) (f : X → Asked) (a : Asked) → ((x : X) → asks_query (f x) ≡ b) → after r (λ x. Ok (f x)) ≡ Ok a → b ≡ asks_query a
after_asks b (Ok x) f a asks is = let same : f x ≡ a = cc is in sym (asks x) ∙ ap asks_query same
after_asks b (Err e) f a asks is = absurd (cc is)

-- a line has the form of a query exactly if it asks for one
pub form_asks : (v : Version) (g : Dataflow) (d : Data) (a : Asked) → asked_of v g d ≡ Ok a → is_query (form_of v d) ≡ asks_query a
unfolding asked_of
form_asks v g d a is = by (form_of v d) is
  where
    by : (o : Option LineForm) → given BadShape o (asked_as v g d) ≡ Ok a → is_query o ≡ asks_query a
    by None h = absurd (cc h)
    by (Some (Step form)) h = after_asks false _ _ a (λ x. refl) h
    by (Some (Command form)) h = after_asks false _ _ a (λ x. refl) h
    by (Some (Query form)) h = after_asks true _ _ a (λ x. refl) h

pub asked_asks : (v : Version) (g : Dataflow) (d : Data) (r : Result Asked LineFault) → IfOk r (λ a. asked_of v g d ≡ Ok a) → IfOk r (λ a. is_query (form_of v d) ≡ asks_query a)
asked_asks v g d (Ok a) is = form_asks v g d a is
asked_asks v g d (Err e) is = tt
