-- Reading the object of a send gives the send.
use Rattle.std.proofs.Common.{◌≡◌, ◌∙◌, ℕ, ◌<◌, ℤ, true, false, List, ◌∷◌, length, map, refl, ap, Option, Some, None, Result, Ok, FitsSigned, w64, codes}
use Rattle.std.specs.Prelude.{All as Each, IfSome, option_map, option_and_then}
use Rattle.std.specs.Ordering.{nat_cmp}
use Rattle.std.specs.Cmp.Lexicographic.{slice_cmp}
use Rattle.std.specs.declared.alloc.Global.{Global}
use Rattle.std.specs.declared.cmp.Ordering.TheVariants.{Greater}
use Rattle.serde_json.specs.Data.{Data, Members, object}
use Rattle.serde_json.specs.Find.{get, get_member}
use Rattle.nd_json.specs.Forms.{has_keys, text, small, small_at}
use Rattle.nd_time.specs.Time.{Time}
use Rattle.nd_graph.specs.Graph.{Dataflow, names}
use Rattle.nd_graph.specs.Checked.{has_double}
use Rattle.nd_state_json.specs.StateText.{natural, whole, name_at}
use Rattle.nd_protocol.specs.Ranges.{IsSmall, TimeIsSmall, BatchIsSmall}
use Rattle.nd_protocol.specs.declared.step.Step.{Step}
use Rattle.nd_protocol.specs.declared.step.Step.TheVariants.{Send}
use Rattle.nd_protocol.specs.declared.batch.Batch.{Batch}
use Rattle.rewind_forms.specs.Forms.{given, if_any, numbers_at, time_in, named_at, values_at}
use Rattle.rewind_forms.specs.Places.{vertex_named, time_of}
use Rattle.rewind_forms.specs.Grammar.{steps, form_of}
use Rattle.rewind_forms.specs.Sends.{send_of}
use Rattle.rewind_forms.specs.Steps.{read_as, read_of}
use Rattle.rewind_forms.specs.declared.version.Version.TheVariants.{Sixth}
use Rattle.rewind_forms.specs.declared.form.LineForm.TheVariants as line
use Rattle.rewind_forms.specs.declared.form.StepForm.TheVariants as form
use Rattle.rewind_forms.specs.declared.fault.LineFault.{LineFault}
use Rattle.rewind_forms.specs.declared.fault.LineFault.TheVariants.{BadShape, UnknownName, BadTime}
use Rattle.nd_state_json.specs.Objects.{at_before, dest_before, send_members, send_object}
use Rattle.rewind_forms.specs.Fitting.{HasDepth, NamesFit}
use Rattle.rewind_forms.proofs.NamesLemmas.{vertex-name_at, time-numbers}
use Rattle.rewind_forms.proofs.Values.{list-row, small-natural, integers-whole, numbers-natural}

-- ---- what is read of parts, if all of them are there

got : {A B : Type 0} (fault : LineFault) (o : Option A) (x : A) (made : A → Result B LineFault) (r : Result B LineFault) → o ≡ Some x → made x ≡ r
    → given fault o made ≡ r
got fault o x made r e h = ap (λ o. given fault o made) e ∙ h

-- a key after "at" and "dest" is looked up behind them
past : (k : List ℕ) (at : Option Time) (dest : Option ℕ) (ms : Members) → slice_cmp nat_cmp k (codes "at") ≡ Greater
    → slice_cmp nat_cmp k (codes "dest") ≡ Greater → get_member k (at_before at (dest_before dest ms)) ≡ get_member k ms
past k None None ms a d = refl
past k None (Some q) ms a d = rw d refl
past k (Some t) None ms a d = rw a refl
past k (Some t) (Some q) ms a d = rw (a, d) refl

abbrev numbers : Time → List ℕ
numbers t = t.epoch ∷ t.counters

module _ (g : Dataflow) (p vertex : ℕ) (b : Batch Global) where
  abbrev ms : Members
  ms = send_members g p vertex b

  abbrev sent : Option Time → Option ℕ → Data
  sent at dest = object (at_before at (dest_before dest ms))

  -- ---- one key after the other

  p_back : (at : Option Time) (dest : Option ℕ) → IsSmall p → small_at (codes "p") (sent at dest) ≡ Some p
  p_back at dest h = ap (option_and_then small) (past (codes "p") at dest ms refl refl) ∙ small-natural p h

  port_back : (at : Option Time) (dest : Option ℕ) → IsSmall b.port → small_at (codes "port") (sent at dest) ≡ Some b.port
  port_back at dest h = ap (option_and_then small) (past (codes "port") at dest ms refl refl) ∙ small-natural b.port h

  named_back : (at : Option Time) (dest : Option ℕ) → TimeIsSmall b.time
      → named_at (codes "vertex") (sent at dest) ≡ Some (name_at g vertex, numbers b.time)
  unfolding named_at numbers_at text
  named_back at dest h =
      rw (past (codes "vertex") at dest ms refl refl, past (codes "time") at dest ms refl refl, list-row (map natural (numbers b.time)), numbers-natural b.time h) refl

  values_back : (at : Option Time) (dest : Option ℕ) → Each (FitsSigned w64) b.values → values_at (codes "values") (sent at dest) ≡ Some b.values
  unfolding values_at
  values_back at dest h =
      rw (past (codes "values") at dest ms refl refl, list-row (map whole b.values), integers-whole b.values h) refl

  at_back : (at : Option Time) (dest : Option ℕ) → IfSome at TimeIsSmall → if_any time_in (get (codes "at") (sent at dest)) ≡ Some (option_map numbers at)
  unfolding time_in
  at_back None None h = refl
  at_back None (Some q) h = refl
  at_back (Some t) dest h = rw (list-row (map natural (numbers t)), numbers-natural t h) refl

  dest_back : (at : Option Time) (dest : Option ℕ) → IfSome dest IsSmall → if_any small (get (codes "dest") (sent at dest)) ≡ Some dest
  dest_back None None h = refl
  dest_back (Some t) None h = refl
  dest_back None (Some q) h = rw (small-natural q h) refl
  dest_back (Some t) (Some q) h = rw (small-natural q h) refl

  time_back : (at : Option Time) → IfSome at (HasDepth g vertex) → if_any (time_of g vertex) (option_map numbers at) ≡ Some at
  time_back None h = refl
  time_back (Some t) h = rw (time-numbers g vertex t h) refl

  -- ---- all of them

  form_back : (at : Option Time) (dest : Option ℕ) → form_of Sixth (sent at dest) ≡ Some (line.Step form.Send)
  unfolding form_of steps has_keys text
  form_back None None = refl
  form_back None (Some q) = refl
  form_back (Some t) None = refl
  form_back (Some t) (Some q) = refl

  send_back : has_double (names g) ≡ false → NamesFit g (Send p vertex b) → IsSmall p → BatchIsSmall b
      → send_of g (send_object g p vertex b) ≡ Ok (Send p vertex b)
  unfolding send_of
  send_back once there h k =
      let d : Data = send_object g p vertex b in
      got _ (small_at (codes "p") d) p _ _ (p_back b.at b.dest h)
      (got _ (named_at (codes "vertex") d) (name_at g vertex, numbers b.time) _ _ (named_back b.at b.dest k.time)
      (got _ (small_at (codes "port") d) b.port _ _ (port_back b.at b.dest k.port)
      (got _ (values_at (codes "values") d) b.values _ _ (values_back b.at b.dest k.values)
      (got _ (if_any time_in (get (codes "at") d)) (option_map numbers b.at) _ _ (at_back b.at b.dest k.at)
      (got _ (if_any small (get (codes "dest") d)) b.dest _ _ (dest_back b.at b.dest k.dest)
      (got _ (vertex_named g (name_at g vertex)) vertex _ _ (vertex-name_at g vertex once there.0)
      (got _ (time_of g vertex (numbers b.time)) b.time _ _ (time-numbers g vertex b.time there.1)
      (got _ (if_any (time_of g vertex) (option_map numbers b.at)) b.at _ _ (time_back b.at there.2) refl))))))))

  pub sent_back : has_double (names g) ≡ false → NamesFit g (Send p vertex b) → IsSmall p → BatchIsSmall b
      → read_of g (send_object g p vertex b) ≡ Ok (Send p vertex b)
  unfolding read_of
  sent_back once there h k =
      let d : Data = send_object g p vertex b in
      got BadShape (form_of Sixth d) (line.Step form.Send) (read_as g d) _ (form_back b.at b.dest) (send_back once there h k)
