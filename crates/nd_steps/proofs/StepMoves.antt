-- A step of processor p adds what its changes say: p is written, and then each record arrives at
-- its processor.
--     AreWritten                      the processors before and after
--     arrive, performs                records arrive; p is written, and records arrive
--     StepAdds, standing-stepped      the step
use Rattle.std.proofs.Common.{◌≡◌, ◌≢◌, inl, inr, ℕ, ◌<◌, pos, ◌+ℤ◌, cond, List, [], ◌∷◌, ◌++◌, length, refl, sym, ap, subst, ◌∙◌, arith, length-set, get_or-set_same, get_or-set_other}
use Rattle.std.proofs.lemmas.Int.{ints}
use Rattle.std.proofs.lemmas.Bool.{cases_eq}
use Rattle.std.specs.Prelude.{slice_index_or, slice_set}
use Rattle.nd_paths.specs.declared.point.Pointstamp.{Pointstamp}
use Rattle.nd_delta.specs.Delta.{DeltaValue, at as in_change, plus, at-plus}
use Rattle.nd_processor.specs.State.{ProcessorState, idle}
use Rattle.nd_processor.specs.declared.key.ValueAt.{ValueAt}
use Rattle.nd_protocol.specs.State.{ClusterState, processor}
use Rattle.nd_protocol.specs.Steps.{with_record, with_records, gain, worked, stepped}
use Rattle.nd_protocol.specs.TruthLaws.{kept-set, count, count-set, gain-count}
use Rattle.nd_protocol.specs.declared.step.Step.{Step}
use Rattle.nd_steps.specs.Places.{Place, place_at, view_of}
use Rattle.nd_steps.specs.Slots.{stands}
use Rattle.nd_steps.specs.Integers.{standing}
use Rattle.nd_steps.specs.Changes.{place_of}
use Rattle.nd_steps.specs.Plans.{total_at}
use Rattle.nd_steps.specs.Drafts.{arrivals}
use Rattle.nd_steps.specs.declared.change.Change.{Change}
use Rattle.nd_steps.specs.declared.slot.Slot.{Slot}
use Rattle.nd_steps.specs.declared.slot.Slot.TheVariants.{Unsent}
use Rattle.nd_steps.proofs.AlikeLemmas.{other_place}
use Rattle.nd_steps.proofs.EachLemmas.{total-append}
use Rattle.nd_steps.proofs.Moves.{IsWritten, Moves, nothing_more, nothing_written, nothing_unsent}
use Rattle.nd_steps.proofs.Writes.{record_comes}

abbrev at : List ProcessorState → ℕ → ProcessorState
at qs k = slice_index_or qs k idle

-- the changes say what the new processors have more than the old ones; a change of what p has to
-- send says how much more is outstanding in all of them
pub record AreWritten (p : ℕ) (old new : List ProcessorState) (cs : List Change) : Type 0 where
  pub keys : (k : ℕ) (l : Slot) → IsWritten l → stands (at new k) l ≡ stands (at old k) l +ℤ total_at (place_at k l) cs
  pub outstanding : (x : Pointstamp) → pos (count new x) ≡ pos (count old x) +ℤ total_at (place_at p (Unsent x)) cs
  pub others : (k : ℕ) (x : Pointstamp) → k ≢ p → total_at (place_at k (Unsent x)) cs ≡ pos 0
  pub unsent : (k : ℕ) → (at new k).unsent ≡ (at old k).unsent
  pub items : (k : ℕ) → length (at new k).items ≡ length (at old k).items
  pub many : length new ≡ length old

none_written : (p : ℕ) (qs : List ProcessorState) → AreWritten p qs qs []
none_written p qs = record {
  keys = λ k l h. nothing_more (stands (at qs k) l);
  outstanding = λ x. nothing_more (pos (count qs x));
  others = λ k x other. refl;
  unsent = λ k. refl;
  items = λ k. refl;
  many = refl;
}

written_then : {p : ℕ} {old mid new : List ProcessorState} {cs ds : List Change} → AreWritten p old mid cs → AreWritten p mid new ds → AreWritten p old new (cs ++ ds)
written_then {p} {cs = cs} {ds = ds} a b = record {
  keys = λ k l h.
      let x = a.keys k l h in
      let y = b.keys k l h in
      let z = total-append (place_at k l) cs ds in
      omega (arith, ints, x, y, z);
  outstanding = λ w.
      let x = a.outstanding w in
      let y = b.outstanding w in
      let z = total-append (place_at p (Unsent w)) cs ds in
      omega (arith, ints, x, y, z);
  others = λ k w other.
      let x = a.others k w other in
      let y = b.others k w other in
      let z = total-append (place_at k (Unsent w)) cs ds in
      omega (arith, ints, x, y, z);
  unsent = λ k. b.unsent k ∙ a.unsent k;
  items = λ k. b.items k ∙ a.items k;
  many = b.many ∙ a.many;
}

-- one processor is written
module _ (p i : ℕ) (qs : List ProcessorState) (r : ProcessorState) (cs : List Change) (lt : i < length qs) (m : Moves p i (at qs i) r cs) where
  keys_set : (k : ℕ) (l : Slot) → IsWritten l → stands (at (slice_set qs i r) k) l ≡ stands (at qs k) l +ℤ total_at (place_at k l) cs
  keys_set k l h = elim (cases_eq k i) [
    | inl e ↦
        subst (λ n. stands (at (slice_set qs i r) n) l ≡ stands (at qs n) l +ℤ total_at (place_at n l) cs) (sym e)
        (ap (λ q. stands q l) (get_or-set_same qs i r idle lt) ∙ m.keys l h)
    | inr other ↦
        ap (λ q. stands q l) (get_or-set_other qs i k r idle other) ∙ nothing_more (stands (at qs k) l)
        ∙ ap (λ z. stands (at qs k) l +ℤ z) (sym (nothing_written p i k cs m.alone l h other))
  ]

  pub one_written : AreWritten p qs (slice_set qs i r) cs
  one_written = record {
    keys = keys_set;
    outstanding = λ x.
        let a = count-set qs i r x lt in
        let b = m.outstanding x in
        omega (arith, ints, a, b);
    others = λ k x other. nothing_unsent p i k cs m.alone x other;
    unsent = kept-set (λ q. q.unsent) qs i r m.unsent;
    items = kept-set (λ q. length q.items) qs i r m.items;
    many = length-set qs i r;
  }

-- ---- records that arrive

-- each record goes to one of n processors
abbrev pub AreTo : ℕ → List (ℕ × ValueAt) → Type 0
AreTo n [] = Unit {0}
AreTo n (r ∷ rs) = (r.0 < n) × AreTo n rs

pub arrive : (p : ℕ) (qs : List ProcessorState) (rs : List (ℕ × ValueAt)) → AreTo (length qs) rs → AreWritten p qs (with_records qs rs) (arrivals p rs)
arrive p qs [] to = none_written p qs
arrive p qs (r ∷ rs) to =
    written_then (one_written p r.0 qs _ _ to.0 (record_comes p r.0 (at qs r.0) r.1))
    (arrive p (with_record qs r) rs (subst (λ n. AreTo n rs) (sym (length-set qs r.0 _)) to.1))

-- processor p is written, and then records arrive
pub performs : (p : ℕ) (qs : List ProcessorState) (r : ProcessorState) (cs : List Change) (rs : List (ℕ × ValueAt)) → p < length qs → Moves p p (at qs p) r cs → AreTo (length qs) rs
    → AreWritten p qs (with_records (slice_set qs p r) rs) (cs ++ arrivals p rs)
performs p qs r cs rs lt moves to = written_then (one_written p p qs r cs lt moves) (arrive p (slice_set qs p r) rs (subst (λ n. AreTo n rs) (sym (length-set qs p r)) to))

-- ---- the step

-- the changes say what a step adds
pub record StepAdds {A : Type 0} (s : ClusterState) (x : Step A) (cs : List Change) : Type 0 where
  pub p : ℕ
  pub there : p < length s.processors
  pub new : List ProcessorState
  pub is : stepped s x ≡ worked s p new
  pub written : AreWritten p s.processors new cs

kept_unsent : (q : ProcessorState) (c : DeltaValue) (l : Slot) → IsWritten l → stands (record q { unsent = c }) l ≡ stands q l
kept_unsent q c (Unsent x) h = absurd h
kept_unsent q c l h = refl

at_view : (q : ℕ) (x : Pointstamp) (cs : List Change) → total_at (view_of q x) cs ≡ pos 0
at_view q x [] = refl
at_view q x (c ∷ cs) = λ i. cond (other_place (view_of q x) (place_of c) (λ e. cc) i) c.n (pos 0) +ℤ at_view q x cs i

module _ {A : Type 0} (s : ClusterState) (x : Step A) (cs : List Change) (adds : StepAdds s x cs) where
  abbrev p : ℕ
  p = adds.p

  abbrev new : List ProcessorState
  new = adds.new

  abbrev gained : DeltaValue
  gained = gain s.processors new

  -- the performer, with what it then has to send
  abbrev last : ProcessorState
  last = record (at new p) { unsent = plus (at new p).unsent gained }

  at_key_of : (k : ℕ) (l : Slot) → IsWritten l → stands (at (slice_set new p last) k) l ≡ stands (at s.processors k) l +ℤ total_at (place_at k l) cs
  at_key_of k l h = kept-set (λ q. stands q l) new p last (kept_unsent (at new p) (plus (at new p).unsent gained) l h) k ∙ adds.written.keys k l h

  -- p has to send what is added to the number outstanding
  at_sender : (y : Pointstamp) → in_change (at (slice_set new p last) p).unsent y ≡ in_change (at s.processors p).unsent y +ℤ total_at (place_at p (Unsent y)) cs
  at_sender y =
      let a : (at (slice_set new p last) p).unsent ≡ plus (at new p).unsent gained
      = ap (λ (q : ProcessorState). q.unsent) (get_or-set_same new p last idle (subst (λ n. p < n) (sym adds.written.many) adds.there)) in
      let b = at-plus (at new p).unsent gained y in
      let c : in_change (at new p).unsent y ≡ in_change (at s.processors p).unsent y = ap (λ d. in_change d y) (adds.written.unsent p) in
      let d = gain-count s.processors new y in
      let e = adds.written.outstanding y in
      ap (λ d. in_change d y) a ∙ b ∙ omega (arith, ints, c, d, e)

  at_unsent : (k : ℕ) (y : Pointstamp) → in_change (at (slice_set new p last) k).unsent y ≡ in_change (at s.processors k).unsent y +ℤ total_at (place_at k (Unsent y)) cs
  at_unsent k y = elim (cases_eq k p) [
    | inl e ↦ subst (λ n. in_change (at (slice_set new p last) n).unsent y ≡ in_change (at s.processors n).unsent y +ℤ total_at (place_at n (Unsent y)) cs) (sym e) (at_sender y)
    | inr other ↦
        ap (λ (q : ProcessorState). in_change q.unsent y) (get_or-set_other new p k last idle other) ∙ ap (λ d. in_change d y) (adds.written.unsent k)
        ∙ nothing_more (in_change (at s.processors k).unsent y) ∙ ap (λ z. in_change (at s.processors k).unsent y +ℤ z) (sym (adds.written.others k y other))
  ]

  at_place : (k : Place) → standing (worked s p new) k ≡ standing s k +ℤ total_at k cs
  at_place (place_at k (Unsent y)) = at_unsent k y
  at_place (place_at k l) = at_key_of k l tt
  at_place (view_of q y) = nothing_more _ ∙ ap (λ z. standing s (view_of q y) +ℤ z) (sym (at_view q y cs))

  pub standing-stepped : (k : Place) → standing (stepped s x) k ≡ standing s k +ℤ total_at k cs
  standing-stepped k = ap (λ (t : ClusterState). standing t k) adds.is ∙ at_place k

  pub processors-stepped : length (stepped s x).processors ≡ length s.processors
  processors-stepped = ap (λ (t : ClusterState). length t.processors) adds.is ∙ length-set new p last ∙ adds.written.many

  pub items-stepped : (k : ℕ) → length (processor (stepped s x) k).items ≡ length (processor s k).items
  items-stepped k = ap (λ (t : ClusterState). length (processor t k).items) adds.is ∙ kept-set (λ q. length q.items) new p last refl k ∙ adds.written.items k
