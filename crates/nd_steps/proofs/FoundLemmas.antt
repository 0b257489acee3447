-- Changes as a plan finds them: how much each adds, and how often one place occurs among them.
use Rattle.std.proofs.Common.{◌≡◌, ◌<◌, ◌≤◌, ◌+◌, ℕ, ℤ, pos, negsuc, ◌+ℤ◌, ◌-ℤ◌, unsigned_abs, All, Bool, true, false, cond, List, [], ◌∷◌, ◌++◌, Some, refl, ap, subst, arith}
use Rattle.std.proofs.lemmas.Int.{ints}
use Rattle.std.specs.FinMap as fin
use Rattle.nd_time.specs.Limits.{max_counter}
use Rattle.nd_paths.specs.declared.point.Pointstamp.{Pointstamp}
use Rattle.nd_vertex.specs.Items.{Items}
use Rattle.nd_vertex.specs.Edits.{LeadsTo}
use Rattle.nd_vertex.specs.declared.effect.ItemEdit.{ItemEdit}
use Rattle.nd_processor.specs.State.{token_point, items_at}
use Rattle.nd_processor.specs.declared.key.SinkKey.{SinkKey}
use Rattle.nd_processor.specs.declared.key.ValueAt.{ValueAt}
use Rattle.nd_protocol.specs.State.{ClusterState, processor}
use Rattle.nd_protocol.specs.Ranges.{NextIsSmall}
use Rattle.nd_protocol.specs.declared.step.Next.{Next as Afterwards}
use Rattle.nd_protocol.specs.declared.step.Next.TheVariants as token
use Rattle.nd_steps.specs.Places.{place_at}
use Rattle.nd_steps.specs.Slots.{SlotRanged, from_epoch}
use Rattle.nd_steps.specs.Integers.{standing}
use Rattle.nd_steps.specs.Changes.{at_key, place_of}
use Rattle.nd_steps.specs.Plans.{often, Each, StaysRanged}
use Rattle.nd_steps.specs.Places.{is_place}
use Rattle.nd_steps.proofs.EachLemmas.{often-append, each-append, each_through, never}
use Rattle.nd_steps.specs.Drafts.{arrivals, item_changes, ask_changes, sink_changes, token_changes, HasValues}
use Rattle.nd_steps.specs.declared.change.Change.{Change}
use Rattle.nd_steps.specs.declared.slot.Slot.{Slot}
use Rattle.nd_steps.specs.declared.slot.Slot.TheVariants.{Records, Request, Token, State, Unsent}
use Rattle.nd_steps.proofs.AlikeLemmas.{same_slot, other_place}
use Rattle.nd_steps.proofs.ItemsLemmas.{items_once, items_ranged}

-- ---- the changes that are found

-- the key is one of a token or of an item: its integer is in a range
abbrev pub IsRanged : Slot → Type 0
IsRanged (Token v) = Unit {0}
IsRanged (State v key) = Unit {0}
IsRanged l = ⊥

-- at every other key a change adds 1 or -1
abbrev pub IsOne : Slot → ℤ → Type 0
IsOne (Token v) z = Unit {0}
IsOne (State v key) z = Unit {0}
IsOne l z = unsigned_abs z ≤ 1

-- a token or an item changes at most once and stays in its range; everything else changes by one at a time
pub record IsSound (s : ClusterState) (cs : List Change) : Type 0 where
  pub ones : Each (λ c. IsOne c.slot c.n) cs
  pub ranged : Each (StaysRanged s) cs
  pub once : (p : ℕ) (l : Slot) → IsRanged l → often (place_at p l) cs ≤ 1

-- ---- changes by one, at no token and no item

-- the change adds 1 or -1, at no token and no item
abbrev pub IsPlain : Change → Type 0
IsPlain c = (IsRanged c.slot → ⊥) × (unsigned_abs c.n ≤ 1)

one_plain : (l : Slot) (z : ℤ) → unsigned_abs z ≤ 1 → IsOne l z
one_plain (Token v) z h = tt
one_plain (State v key) z h = tt
one_plain l z h = h

in_range : (l : Slot) (z : ℤ) → (IsRanged l → ⊥) → SlotRanged l z
in_range (Token v) z other = absurd (other tt)
in_range (State v key) z other = absurd (other tt)
in_range l z other = tt

never_plain : (p : ℕ) (l : Slot) → IsRanged l → (cs : List Change) → Each IsPlain cs → often (place_at p l) cs ≡ 0
never_plain p l ranged cs plain =
    never IsPlain (place_at p l) (λ c h. other_place (place_at p l) (place_of c) (λ e. h.0 (subst IsRanged (same_slot p c.p l c.slot e) ranged))) cs plain

module _ (s : ClusterState) where
  pub sound_more : (cs ds : List Change) → IsSound s cs → Each IsPlain ds → IsSound s (cs ++ ds)
  sound_more cs ds h plain = record {
    ones = each-append (λ c. IsOne c.slot c.n) cs ds h.ones (each_through IsPlain (λ c. IsOne c.slot c.n) (λ c i. one_plain c.slot c.n i.1) ds plain);
    ranged = each-append (StaysRanged s) cs ds h.ranged (each_through IsPlain (StaysRanged s) (λ c i. in_range c.slot (standing s (place_of c) +ℤ c.n) i.0) ds plain);
    once = λ p l ranged.
        let a = often-append (place_at p l) cs ds in
        let n = never_plain p l ranged ds plain in
        let t = h.once p l ranged in
        omega (arith, a, n, t);
  }

  pub sound_none : IsSound s []
  sound_none = record { ones = tt; ranged = tt; once = λ p l ranged. omega arith }

  -- the changes of a vertex's items, after plain ones
  pub sound_items : (p vertex : ℕ) (n : Items) (es : List ItemEdit) → LeadsTo (items_at (processor s p) vertex) es n → All HasValues es → (cs : List Change) → Each IsPlain cs
      → IsSound s (cs ++ item_changes p vertex es)
  sound_items p vertex n es leads values cs plain = record {
    ones = each-append (λ c. IsOne c.slot c.n) cs _ before.ones (item_ones es);
    ranged = each-append (StaysRanged s) cs _ before.ranged (items_ranged s p vertex n es leads values);
    once = λ q l ranged.
        let a = often-append (place_at q l) cs (item_changes p vertex es) in
        let m = never_plain q l ranged cs plain in
        let o = items_once p vertex es leads.can_edit.once (place_at q l) in
        omega (arith, a, m, o);
  }
    where
      before : IsSound s cs
      before = sound_more [] cs sound_none plain

      item_ones : (es : List ItemEdit) → Each (λ c. IsOne c.slot c.n) (item_changes p vertex es)
      item_ones [] = tt
      item_ones (e ∷ es) = (tt, item_ones es)

  -- the change of a token, before plain ones
  pub sound_token : (p vertex : ℕ) (z : ℤ) → unsigned_abs (standing s (place_at p (Token vertex)) +ℤ z) ≤ max_counter + 1 → (cs : List Change) → Each IsPlain cs → IsSound s (at_key p (Token vertex) z ∷ cs)
  sound_token p vertex z fits cs plain = sound_more (at_key p (Token vertex) z ∷ []) cs one plain
    where
      at_most : (b : Bool) → cond b 1 0 + 0 ≤ 1
      at_most true = omega arith
      at_most false = omega arith

      one : IsSound s (at_key p (Token vertex) z ∷ [])
      one = record { ones = (tt, tt); ranged = (fits, tt); once = λ q l ranged. at_most (is_place (place_at q l) (place_at p (Token vertex))) }

-- ---- which of them are plain

-- the same at a key of another map, and in what p has to send
pub two_plain : (p q : ℕ) (l : Slot) (x : Pointstamp) (n : ℤ) → (IsRanged l → ⊥) → unsigned_abs n ≤ 1 → (cs : List Change) → Each IsPlain cs → Each IsPlain (at_key q l n ∷ at_key p (Unsent x) n ∷ cs)
two_plain p q l x n other one cs plain = ((other, one), (((λ h. h), one), plain))

pub arrivals_plain : (p : ℕ) (rs : List (ℕ × ValueAt)) → Each IsPlain (arrivals p rs)
arrivals_plain p [] = tt
arrivals_plain p (r ∷ rs) = two_plain p r.0 (Records r.1) r.1.point (pos 1) (λ h. h) (omega arith) (arrivals p rs) (arrivals_plain p rs)

pub ask_plain : (p : ℕ) (x : Pointstamp) (asks : Bool) → Each IsPlain (ask_changes p x asks)
ask_plain p x true = two_plain p p (Request x) x (pos 1) (λ h. h) (omega arith) [] tt
ask_plain p x false = tt

pub sink_plain : (p : ℕ) (key : SinkKey) (sink : Bool) → Each IsPlain (sink_changes p key sink)
sink_plain p key true = (((λ h. h), omega arith), tt)
sink_plain p key false = tt

-- a change of what p has to send
sent_plain : (p : ℕ) (x : Pointstamp) (n : ℤ) → unsigned_abs n ≤ 1 → IsPlain (at_key p (Unsent x) n)
sent_plain p x n one = ((λ h. h), one)

pub token_sound : (s : ClusterState) (p vertex epoch : ℕ) (next : Afterwards) → fin.get (processor s p).tokens vertex ≡ Some epoch → epoch ≤ max_counter → (next ≡ token.Next → epoch < max_counter) → NextIsSmall next
    → IsSound s (token_changes p vertex epoch next)
token_sound s p vertex epoch token.Stay held fits goes small = sound_none s
token_sound s p vertex epoch token.Close held fits goes small =
    let e : standing s (place_at p (Token vertex)) ≡ pos (epoch + 1) = ap from_epoch held in
    sound_token s p vertex (negsuc epoch) (omega (arith, ints, e)) _ (sent_plain p (token_point vertex epoch) (negsuc 0) (omega arith), tt)
token_sound s p vertex epoch token.Next held fits goes small =
    let e : standing s (place_at p (Token vertex)) ≡ pos (epoch + 1) = ap from_epoch held in
    let h = goes refl in
    sound_token s p vertex (pos 1) (omega (arith, ints, e, h)) _ (sent_plain p (token_point vertex epoch) (negsuc 0) (omega arith), (sent_plain p (token_point vertex (epoch + 1)) (pos 1) (omega arith), tt))
token_sound s p vertex epoch (token.To n) held fits goes small =
    let e : standing s (place_at p (Token vertex)) ≡ pos (epoch + 1) = ap from_epoch held in
    sound_token s p vertex (pos n -ℤ pos epoch) (omega (arith, ints, e, small)) _ (sent_plain p (token_point vertex epoch) (negsuc 0) (omega arith), (sent_plain p (token_point vertex n) (pos 1) (omega arith), tt))
