-- Pointstamps are compared field by field, and lists of them one by one.
use Rattle.std.proofs.Common.{Bool, true, false, ◌≡◌, ◌≢◌, ℕ, List, refl, sym, ◌∙◌, ap, MatchBool}
use Rattle.std.specs.Bool.{Decides}
use Rattle.std.specs.Str.{bytes_eq}
use Rattle.std.proofs.Math.Bool.{◌&&◌}
use Rattle.std.proofs.Math.Dec.{eqb}
use Rattle.std.proofs.lemmas.Bool.Decides.{Decides-and, Decides-eqb}
use Rattle.std.proofs.lemmas.Slice.Eq.{bytes_eq-Decides}
use Rattle.nd_paths.specs.declared.point.Pointstamp.{Pointstamp}

abbrev made : ℕ → ℕ → List ℕ → Pointstamp
made l e c = record { location = l; time = record { epoch = e; counters = c } }

same_made : (l m e f : ℕ) (c d : List ℕ) → l ≡ m → e ≡ f → c ≡ d → made l e c ≡ made m f d
same_made l m e f c d p q r = rw (p, q, r) refl

-- the test of all fields decides whether two pointstamps are equal
pub points_tell : (a b : Pointstamp) → Decides (eqb a.location b.location && (eqb a.time.epoch b.time.epoch && bytes_eq a.time.counters b.time.counters)) (a ≡ b)
points_tell a b =
    let all = Decides-and _ _ (Decides-eqb a.location b.location) (Decides-and _ _ (Decides-eqb a.time.epoch b.time.epoch) (bytes_eq-Decides a.time.counters b.time.counters)) in (
      λ yes. same_made a.location b.location a.time.epoch b.time.epoch a.time.counters b.time.counters (all.0 yes).0 (all.0 yes).1.0 (all.0 yes).1.1,
      λ same. all.1 (ap (λ p. p.location) same, (ap (λ p. p.time.epoch) same, ap (λ p. p.time.counters) same)),
    )

-- what is decided for two values is decided for what they represent
pub matched : (r : Bool) {A : Type 0} (x y s t : A) → s ≡ x → t ≡ y → Decides r (s ≡ t) → MatchBool r (x ≡ y) (x ≢ y)
matched true x y s t p q d = sym p ∙ d.0 refl ∙ q
matched false x y s t p q d = λ same. absurd (cc (d.1 (p ∙ same ∙ sym q)))
