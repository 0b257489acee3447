-- Laws of the bytes that a reader has left and that a writer has written, if it knows them.
use Rattle.std.proofs.Common.{◌≡◌, ◌∙◌, ℕ, List, [], ◌++◌, Option, Some, None, refl, sym, ap, subst, append_assoc}
use Rattle.std.proofs.lemmas.Grind.{flat_map-append}
use Rattle.std.proofs.lemmas.List.{append-nil}
use Rattle.std.specs.Io.KnownBytes.{Appends, Consumes, IsAtEnd, Keeps}
use Rattle.serde_json.specs.Data.{Data}
use Rattle.rewind_lines.specs.Texts.{reply_text, text_of}

abbrev pub Known : Type 0
Known = Option (List ℕ)

-- ---- a writer

pub Appends-append : (a b c : Known) (xs ys : List ℕ) → Appends a b xs → Appends b c ys → Appends a c (xs ++ ys)
Appends-append None b c xs ys h k = tt
Appends-append (Some x) None c xs ys h k = absurd h
Appends-append (Some x) (Some y) None xs ys h k = absurd k
Appends-append (Some x) (Some y) (Some z) xs ys h k = k ∙ (ap (λ w. w ++ ys) h ∙ append_assoc x xs ys)

Appends-some : (b : Known) (x bs : List ℕ) → Appends (Some x) b bs → b ≡ Some (x ++ bs)
Appends-some None x bs h = absurd h
Appends-some (Some y) x bs h = ap Some h

-- the bytes written so far, after one more write
pub written-on : (old new : Known) (before sent bs : List ℕ) → old ≡ Some (before ++ sent) → Appends old new bs → new ≡ Some (before ++ (sent ++ bs))
written-on old new before sent bs e h =
    Appends-some new (before ++ sent) bs (subst (λ (o : Known). Appends o new bs) e h) ∙ ap Some (append_assoc before sent bs)

pub text_of-append : (xs ys : List Data) → text_of (xs ++ ys) ≡ text_of xs ++ text_of ys
text_of-append xs ys = flat_map-append reply_text xs ys

-- ---- a reader

Consumes-some : (b : Known) (x bs : List ℕ) → Consumes (Some x) b bs → (ys : List ℕ) × (b ≡ Some ys) × (x ≡ bs ++ ys)
Consumes-some None x bs h = absurd h
Consumes-some (Some y) x bs h = (y, refl, h)

Keeps-some : (b : Known) (x : List ℕ) → Keeps (Some x) b → b ≡ Some x
Keeps-some None x h = absurd h
Keeps-some (Some y) x h = ap Some h

-- the bytes that a read returned, and those that it left in the source
pub read-on : (input taken rest piece : List ℕ) (old new : Known) → input ≡ taken ++ rest → old ≡ Some rest → Consumes old new piece
    → (more : List ℕ) × (new ≡ Some more) × (input ≡ (taken ++ piece) ++ more)
read-on input taken rest piece old new whole told h =
    let c = Consumes-some new rest piece (subst (λ (o : Known). Consumes o new piece) told h) in
    (c.0, c.1, whole ∙ (ap (λ zs. taken ++ zs) c.2 ∙ sym (append_assoc taken piece c.0)))

-- after a read that returned no bytes, no bytes are left
pub read-none : (input taken rest piece : List ℕ) (old new : Known) → input ≡ taken ++ rest → old ≡ Some rest → Consumes old new piece → piece ≡ [] → IsAtEnd new
    → (new ≡ Some []) × (input ≡ taken)
read-none input taken rest piece old new whole told h none end =
    let r = read-on input taken rest piece old new whole told h in
    let more : r.0 ≡ [] = subst IsAtEnd r.1 end in
    (r.1 ∙ ap Some more, r.2 ∙ (ap (λ zs. (taken ++ piece) ++ zs) more ∙ (append-nil (taken ++ piece) ∙ (ap (λ zs. taken ++ zs) none ∙ append-nil taken))))

-- a failed read leaves the source as it was
pub read-failed : (rest : List ℕ) (old new : Known) → old ≡ Some rest → Keeps old new → new ≡ Some rest
read-failed rest old new told h = Keeps-some new rest (subst (λ (o : Known). Keeps o new) told h)
