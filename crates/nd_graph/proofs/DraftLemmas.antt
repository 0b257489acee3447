-- Lists that are read item by item.
use Rattle.std.proofs.Common.{◌≡◌, ◌∙◌, ℕ, ◌+◌, ◌<◌, zero, suc, List, [], ◌∷◌, ◌++◌, length, take, get_or, map, refl, sym, ap, arith, Option, Some, None, option_map, option_and_then}
use Rattle.std.proofs.lemmas.List.{take_more}
use Rattle.nd_graph.specs.Draft.{every}

-- one item in front of those that were read
abbrev in_front : {X : Type 0} → Option X → Option (List X) → Option (List X)
in_front first rest = option_and_then (λ x. option_map (λ xs. x ∷ xs) rest) first

in_front-more : {X : Type 0} (first : Option X) (rest longer : Option (List X)) (xs : List X) (x : X)
    → ((ys : List X) → rest ≡ Some ys → longer ≡ Some (ys ++ x ∷ [])) → in_front first rest ≡ Some xs → in_front first longer ≡ Some (xs ++ x ∷ [])
in_front-more None rest longer xs x h e = cc
in_front-more (Some y) None longer xs x h e = cc
in_front-more (Some y) (Some ys) longer xs x h e =
    let whole : xs ≡ y ∷ ys = cc in
    rw (h ys refl, whole) refl

every-push : {D X : Type 0} (read : D → Option X) (ds : List D) (d : D) (xs : List X) (x : X)
    → every read ds ≡ Some xs → read d ≡ Some x → every read (ds ++ d ∷ []) ≡ Some (xs ++ x ∷ [])
every-push read [] d xs x e h =
    let none : xs ≡ [] = cc in
    rw (h, none) refl
every-push read (c ∷ ds) d xs x e h =
    in_front-more (read c) (every read ds) (every read (ds ++ d ∷ [])) xs x (λ ys f. every-push read ds d ys x f h) e

-- one more item is read
pub every-next : {D X : Type 0} (read : D → Option X) (ds : List D) (d : D) (i : ℕ) (xs : List X) (x : X)
    → i < length ds → d ≡ get_or ds i d → every read (take i ds) ≡ Some xs → read d ≡ Some x
    → every read (take (i + 1) ds) ≡ Some (xs ++ x ∷ [])
every-next read ds d i xs x within at e h =
    ap (every read) (take_more ds i d within ∙ ap (λ y. take i ds ++ y ∷ []) (sym at)) ∙ every-push read (take i ds) d xs x e h

in_front-none : {X : Type 0} (first : Option X) → in_front first None ≡ None
in_front-none None = refl
in_front-none (Some x) = refl

-- if an item cannot be read, the list cannot be read
pub every-refused : {D X : Type 0} (read : D → Option X) (ds : List D) (d : D) (i : ℕ)
    → i < length ds → d ≡ get_or ds i d → read d ≡ None → every read ds ≡ None
every-refused read [] d i within at h = absurd (omega arith)
every-refused read (c ∷ ds) d zero within at h = rw (sym at, h) refl
every-refused read (c ∷ ds) d (suc i) within at h =
    rw (every-refused read ds d i (omega arith) at h) (in_front-none (read c))

-- the same if the items are seen as other values
every-map : {V D X : Type 0} (seen : V → D) (read : D → Option X) (vs : List V) → every read (map seen vs) ≡ every (λ v. read (seen v)) vs
every-map seen read [] = refl
every-map seen read (v ∷ vs) = ap (in_front (read (seen v))) (every-map seen read vs)

pub every_seen-next : {V D X : Type 0} (seen : V → D) (read : D → Option X) (vs : List V) (v : V) (i : ℕ) (xs : List X) (x : X)
    → i < length vs → v ≡ get_or vs i v → every read (map seen (take i vs)) ≡ Some xs → read (seen v) ≡ Some x
    → every read (map seen (take (i + 1) vs)) ≡ Some (xs ++ x ∷ [])
every_seen-next seen read vs v i xs x within at e h =
    every-map seen read (take (i + 1) vs)
    ∙ every-next (λ w. read (seen w)) vs v i xs x within at (sym (every-map seen read (take i vs)) ∙ e) h

pub every_seen-refused : {V D X : Type 0} (seen : V → D) (read : D → Option X) (vs : List V) (v : V) (i : ℕ)
    → i < length vs → v ≡ get_or vs i v → read (seen v) ≡ None → every read (map seen vs) ≡ None
every_seen-refused seen read vs v i within at h = every-map seen read vs ∙ every-refused (λ w. read (seen w)) vs v i within at h
