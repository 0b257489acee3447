-- Lists that are read item by item.
use Rattle.std.proofs.Common.{◌≡◌, ◌∙◌, ℕ, suc, ◌+◌, ◌<◌, ◌≤◌, List, [], ◌∷◌, ◌++◌, length, drop, get_or, map, refl, sym, ap, append_assoc, Bool, true, false, cond, Option, Some, None, is_some, ◌&&◌, option_map, option_and_then}
use Rattle.std.specs.Option.{unwrap_or}
use Rattle.std.proofs.lemmas.List.{append-nil, at_drop_all, at_drop_more}
use Rattle.nd_graph.specs.Draft.{every}
use Rattle.rewind_forms.specs.Forms.{are_read, all_read}

-- the items that were read, followed by the others
abbrev after : {X : Type 0} → List X → Option (List X) → Option (List X)
after xs rest = option_map (λ ys. xs ++ ys) rest

after-more : {X : Type 0} (xs : List X) (x : X) (rest : Option (List X)) → after xs (option_map (λ ys. x ∷ ys) rest) ≡ after (xs ++ x ∷ []) rest
after-more xs x None = refl
after-more xs x (Some ys) = ap Some (sym (append_assoc xs (x ∷ []) ys))

after-none : {X : Type 0} (rest : Option (List X)) → rest ≡ after [] rest
after-none None = refl
after-none (Some ys) = refl

checked-cons : {X : Type 0} (o : Option X) (rest : Option (List X)) (b : Bool) → rest ≡ cond b (Some (unwrap_or rest [])) None
    → let all = option_and_then (λ x. option_map (λ xs. x ∷ xs) rest) o in all ≡ cond (is_some o && b) (Some (unwrap_or all [])) None
checked-cons None rest b h = refl
checked-cons (Some x) None true h = absurd (cc)
checked-cons (Some x) None false h = refl
checked-cons (Some x) (Some xs) true h = refl
checked-cons (Some x) (Some xs) false h = absurd (cc)

-- a list is read exactly if each of its items can be read
every-checked : {D X : Type 0} (read : D → Option X) (ds : List D) → every read ds ≡ cond (are_read read ds) (Some (all_read read ds)) None
every-checked read [] = refl
every-checked read (d ∷ ds) = checked-cons (read d) (every read ds) (are_read read ds) (every-checked read ds)

pub every-true : {D X : Type 0} (read : D → Option X) (ds : List D) → are_read read ds ≡ true → Some (all_read read ds) ≡ every read ds
every-true read ds h = sym (every-checked read ds ∙ ap (λ b. cond b (Some (all_read read ds)) None) h)

pub every-false : {D X : Type 0} (read : D → Option X) (ds : List D) → are_read read ds ≡ false → None ≡ every read ds
every-false read ds h = sym (every-checked read ds ∙ ap (λ b. cond b (Some (all_read read ds)) None) h)

-- as many are read as there are
pub every-length : {D X : Type 0} (read : D → Option X) (ds : List D) (xs : List X) → every read ds ≡ Some xs → length xs ≡ length ds
every-length {D} {X} read [] xs e = let same : [] ≡ xs = cc in ap length (sym same)
every-length {D} {X} read (d ∷ ds) xs e = more (read d) (every read ds) (λ ys is. every-length read ds ys is) e
  where
    more : (o : Option X) (rest : Option (List X)) → ((ys : List X) → rest ≡ Some ys → length ys ≡ length ds)
        → option_and_then (λ x. option_map (λ ys. x ∷ ys) rest) o ≡ Some xs → length xs ≡ suc (length ds)
    more None rest h k = absurd (cc)
    more (Some x) None h k = absurd (cc)
    more (Some x) (Some ys) h k = let same : x ∷ ys ≡ xs = cc in ap length (sym same) ∙ ap suc (h ys refl)

module _ {V D X : Type 0} (seen : V → D) (read : D → Option X) (vs : List V) where
  -- no item is read yet
  pub read_start : (xs : List X) → xs ≡ [] → every read (map seen vs) ≡ option_map (λ ys. xs ++ ys) (every read (map seen (drop 0 vs)))
  read_start xs none = after-none (every read (map seen vs)) ∙ ap (λ ys. after ys (every read (map seen vs))) (sym none)

  -- the next item is read
  next : (v : V) (i : ℕ) (xs : List X) (o : Option X) → i < length vs → v ≡ get_or vs i v → read (seen v) ≡ o
      → after xs (every read (map seen (drop i vs)))
      ≡ after xs (option_and_then (λ x. option_map (λ ys. x ∷ ys) (every read (map seen (drop (i + 1) vs)))) o)
  next v i xs o lt is here =
      let rest = λ (p : Option X). after xs (option_and_then (λ x. option_map (λ ys. x ∷ ys) (every read (map seen (drop (i + 1) vs)))) p) in
      at_drop_more (λ ws. after xs (every read (map seen ws))) vs i v lt
      ∙ ap (λ w. rest (read (seen w))) (sym is)
      ∙ ap rest here

  pub read_more : (v : V) (i : ℕ) (xs : List X) (x : X) → i < length vs → v ≡ get_or vs i v → read (seen v) ≡ Some x
      → every read (map seen vs) ≡ option_map (λ ys. xs ++ ys) (every read (map seen (drop i vs)))
      → every read (map seen vs) ≡ option_map (λ ys. (xs ++ x ∷ []) ++ ys) (every read (map seen (drop (i + 1) vs)))
  read_more v i xs x lt is here before =
      before ∙ next v i xs (Some x) lt is here ∙ after-more xs x (every read (map seen (drop (i + 1) vs)))

  -- the next item cannot be read
  pub read_none : (v : V) (i : ℕ) (xs : List X) → i < length vs → v ≡ get_or vs i v → read (seen v) ≡ None
      → every read (map seen vs) ≡ option_map (λ ys. xs ++ ys) (every read (map seen (drop i vs)))
      → None ≡ every read (map seen vs)
  read_none v i xs lt is here before = sym (before ∙ next v i xs None lt is here)

  -- all items are read
  pub read_all : (i : ℕ) (xs : List X) → length vs ≤ i
      → every read (map seen vs) ≡ option_map (λ ys. xs ++ ys) (every read (map seen (drop i vs)))
      → Some xs ≡ every read (map seen vs)
  read_all i xs all before =
      sym (before ∙ at_drop_all (λ ws. after xs (every read (map seen ws))) vs i all ∙ ap Some (append-nil xs))

  -- nothing is read of a list with an item that cannot be read
  pub read_nothing : (v : V) (i : ℕ) (xs : List X) → i < length vs → v ≡ get_or vs i v → read (seen v) ≡ None
      → every read (map seen vs) ≡ option_map (λ ys. xs ++ ys) (every read (map seen (drop i vs)))
      → [] ≡ all_read read (map seen vs)
  read_nothing v i xs lt is here before = ap (λ o. unwrap_or o []) (read_none v i xs lt is here before)

  pub read_list : (i : ℕ) (xs : List X) → length vs ≤ i
      → every read (map seen vs) ≡ option_map (λ ys. xs ++ ys) (every read (map seen (drop i vs)))
      → xs ≡ all_read read (map seen vs)
  read_list i xs all before = ap (λ o. unwrap_or o []) (read_all i xs all before)
