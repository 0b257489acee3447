-- What a caller reads of an option after a parse, if the words give it. The first lemmas are clap's own, which it keeps private.
use Rattle.std.proofs.Common.{◌++◌, ◌||◌, ◌≡◌, ◌∙◌, ◌<◌, ◌≤◌, ap, ℕ, Bool, true, false, List, [], ◌∷◌, length, is_some, Option, Some, None, refl, sym, subst, inl, inr, arith, ◌^◌}
use Rattle.std.specs.List.{All, slice_index_or}
use Rattle.std.specs.Str.{bytes_eq}
use Rattle.std.specs.Prelude.{option_map, slice_get, unwrap_or, pos, Ok, Result}
use Rattle.std.specs.Borrow.{Bor}
use Rattle.std.specs.Str.Parse.{ParsesUnsigned}
use Rattle.clap.specs.Lexer.{without_minus}
use Rattle.std.proofs.lemmas.Slice.Eq.{bytes_eq-Decides}
use Rattle.std.proofs.lemmas.List.Elements.{All-get_or}
use Rattle.clap.specs.Facts.{args_of, groups_of, Entry, EntryPasses, ValuesPass, PassesArg, HasReading, parser_of, parser_of_value}
use Rattle.clap.specs.Built.{IsPlain, IsPlainArg, IsParsedFrom, IsAuto, AddsArg, SameRules}
use Rattle.clap.specs.Matches.{matched_of, first_value, one_text, found_of, ReadsOne}
use Rattle.clap.specs.declared.parser.matches.Found.{Found}
use Rattle.clap.specs.Values.{Accepts, read_as, reading_of}
use Rattle.clap.specs.declared.builder.value_parser.Reading.{Reading}
use Rattle.clap.proofs.CallerLemmas.{entry_by_id, same_rules_by_id, added_plain}
use Rattle.std.proofs.lemmas.List.Elements.{All-nil}
use Rattle.clap.specs.declared.builder.arg.Arg.{Arg}
use Rattle.clap.specs.declared.builder.command.Command.{Command}
use Rattle.clap.specs.declared.builder.command.Command.TheViews.{out-Command}
use Rattle.clap.specs.declared.builder.value_parser.ValueParser.{ValueParser}
use Rattle.clap.specs.declared.parser.matches.ArgMatches.{ArgMatches}
use Rattle.clap.specs.declared.parser.matches.MatchedArg.{MatchedArg}
use Rattle.std.proofs.Common.{zero, suc, ap₂, true≢false}
use Rattle.clap.specs.Built.{FitsChain}
use Rattle.clap.specs.declared.builder.value_parser.ValueParser.TheVariants as vp
use Rattle.clap.proofs.CallerReads.{signed_reads}
use Rattle.rewind_options.specs.Options.{number_or_one}

head_passes : (P : Bor (List ℕ) → Type 0) (how : Reading) (vs : List (Bor (List ℕ))) → All P vs
    → is_some (option_map (λ s. s.now) (slice_get vs 0)) ≡ true
    → (v : Bor (List ℕ)) × (option_map (λ s. read_as how s.now) (slice_get vs 0) ≡ Some (read_as how v.now)) × P v
head_passes P how [] h some = cc
head_passes P how (v ∷ vs) h some = (v, refl, All-get_or P (v ∷ vs) 0 v (omega arith) h)

one_text_at_entry : (f : Found) (id : List ℕ) (x : MatchedArg) (how : Reading) (t : List ℕ) → matched_of f id ≡ Some x → x.reading ≡ how
    → option_map (λ s. read_as how s.now) (slice_get x.vals.items 0) ≡ Some t → one_text f id ≡ Some t
one_text_at_entry f id x how t found is v = rw (found, is) v

-- an argument with the id of the caller's argument is read as the caller's parser says
only_reading : (old : Command) (m : ArgMatches) (p : IsParsedFrom old m) (k : ℕ) (d : Arg) → k < length (args_of old)
    → ((j : ℕ) (e : Arg) → j < length (args_of old)
    → bytes_eq (slice_index_or (args_of old) j e).id.now (slice_index_or (args_of old) k d).id.now ≡ true → j ≡ k)
    → (IsAuto (slice_index_or (args_of old) k d) → ⊥)
    → (q : ValueParser) → (slice_index_or (args_of old) k d).value_parser ≡ Some q
    → (r : Reading) → HasReading p.built (slice_index_or (args_of old) k d).id.now r → r ≡ reading_of q
only_reading old m p k d lt unique own q parser r any =
    let s = same_rules_by_id old m p k d lt unique own any.0 any.1 any.2 any.3 any.4.0 in
    let is_q : parser_of any.1 ≡ q = ap parser_of_value (s.parser q parser) in
    sym any.4.1 ∙ ap reading_of is_q

accepts_of : (a y : Arg) (q : ValueParser) (t : List ℕ) → SameRules a y → a.value_parser ≡ Some q
    → Accepts y.ignore_case (parser_of y) t → Accepts a.ignore_case q t
accepts_of a y q t s parser read =
    let is_q : parser_of y ≡ q = ap parser_of_value (s.parser q parser) in
    let as_q : Accepts y.ignore_case q t = subst (λ (w : ValueParser). Accepts y.ignore_case w t) is_q read in
    subst (λ (b : Bool). Accepts b q t) s.ignore_case as_q

passes_read : (old : Command) (m : ArgMatches) (p : IsParsedFrom old m) (k : ℕ) (d : Arg) → k < length (args_of old)
    → ((j : ℕ) (e : Arg) → j < length (args_of old)
    → bytes_eq (slice_index_or (args_of old) j e).id.now (slice_index_or (args_of old) k d).id.now ≡ true → j ≡ k)
    → (IsAuto (slice_index_or (args_of old) k d) → ⊥)
    → (q : ValueParser) → (slice_index_or (args_of old) k d).value_parser ≡ Some q
    → (w : List ℕ) (v : Bor (List ℕ)) → w ≡ (slice_index_or (args_of old) k d).id.now → PassesArg p.built w v.now
    → Accepts (slice_index_or (args_of old) k d).ignore_case q v.now
passes_read old m p k d lt unique own q parser w v key pass =
    let same : bytes_eq pass.1.id.now (slice_index_or (args_of old) k d).id.now ≡ true =
    subst (λ (u : List ℕ). bytes_eq pass.1.id.now u ≡ true) key pass.4.0 in
    accepts_of _ pass.1 q v.now (same_rules_by_id old m p k d lt unique own pass.0 pass.1 pass.2 pass.3 same) parser pass.4.1

-- what one entry gives
read_of : (c : Command) (f : Found) (id : List ℕ) (Q : List ℕ → Type 0) (how : Reading) (x : MatchedArg) (e : Entry)
    → groups_of c ≡ [] → (id ≡ [] → ⊥) → ((r : Reading) → HasReading c id r → r ≡ how)
    → ((v : Bor (List ℕ)) → PassesArg c id v.now → Q v.now)
    → matched_of f id ≡ Some x → is_some (option_map (λ s. s.now) (slice_get x.vals.items 0)) ≡ true
    → e.1 ≡ x → e.0.now ≡ id → EntryPasses c e
    → (t : List ℕ) × (one_text f id ≡ Some (read_as how t)) × Q t
read_of c f id Q how x e no_groups named reads read found first same_x key_id pass =
    let no_group : e.1.is_group ≡ true → ⊥ = λ g. elim (pass.3 g) [
      | inl empty ↦ named (sym key_id ∙ empty)
      | inr lots ↦
          let bad : 0 < 0 = rw no_groups at lots in
          absurd (omega arith)
    ] in
    let all : All (λ v. PassesArg c id v.now) x.vals.items = elim pass.0 [
      | inl g ↦ absurd (no_group g)
      | inr vals ↦ subst (λ (w : List ℕ). All (λ v. PassesArg c w v.now) x.vals.items) key_id (rw same_x at vals)
    ] in
    let is : e.1.reading ≡ how = elim pass.4 [
      | inl g ↦ absurd (no_group g)
      | inr h ↦ reads e.1.reading (subst (λ (w : List ℕ). HasReading c w e.1.reading) key_id h)
    ] in
    finish (head_passes (λ v. PassesArg c id v.now) how x.vals.items all first) (ap (λ (y : MatchedArg). y.reading) (sym same_x) ∙ is)
  where
    finish : ((v : Bor (List ℕ)) × (option_map (λ s. read_as how s.now) (slice_get x.vals.items 0) ≡ Some (read_as how v.now)) × PassesArg c id v.now)
        → x.reading ≡ how → (t : List ℕ) × (one_text f id ≡ Some (read_as how t)) × Q t
    finish hd is = (hd.0.now, one_text_at_entry f id x how (read_as how hd.0.now) found is hd.1, read hd.0 hd.2)

-- what the entry of an id gives, if it belongs to an argument and has a first value
entry_read : (c : Command) (f : Found) (id : List ℕ) (Q : List ℕ → Type 0) (how : Reading) → ValuesPass c f → groups_of c ≡ [] → (id ≡ [] → ⊥)
    → is_some (first_value f id) ≡ true → ((r : Reading) → HasReading c id r → r ≡ how)
    → ((v : Bor (List ℕ)) → PassesArg c id v.now → Q v.now)
    → (t : List ℕ) × (one_text f id ≡ Some (read_as how t)) × Q t
entry_read c f id Q how values no_groups named has reads read = go (matched_of f id) refl has
  where
    step : (x : MatchedArg) → matched_of f id ≡ Some x → is_some (option_map (λ s. s.now) (slice_get x.vals.items 0)) ≡ true
        → ((e : Entry) × (e.1 ≡ x) × (bytes_eq e.0.now id ≡ true) × EntryPasses c e)
        → (t : List ℕ) × (one_text f id ≡ Some (read_as how t)) × Q t
    step x found first got =
        read_of c f id Q how x got.0 no_groups named reads read found first got.1 ((bytes_eq-Decides got.0.0.now id).0 got.2) got.3

    go : (o : Option MatchedArg) → matched_of f id ≡ o → is_some (first_value f id) ≡ true → (t : List ℕ) × (one_text f id ≡ Some (read_as how t)) × Q t
    go None e h =
        let bad : false ≡ true = rw e at h in
        cc
    go (Some x) e h = step x e (rw e at h) (entry_by_id (EntryPasses c) f.entries.items id x values e)

text_first : (f : Found) (id : List ℕ) (t : List ℕ) → one_text f id ≡ Some t → is_some (first_value f id) ≡ true
text_first f id t e = go (matched_of f id) refl e
  where
    vals : (vs : List (Bor (List ℕ))) (how : Reading) → option_map (λ s. read_as how s.now) (slice_get vs 0) ≡ Some t → is_some (option_map (λ s. s.now) (slice_get vs 0)) ≡ true
    vals [] how h = cc
    vals (v ∷ vs) how h = refl

    go : (o : Option MatchedArg) → matched_of f id ≡ o → one_text f id ≡ Some t → is_some (first_value f id) ≡ true
    go None is h =
        let bad : None ≡ Some t = rw is at h in
        cc
    go (Some x) is h = rw is (vals x.vals.items x.reading (rw is at h))

-- an option with a range from 1: the number that the words give, or 1
pub option_number : (cmd : Command) (m : ArgMatches) (p : IsParsedFrom cmd m) → IsPlain cmd → (out-Command cmd).has_globals ≡ false
    → (k : ℕ) (d : Arg) → k < length (args_of cmd)
    → ((j : ℕ) (e : Arg) → j < length (args_of cmd) → bytes_eq (slice_index_or (args_of cmd) j e).id.now (slice_index_or (args_of cmd) k d).id.now ≡ true → j ≡ k)
    → ((slice_index_or (args_of cmd) k d).id.now ≡ [] → ⊥) → (IsAuto (slice_index_or (args_of cmd) k d) → ⊥)
    → (most : ℕ) → 1 ≤ most → most < 2 ^ 8 → (slice_index_or (args_of cmd) k d).value_parser ≡ Some (vp.Signed (pos 1) (pos most))
    → (E : Type 0) (G : List ℕ → Result ℕ E → Type 0) → ((u : List ℕ) (x : Result ℕ E) → G u x → ParsesUnsigned 8 10 u x)
    → (id : List ℕ) → id ≡ (slice_index_or (args_of cmd) k d).id.now
    → (r : Option ℕ) → (one_text (found_of m) id ≡ None → r ≡ None) → ((t : List ℕ) → one_text (found_of m) id ≡ Some t → ReadsOne G t r)
    → (unwrap_or r 1 ≡ number_or_one (one_text (found_of m) id)) × (1 ≤ unwrap_or r 1) × (unwrap_or r 1 ≤ most)
option_number cmd m p plain globals k d lt unique named own most low high parser E G only id is r none value = go (one_text (found_of m) id) refl
  where
    go : (o : Option (List ℕ)) → one_text (found_of m) id ≡ o
        → (unwrap_or r 1 ≡ number_or_one (one_text (found_of m) id)) × (1 ≤ unwrap_or r 1) × (unwrap_or r 1 ≤ most)
    go None e = rw (none e, e) (refl, omega arith, low)
    go (Some t) e =
        let has : is_some (first_value (found_of m) (slice_index_or (args_of cmd) k d).id.now) ≡ true =
        subst (λ (u : List ℕ). is_some (first_value (found_of m) u) ≡ true) is (text_first (found_of m) id t e) in
        let parsed = p.parsed (p.from.globals ∙ globals) in
        let read = entry_read p.built (found_of m) (slice_index_or (args_of cmd) k d).id.now
        (λ (u : List ℕ). Accepts (slice_index_or (args_of cmd) k d).ignore_case (vp.Signed (pos 1) (pos most)) u) (reading_of (vp.Signed (pos 1) (pos most)))
        parsed.values (p.from.plain plain).1 named has
        (only_reading cmd m p k d lt unique own (vp.Signed (pos 1) (pos most)) parser)
        (λ v pass. passes_read cmd m p k d lt unique own (vp.Signed (pos 1) (pos most)) parser _ v refl pass) in
        let text : one_text (found_of m) id ≡ Some (without_minus read.0) =
        subst (λ (u : List ℕ). one_text (found_of m) u ≡ Some (without_minus read.0)) (sym is) read.1 in
        let one : ReadsOne G (without_minus read.0) r = value (without_minus read.0) text in
        let got = signed_reads E G 8 1 most read.0 r one only high read.2 in
        let given : G (without_minus read.0) (Ok got.0) = subst (λ (o : Option ℕ). ReadsOne G (without_minus read.0) o) got.1 one in
        let digits = only (without_minus read.0) (Ok got.0) given in
        rw (got.1, text) (digits.1, got.2, got.3)

-- a command of two options
pub two_options : (start c1 c2 : Command) (a b : Arg) (m : ArgMatches) → AddsArg start a c1 → AddsArg c1 b c2
    → args_of start ≡ [] → groups_of start ≡ [] → (out-Command start).has_globals ≡ false → FitsChain a → FitsChain b
    → bytes_eq a.id.now b.id.now ≡ false → bytes_eq b.id.now a.id.now ≡ false → IsParsedFrom c2 m
    → (most_a most_b : ℕ) → 1 ≤ most_a → most_a < 2 ^ 8 → 1 ≤ most_b → most_b < 2 ^ 8
    → a.value_parser ≡ Some (vp.Signed (pos 1) (pos most_a)) → b.value_parser ≡ Some (vp.Signed (pos 1) (pos most_b))
    → (E : Type 0) (G : List ℕ → Result ℕ E → Type 0) → ((u : List ℕ) (x : Result ℕ E) → G u x → ParsesUnsigned 8 10 u x)
    → (r s : Option ℕ)
    → (one_text (found_of m) a.id.now ≡ None → r ≡ None) → ((t : List ℕ) → one_text (found_of m) a.id.now ≡ Some t → ReadsOne G t r)
    → (one_text (found_of m) b.id.now ≡ None → s ≡ None) → ((t : List ℕ) → one_text (found_of m) b.id.now ≡ Some t → ReadsOne G t s)
    → ((unwrap_or r 1 ≡ number_or_one (one_text (found_of m) a.id.now)) × (1 ≤ unwrap_or r 1) × (unwrap_or r 1 ≤ most_a))
    × ((unwrap_or s 1 ≡ number_or_one (one_text (found_of m) b.id.now)) × (1 ≤ unwrap_or s 1) × (unwrap_or s 1 ≤ most_b))
two_options start c1 c2 a b m one two args groups globals fit_a fit_b ab ba p most_a most_b low_a high_a low_b high_b parser_a parser_b E G only r s none_a value_a none_b value_b =
    let list : args_of c2 ≡ one.arg ∷ two.arg ∷ [] = two.args ∙ (ap (λ l. l ++ two.arg ∷ []) (one.args ∙ ap (λ l. l ++ one.arg ∷ []) args)) in
    let plain0 : IsPlain start = (subst (All IsPlainArg) (sym args) (All-nil IsPlainArg), groups) in
    let plain2 : IsPlain c2 = added_plain c1 c2 b two (added_plain start c1 a one plain0 fit_a.0) fit_b.0 in
    let globals1 : (out-Command c1).has_globals ≡ false = one.globals ∙ (ap (λ t. t || a.global) globals ∙ ap (λ t. false || t) fit_a.1) in
    let globals2 : (out-Command c2).has_globals ≡ false = two.globals ∙ (ap (λ t. t || b.global) globals1 ∙ ap (λ t. false || t) fit_b.1) in
    let at0 = λ (e : Arg). ap (λ l. slice_index_or l 0 e) list in
    let at1 = λ (e : Arg). ap (λ l. slice_index_or l 1 e) list in
    let id0 : (e : Arg) → (slice_index_or (args_of c2) 0 e).id.now ≡ a.id.now = λ e. ap (λ z. z.id.now) (at0 e) ∙ ap (λ z. z.now) one.rules.id in
    let id1 : (e : Arg) → (slice_index_or (args_of c2) 1 e).id.now ≡ b.id.now = λ e. ap (λ z. z.id.now) (at1 e) ∙ ap (λ z. z.now) two.rules.id in
    let size : length (args_of c2) ≡ 2 = ap length list in
    let own0 : IsAuto (slice_index_or (args_of c2) 0 a) → ⊥ = λ h. fit_a.3 (elim h [ inl x ↦ inl (sym (id0 a) ∙ x) | inr x ↦ inr (sym (id0 a) ∙ x) ]) in
    let own1 : IsAuto (slice_index_or (args_of c2) 1 b) → ⊥ = λ h. fit_b.3 (elim h [ inl x ↦ inl (sym (id1 b) ∙ x) | inr x ↦ inr (sym (id1 b) ∙ x) ]) in (
      option_number c2 m p plain2 globals2 0 a (omega arith) (first a id0 id1 size) (λ h. fit_a.2 (sym (id0 a) ∙ h)) own0 most_a low_a high_a
          (ap (λ z. z.value_parser) (at0 a) ∙ one.rules.parser _ parser_a) E G only a.id.now (sym (id0 a)) r none_a value_a,
      option_number c2 m p plain2 globals2 1 b (omega arith) (second b id0 id1 size) (λ h. fit_b.2 (sym (id1 b) ∙ h)) own1 most_b low_b high_b
          (ap (λ z. z.value_parser) (at1 b) ∙ two.rules.parser _ parser_b) E G only b.id.now (sym (id1 b)) s none_b value_b,
    )
  where
    first : (d : Arg) → ((e : Arg) → (slice_index_or (args_of c2) 0 e).id.now ≡ a.id.now) → ((e : Arg) → (slice_index_or (args_of c2) 1 e).id.now ≡ b.id.now)
        → length (args_of c2) ≡ 2 → (j : ℕ) (e : Arg) → j < length (args_of c2)
        → bytes_eq (slice_index_or (args_of c2) j e).id.now (slice_index_or (args_of c2) 0 d).id.now ≡ true → j ≡ 0
    first d id0 id1 size zero e lt same = refl
    first d id0 id1 size (suc zero) e lt same = absurd (true≢false (sym same ∙ (ap₂ bytes_eq (id1 e) (id0 d) ∙ ba)))
    first d id0 id1 size (suc (suc j)) e lt same = absurd (omega arith)

    second : (d : Arg) → ((e : Arg) → (slice_index_or (args_of c2) 0 e).id.now ≡ a.id.now) → ((e : Arg) → (slice_index_or (args_of c2) 1 e).id.now ≡ b.id.now)
        → length (args_of c2) ≡ 2 → (j : ℕ) (e : Arg) → j < length (args_of c2)
        → bytes_eq (slice_index_or (args_of c2) j e).id.now (slice_index_or (args_of c2) 1 d).id.now ≡ true → j ≡ 1
    second d id0 id1 size zero e lt same = absurd (true≢false (sym same ∙ (ap₂ bytes_eq (id0 e) (id1 d) ∙ ab)))
    second d id0 id1 size (suc zero) e lt same = refl
    second d id0 id1 size (suc (suc j)) e lt same = absurd (omega arith)
