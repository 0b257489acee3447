-- Reading more of a script.
use Rattle.std.proofs.Common.{◌≡◌, ◌∙◌, ℕ, ◌+◌, ◌<◌, ◌≤◌, false, List, [], ◌∷◌, ◌++◌, length, take, drop, Option, Some, refl, sym, ap, subst, arith, length-append}
use Rattle.std.proofs.lemmas.List.{length-take}
use Rattle.std.proofs.Math.Seq.{drop-append_seam}
use Rattle.std.specs.Io.KnownBytes.{Consumes, IsAtEnd, Keeps}
use Rattle.rewind_lines.specs.Cuts.{lines-count, lines-split, whole_lines-empty, whole_lines-newline, whole_lines-on}
use Rattle.rewind_lines.specs.Front.{held_of}
use Rattle.rewind_lines.specs.Known.{read-failed, read-none, read-on}
use Rattle.rewind_lines.specs.Lines.{Reading, has_newline, last_line_of, lines_of, reading_of, whole_lines_of}
use Rattle.rewind_options.specs.declared.options.Options.{Options}
use Rattle.rewind_clients.specs.Intake.{Intake, Reads, ReadsLine, limit_after, nothing}
use Rattle.rewind_clients.specs.Intakes.{intake_view}
use Rattle.rewind_clients.specs.Clients.{ReadPart, ReadWhole}
use Rattle.rewind_clients.specs.Readers.{Going, StandsAt}
use Rattle.nd_time.specs.Limits.{max_line}
use Rattle.rewind_clients.specs.declared.intake.Intake as declared
use Rattle.rewind_clients.specs.declared.reader.Reader.{Reader}

-- one more line is read
pub Reads-push : (processors clients : ℕ) (old mid new : Intake) (k n : ℕ) (lines : List (List ℕ)) (line : List ℕ) → n ≡ k + length lines
    → Reads processors clients old k lines mid → ReadsLine processors clients mid n (reading_of (limit_after mid) line) new → Reads processors clients old k (lines ++ line ∷ []) new
unfolding Reads
Reads-push processors clients old mid new k n [] line e h a =
    let same : n ≡ k = omega arith in
    let mine : ReadsLine processors clients old n (reading_of (limit_after old) line) new = subst (λ (p : Intake). ReadsLine processors clients p n (reading_of (limit_after p) line) new) h a in
    (new, subst (λ (m : ℕ). ReadsLine processors clients old m (reading_of (limit_after old) line) new) same mine, refl)
Reads-push processors clients old mid new k n (l ∷ ls) line e h a =
    let count : n ≡ (k + 1) + length ls = omega arith in
    (h.0, h.1, Reads-push processors clients h.0 mid new (k + 1) n ls line count h.2 a)

pub stands-new : (o : Options) (r : Reader) → r.lines ≡ held_of max_line [] → intake_view r.intake ≡ nothing → r.options ≡ o → StandsAt o [] r
unfolding Reads
stands-new o r held none same = record { held = held ∙ ap (λ (i : Intake). held_of (limit_after i) []) (sym none); reads = rw whole_lines-empty none; same = same }

-- more bytes of the same line
pub stands-on : (o : Options) (done bytes : List ℕ) (r next : Reader) → has_newline bytes ≡ false → StandsAt o done r
    → ((limit : ℕ) (d : List ℕ) → r.lines ≡ held_of limit d → next.lines ≡ held_of limit (d ++ bytes)) → next.intake ≡ r.intake → next.options ≡ r.options
    → StandsAt o (done ++ bytes) next
stands-on o done bytes r next none s hold intake same = record {
  held = hold _ done s.held ∙ ap (λ (i : declared.Intake). held_of (limit_after (intake_view i)) (done ++ bytes)) (sym intake);
  reads = rw (whole_lines-on done bytes none, intake) s.reads;
  same = same ∙ s.same;
}

-- the next line begins
pub stands-next : (o : Options) (done : List ℕ) (r next : Reader) (number : ℕ) (reading : Reading) → StandsAt o done r → number ≡ r.lines.number → reading ≡ reading_of (limit_after (intake_view r.intake)) (last_line_of done)
    → ReadsLine r.options.processors r.options.clients (intake_view r.intake) number reading (intake_view next.intake)
    → ((limit : ℕ) (d : List ℕ) → r.lines ≡ held_of limit d → next.lines ≡ held_of (limit_after (intake_view next.intake)) (d ++ 10 ∷ [])) → next.options ≡ r.options
    → StandsAt o (done ++ 10 ∷ []) next
stands-next o done r next number reading s at is a hold same = record {
  held = hold _ done s.held;
  reads =
      let b : ReadsLine o.processors o.clients (intake_view r.intake) number reading (intake_view next.intake) =
      subst (λ (p : Options). ReadsLine p.processors p.clients (intake_view r.intake) number reading (intake_view next.intake)) s.same a in
      let d : ReadsLine o.processors o.clients (intake_view r.intake) number (reading_of (limit_after (intake_view r.intake)) (last_line_of done)) (intake_view next.intake) =
      subst (λ (l : Reading). ReadsLine o.processors o.clients (intake_view r.intake) number l (intake_view next.intake)) is b in
      let count : number ≡ 1 + length (whole_lines_of done) = at ∙ (ap (λ h. h.number) s.held ∙ lines-count done) in
      rw (whole_lines-newline done, lines-split done)
      (Reads-push o.processors o.clients nothing (intake_view r.intake) (intake_view next.intake) 1 number (whole_lines_of done) (last_line_of done) count s.reads d);
  same = same ∙ s.same;
}

-- ---- the complete script

-- the reader failed
pub fails-read : (o : Options) (limit left : ℕ) (input : List ℕ) (old new : Option (List ℕ)) (r : Reader) → Going o limit left input old r → Keeps old new
    → ReadPart limit input new
fails-read o limit left input old new r g h = record {
  taken = g.taken;
  rest = g.rest;
  split = g.whole;
  told = read-failed g.rest old new g.told h;
  within = let count : left + length g.taken ≡ limit = g.count in omega arith;
}

-- memory ran out after a piece was read
pub fails-piece : (o : Options) (limit left : ℕ) (input : List ℕ) (old new : Option (List ℕ)) (r : Reader) (chunk : List ℕ) (k : ℕ) → Going o limit left input old r
    → Consumes old new (take k chunk) → k ≤ left → ReadPart limit input new
fails-piece o limit left input old new r chunk k g h few =
    let m = read-on input g.taken g.rest (take k chunk) old new g.whole g.told h in
    let count : left + length g.taken ≡ limit = g.count in
    record { taken = g.taken ++ take k chunk; rest = m.0; split = m.2; told = m.1; within = omega (arith, length-append g.taken (take k chunk), length-take k chunk) }

-- the input is longer than the limit
pub fails-long : (o : Options) (limit left : ℕ) (input : List ℕ) (old new : Option (List ℕ)) (r : Reader) (chunk : List ℕ) (k : ℕ) → Going o limit left input old r
    → Consumes old new (take k chunk) → left < k → k ≤ left + 1 → k ≤ length chunk → (limit < length input) × (new ≡ Some (drop (limit + 1) input))
fails-long o limit left input old new r chunk k g h over one within =
    let m = read-on input g.taken g.rest (take k chunk) old new g.whole g.told h in
    let count : left + length g.taken ≡ limit = g.count in
    let size : length input ≡ length ((g.taken ++ take k chunk) ++ m.0) = ap length m.2 in
    let longer : limit < length input = omega (arith, length-append (g.taken ++ take k chunk) m.0, length-append g.taken (take k chunk), length-take k chunk) in
    let seen : limit + 1 ≡ length (g.taken ++ take k chunk) = omega (arith, length-append g.taken (take k chunk), length-take k chunk) in
    let rest : drop (limit + 1) input ≡ m.0 =
    ap (drop (limit + 1)) m.2 ∙ (ap (λ i. drop i ((g.taken ++ take k chunk) ++ m.0)) seen ∙ drop-append_seam (g.taken ++ take k chunk) m.0) in
    (longer, m.1 ∙ ap Some (sym rest))

-- more was read
pub going-on : (o : Options) (limit left after : ℕ) (input : List ℕ) (old new : Option (List ℕ)) (r next : Reader) (chunk : List ℕ) (k : ℕ) → Going o limit left input old r
    → Consumes old new (take k chunk) → k ≤ left → k ≤ length chunk → after + k ≡ left
    → ((p : Options) (done : List ℕ) → StandsAt p done r → StandsAt p (done ++ take k chunk) next) → Going o limit after input new next
going-on o limit left after input old new r next chunk k g h few within fewer go =
    let m = read-on input g.taken g.rest (take k chunk) old new g.whole g.told h in
    let count : left + length g.taken ≡ limit = g.count in
    record {
      taken = g.taken ++ take k chunk;
      rest = m.0;
      whole = m.2;
      told = m.1;
      count = omega (arith, length-append g.taken (take k chunk), length-take k chunk);
      stands = go o g.taken g.stands;
    }

-- everything was read
pub read-whole : (o : Options) (limit left : ℕ) (input : List ℕ) (old new : Option (List ℕ)) (r next : Reader) (chunk : List ℕ) (k : ℕ) → Going o limit left input old r
    → Consumes old new (take k chunk) → k ≡ 0 → IsAtEnd new → ((p : Options) (done : List ℕ) → StandsAt p done r → StandsAt p (done ++ 10 ∷ []) next)
    → ReadWhole o.processors o.clients limit input new (intake_view next.intake)
read-whole o limit left input old new r next chunk k g h none end go =
    let m = read-none input g.taken g.rest (take k chunk) old new g.whole g.told h (ap (λ i. take i chunk) none) end in
    let s = go o g.taken g.stands in
    let count : left + length g.taken ≡ limit = g.count in
    let size : length input ≡ length g.taken = ap length m.1 in
    record {
      reads = rw (ap lines_of m.1) (rw whole_lines-newline at s.reads);
      within = omega arith;
      ended = m.0;
    }
