-- What became of the clients' commands, compared with the log of their session.
use Rattle.std.proofs.Common.{◌≡◌, ◌∙◌, ◌==◌, ◌⊎◌, inl, inr, ℕ, zero, suc, ◌<◌, ◌≤◌, get_or, List, [], ◌∷◌, ◌++◌, All, length, map, Option, Some, None, Global, Vec, refl, sym, ap, subst, arith, length-append}
use Rattle.std.specs.List.{list_any}
use Rattle.std.specs.Prelude.{IsTrue, filter, option_map, slice_get}
use Rattle.std.proofs.lemmas.Option.{slice_get-map, slice_get_within, slice_get_cases}
use Rattle.std.proofs.lemmas.List.{length-map, map-append}
use Rattle.std.proofs.lemmas.List.Elements.{All-append}
use Rattle.nd_commands.specs.declared.command.Command.{Command}
use Rattle.nd_machine.specs.Moves.{MachineValue}
use Rattle.nd_session.specs.Clients.{ClientValue, IsHistory}
use Rattle.nd_time.specs.Limits.{max_log}
use Rattle.nd_session.specs.Close.{IsWhole}
use Rattle.nd_session.specs.declared.receipt.Receipt.{Receipt}
use Rattle.rewind_sessions.specs.Served.{AreDone, AreFresh, IsFresh, asked}
use Rattle.rewind_sessions.specs.Runs.{Commands, Ended, MayEnd, IsServed, is_full, IsRun, commands_of, lists_of}
use Rattle.rewind_sessions.specs.declared.drive.Done.{Done}
use Rattle.rewind_sessions.specs.declared.drive.Task.{Task}

-- an element of a mapped list comes from an element of the list
pub found-map : {A B : Type 0} (f : A → B) (xs : List A) (i : ℕ) (y : B) → slice_get (map f xs) i ≡ Some y → (x : A) × (slice_get xs i ≡ Some x) × (f x ≡ y)
found-map f xs i y h = from (slice_get xs i) (sym (slice_get-map f xs i) ∙ h) refl
  where
    from : (o : Option _) → option_map f o ≡ Some y → slice_get xs i ≡ o → (x : _) × (slice_get xs i ≡ Some x) × (f x ≡ y)
    from None e is = absurd (cc e)
    from (Some x) e is = (x, is, cc e)

-- a list has an element at each position below its length
pub at-place : {A : Type 0} (xs : List A) (i : ℕ) → i < length xs → (x : A) × (slice_get xs i ≡ Some x)
at-place xs i h = from (slice_get_cases xs i).1
  where
    from : (((x : _) × (i < length xs) × (slice_get xs i ≡ Some x) × (get_or xs i x ≡ x)) ⊎ ((length xs ≤ i) × (slice_get xs i ≡ None))) → (x : _) × (slice_get xs i ≡ Some x)
    from (inl c) = (c.0, c.2)
    from (inr c) = absurd (let a = c.0 in omega arith)

-- one more client ended in an allowed way
pub ended-more : (fs gs : List Ended) (f : Ended) → gs ≡ fs ++ f ∷ [] → All MayEnd fs → MayEnd f → All MayEnd gs
ended-more fs gs f is all here = subst (All MayEnd) (sym is) (All-append MayEnd fs (f ∷ []) all one)
  where
    one : All MayEnd (f ∷ [])
    one zero d lt = here
    one (suc k) d lt = absurd (omega (arith, lt))

-- ---- the commands that the clients issued

-- the client at a position, its task and its commands
pub record Place (commands : Commands) (ts : List Task) (ds : List Done) (k : ℕ) (d : Done) : Type 0 where
  pub task : Task
  pub asked_for : List (Command Global)
  pub at : slice_get commands k ≡ Some asked_for
  pub number : d.client.number ≡ k
  pub served : IsServed asked_for (asked d.client.receipts) d.fault

placed : (commands : Commands) (ts : List Task) (ds : List Done) (k : ℕ) (d : Done) → AreFresh commands ts → AreDone ts ds → length ds ≡ length ts → slice_get ds k ≡ Some d → Place commands ts ds k d
placed commands ts ds k d fresh done size at =
    let within : k < length ds = slice_get_within ds k d at in
    let count : length ts ≡ length commands = fresh.count in
    let t = at-place ts k (omega arith) in
    let x = at-place commands k (omega arith) in
    let f = fresh.each k x.0 t.0 x.1 t.1 in
    let g = done k t.0 d t.1 at in
    record {
      task = t.0;
      asked_for = x.0;
      at = x.1;
      number = g.number ∙ f.number_is;
      served = subst (λ (cs : List (Command Global)). IsServed cs (asked d.client.receipts) d.fault) f.commands_are (g.served f.receipts);
    }

-- the receipts of the client with a number are the log's entries of that number
own-entries : (log : List (Receipt Global)) (k : ℕ) (p : ClientValue Global) → p.receipts ≡ filter (λ e. e.client == p.number) log → p.number ≡ k → asked p.receipts ≡ commands_of k log
own-entries log k p h e = ap asked h ∙ ap (λ (n : ℕ). commands_of n log) e

pub driven : (commands : Commands) (ts : List Task) (ds : List Done) (clients : List (ClientValue Global)) (faults : List Ended) (log : List (Receipt Global)) (machine : MachineValue Global) (entered : ℕ)
    → AreFresh commands ts → AreDone ts ds → length ds ≡ length ts → clients ≡ map (λ d. d.client) ds → faults ≡ map (λ d. d.fault) ds
    → All MayEnd faults → (IsTrue (list_any is_full faults) → length log ≡ max_log) → IsWhole log clients entered → IsHistory log machine → (opening : MachineValue Global) → machine.timeline.base ≡ opening.timeline.base
    → IsRun opening commands log machine faults
driven commands ts ds clients faults log machine entered fresh done size are faults_are ended full whole history opening begins = record {
  begins = begins;
  history = history;
  ended = ended;
  full = full;
  clients =
      let a : length faults ≡ length ds = ap length faults_are ∙ length-map ds (λ (d : Done). d.fault) in
      let b : length ts ≡ length commands = fresh.count in
      omega arith;
  known = λ i e at.
      let w = whole.no_others i e at in
      let m = found-map (λ (d : Done). d.client) ds w.place w.client (ap (λ (cs : List (ClientValue Global)). slice_get cs w.place) (sym are) ∙ w.at) in
      let p = placed commands ts ds w.place m.0 fresh done size m.1 in
      let within : w.place < length commands = slice_get_within commands w.place p.asked_for p.at in
      let number : e.client ≡ w.place = sym w.number_is ∙ (sym (ap (λ (c : ClientValue Global). c.number) m.2) ∙ p.number) in
      omega arith;
  served = λ c list ended at gone.
      let m = found-map (λ (d : Done). d.fault) ds c ended (ap (λ (fs : List Ended). slice_get fs c) (sym faults_are) ∙ gone) in
      let p = placed commands ts ds c m.0 fresh done size m.1 in
      let same : p.asked_for ≡ list = cc (sym p.at ∙ at) in
      let mine : slice_get clients c ≡ Some m.0.client = ap (λ (cs : List (ClientValue Global)). slice_get cs c) are ∙ (slice_get-map (λ (d : Done). d.client) ds c ∙ ap (option_map (λ (d : Done). d.client)) m.1) in
      let made = own-entries log c m.0.client (whole.receipts c m.0.client mine) p.number in
      subst (λ (o : Ended). IsServed list (commands_of c log) o) m.2
      (subst (λ (cs : List (Command Global)). IsServed cs (commands_of c log) m.0.fault) same
      (subst (λ (cs : List (Command Global)). IsServed p.asked_for cs m.0.fault) made p.served));
}

-- ---- clients enter, one after another

-- an element of a list with one more is of the list, or that one
pub slice_get-snoc : {X : Type 0} (xs : List X) (x : X) (i : ℕ) (y : X) → slice_get (xs ++ x ∷ []) i ≡ Some y
    → ((i < length xs) × (slice_get xs i ≡ Some y)) ⊎ ((i ≡ length xs) × (x ≡ y))
slice_get-snoc [] x zero y e = inr (refl, cc)
slice_get-snoc [] x (suc i) y e = absurd cc
slice_get-snoc (z ∷ xs) x zero y e = inl (omega arith, e)
slice_get-snoc (z ∷ xs) x (suc i) y e =
    elim (slice_get-snoc xs x i y e) [ inl p ↦ inl (omega arith, p.1) | inr p ↦ inr (ap suc p.0, p.1) ]

pub fresh-more : (commands : Commands) (ts : List Task) (list : List (Command Global)) (t : Task) → AreFresh commands ts → IsFresh (length ts) list t → AreFresh (commands ++ list ∷ []) (ts ++ t ∷ [])
fresh-more commands ts list t h f = record {
  count = let n : length ts ≡ length commands = h.count in omega (arith, length-append ts (t ∷ []), length-append commands (list ∷ []));
  each = λ i asked u at there.
      let n : length ts ≡ length commands = h.count in
      each i asked u n (slice_get-snoc commands list i asked at) (slice_get-snoc ts t i u there);
}
  where
    each : (i : ℕ) (asked : List (Command Global)) (u : Task) → length ts ≡ length commands → ((i < length commands) × (slice_get commands i ≡ Some asked)) ⊎ ((i ≡ length commands) × (list ≡ asked))
        → ((i < length ts) × (slice_get ts i ≡ Some u)) ⊎ ((i ≡ length ts) × (t ≡ u)) → IsFresh i asked u
    each i asked u n (inl a) (inl b) = h.each i asked u a.1 b.1
    each i asked u n (inr a) (inr b) =
        subst (λ (j : ℕ). IsFresh j asked u) (sym b.0) (subst (λ (v : Task). IsFresh (length ts) asked v) b.1 (subst (λ (cs : List (Command Global)). IsFresh (length ts) cs t) a.1 f))
    each i asked u n (inl a) (inr b) = absurd (let x = a.0 in let y = b.0 in omega arith)
    each i asked u n (inr a) (inl b) = absurd (let x = a.0 in let y = b.0 in omega arith)

-- ---- the complete list of clients' commands

pub lists-one : (ys : List (Vec (Command Global) Global)) (v : Vec (Command Global) Global) → lists_of (ys ++ v ∷ []) ≡ lists_of ys ++ v.items ∷ []
lists-one ys v = map-append (λ w. w.items) ys (v ∷ [])
