-- The graph has what a step that was read names.
use Rattle.std.proofs.Common.{◌≡◌, ℕ, ◌<◌, ◌≤◌, Bool, true, false, cond, List, [], ◌∷◌, length, refl, sym, ap, subst, Option, Some, None, Result, Ok, Err, codes}
use Rattle.std.specs.Prelude.{All as Each, IfOk, IfSome, nat_eq, nat_lt, slice_get, option_map}
use Rattle.std.specs.Option.{option_map_or, unwrap_or}
use Rattle.std.specs.declared.alloc.Global.{Global}
use Rattle.std.proofs.lemmas.Bool.{ltb-true, ltb-false, eqb-true}
use Rattle.std.proofs.lemmas.List.Elements.{All-nil, All-cons}
use Rattle.std.proofs.lemmas.Option.{cond_some, option_and_then_some}
use Rattle.serde_json.specs.Data.{Data}
use Rattle.serde_json.specs.Find.{get}
use Rattle.nd_json.specs.Forms.{small, boolean_in, text_at, small_at, integer_at, list_at}
use Rattle.nd_time.specs.Time.{Time}
use Rattle.nd_graph.specs.Graph.{Dataflow, depths}
use Rattle.nd_paths.specs.declared.point.Pointstamp.{Pointstamp}
use Rattle.nd_protocol.specs.declared.step.Step.{Step}
use Rattle.nd_graph.specs.Draft.{every}
use Rattle.rewind_forms.specs.Forms.{given, after, if_any, are_read, time_in, named_at, listed_point, values_at}
use Rattle.rewind_forms.specs.Places.{location_named, vertex_named, edge_named, time_of, placed, point_named, listed_location, placed_point}
use Rattle.rewind_forms.specs.Sends.{send_of}
use Rattle.rewind_forms.specs.Steps.{next_at, feed_of, take_of, notice_of, later_of, release_of, broadcast_of, part_of, receive_of, step_of, read_as, read_of}
use Rattle.rewind_forms.specs.Grammar.{form_of}
use Rattle.rewind_forms.specs.declared.version.Version.{Version}
use Rattle.rewind_forms.specs.declared.version.Version.TheVariants.{Sixth}
use Rattle.rewind_forms.specs.declared.form.LineForm.{LineForm}
use Rattle.rewind_forms.specs.declared.form.LineForm.TheVariants as line
use Rattle.rewind_forms.specs.declared.form.StepForm.{StepForm}
use Rattle.rewind_forms.specs.declared.form.StepForm.TheVariants as form
use Rattle.rewind_forms.specs.declared.fault.LineFault.{LineFault}
use Rattle.rewind_forms.specs.declared.fault.LineFault.TheVariants.{BadShape, BadTime}
use Rattle.rewind_forms.specs.Fitting.{HasDepth, LaterHasDepth, NamesFit}

-- ---- what holds of a reading, if all its parts were read

if_given : {A B : Type 0} (fault : LineFault) (o : Option A) (made : A → Result B LineFault) (P : B → Type 0) → ((x : A) → o ≡ Some x → IfOk (made x) P)
    → IfOk (given fault o made) P
if_given fault None made P h = tt
if_given fault (Some x) made P h = h x refl

if_after : {A B : Type 0} (r : Result A LineFault) (made : A → Result B LineFault) (P : B → Type 0) → ((x : A) → r ≡ Ok x → IfOk (made x) P)
    → IfOk (after r made) P
if_after (Err e) made P h = tt
if_after (Ok x) made P h = h x refl

-- ---- vertices, edges and times

cond_none : {A : Type 0} (b : Bool) (x y : A) → cond b None (Some x) ≡ Some y → (b ≡ false) × (x ≡ y)
cond_none true x y e = absurd (cc)
cond_none false x y e = (refl, cc)

vertex_is : (g : Dataflow) (name : List ℕ) (v : ℕ) → vertex_named g name ≡ Some v → v < length g.vertices
unfolding vertex_named
vertex_is g name v e =
    option_and_then_some (λ l. cond (nat_lt l (length g.vertices)) (Some l) None) (location_named g name) v e
    (λ l _ here. (let parts = cond_some (nat_lt l (length g.vertices)) l v here in
    subst (λ l. l < length g.vertices) parts.1 (ltb-true l (length g.vertices) parts.0)))

edge_is : (g : Dataflow) (name : List ℕ) (l : ℕ) → edge_named g name ≡ Some l → length g.vertices ≤ l
unfolding edge_named
edge_is g name l e =
    option_and_then_some (λ l. cond (nat_lt l (length g.vertices)) None (Some l)) (location_named g name) l e
    (λ k _ here. (let parts = cond_none (nat_lt k (length g.vertices)) k l here in
    subst (λ l. length g.vertices ≤ l) parts.1 (ltb-false k (length g.vertices) parts.0)))

depth_is : (n : ℕ) (o : Option ℕ) → option_map_or (nat_eq n) o false ≡ true → o ≡ Some n
depth_is n None e = absurd (cc)
depth_is n (Some m) e = ap Some (sym (eqb-true n m e))

time_is : (g : Dataflow) (l : ℕ) (numbers : List ℕ) (t : Time) → time_of g l numbers ≡ Some t → HasDepth g l t
unfolding time_of
time_is g l [] t e = absurd (cc)
time_is g l (epoch ∷ counters) t e =
    let test = option_map_or (nat_eq (length counters)) (slice_get (depths g) l) false in
    let read : Time = record { epoch = epoch; counters = counters } in
    let parts = cond_some test read t e in
    subst (λ t. HasDepth g l t) parts.1 (depth_is (length counters) (slice_get (depths g) l) parts.0)

-- the location is the one that was found, and the time has the location's depth
abbrev IsAt : Dataflow → Option ℕ → Pointstamp → Type 0
IsAt g found q = (found ≡ Some q.location) × HasDepth g q.location q.time

placed_is : (g : Dataflow) (found : Option ℕ) (numbers : List ℕ) → IfOk (placed g found numbers) (IsAt g found)
unfolding placed
placed_is g None numbers = tt
placed_is g (Some l) numbers =
    if_given BadTime (time_of g l numbers) (λ t. Ok (record { location = l; time = t })) (IsAt g (Some l)) (λ t is. (refl, time_is g l numbers t is))

if_placed : {B : Type 0} (g : Dataflow) (found : Option ℕ) (numbers : List ℕ) (made : Pointstamp → Result B LineFault) (P : B → Type 0)
    → ((q : Pointstamp) → IsAt g found q → IfOk (made q) P) → IfOk (after (placed g found numbers) made) P
if_placed g found numbers made P h =
    if_after (placed g found numbers) made P (λ q is. h q (subst (λ r. IfOk r (IsAt g found)) is (placed_is g found numbers)))

-- ---- pointstamps

made_at : (g : Dataflow) (l : ℕ) (o : Option Time) (q : Pointstamp) → ((t : Time) → o ≡ Some t → HasDepth g l t)
    → option_map (λ t. record { location = l; time = t }) o ≡ Some q → HasDepth g q.location q.time
made_at g l None q h e = absurd (cc)
made_at g l (Some t) q h e =
    let read : Pointstamp = record { location = l; time = t } in
    let same : read ≡ q = cc in
    subst (λ q. HasDepth g q.location q.time) same (h t refl)

point_is : (g : Dataflow) (p : List ℕ × List ℕ) (q : Pointstamp) → point_named g p ≡ Some q → HasDepth g q.location q.time
unfolding point_named
point_is g p q e =
    option_and_then_some (λ l. option_map (λ t. record { location = l; time = t }) (time_of g l p.1)) (location_named g p.0) q e
    (λ l _ here. made_at g l (time_of g l p.1) q (λ t is. time_is g l p.1 t is) here)

consed : {B : Type 0} (P : B → Type 0) (y : B) (o : Option (List B)) (ys : List B) → P y → ((zs : List B) → o ≡ Some zs → Each P zs)
    → option_map (λ zs. y ∷ zs) o ≡ Some ys → Each P ys
consed P y None ys here rest e = absurd (cc)
consed P y (Some zs) ys here rest e =
    let same : y ∷ zs ≡ ys = cc in
    subst (λ ys. Each P ys) same (All-cons P y zs here (rest zs refl))

every_is : {A B : Type 0} (f : A → Option B) (P : B → Type 0) → ((x : A) (y : B) → f x ≡ Some y → P y)
    → (xs : List A) (ys : List B) → every f xs ≡ Some ys → Each P ys
every_is f P h [] ys e = let same : [] ≡ ys = cc in subst (λ ys. Each P ys) same (All-nil P)
every_is f P h (x ∷ xs) ys e =
    option_and_then_some (λ y. option_map (λ ys. y ∷ ys) (every f xs)) (f x) ys e
    (λ y is rest. consed P y (every f xs) ys (h x y is) (λ zs all. every_is f P h xs zs all) rest)

-- ---- one kind of step after the other

feed_fits : (v : Version) (g : Dataflow) (d : Data) → IfOk (feed_of v g d) (NamesFit g)
unfolding feed_of
feed_fits v g d =
    if_given _ (small_at (codes "p") d) _ (NamesFit g) (λ p _.
    if_given _ (text_at (codes "vertex") d) _ (NamesFit g) (λ name _.
    if_given _ (values_at (codes "values") d) _ (NamesFit g) (λ values _.
    if_given _ (next_at v d) _ (NamesFit g) (λ next _.
    if_given _ (vertex_named g name) _ (NamesFit g) (λ vertex is. vertex_is g name vertex is)))))

take_fits : (g : Dataflow) (d : Data) → IfOk (take_of g d) (NamesFit g)
unfolding take_of
take_fits g d =
    if_given _ (small_at (codes "p") d) _ (NamesFit g) (λ p _.
    if_given _ (integer_at (codes "value") d) _ (NamesFit g) (λ value _.
    if_given _ (named_at (codes "edge") d) _ (NamesFit g) (λ named _.
    if_placed g (edge_named g named.0) named.1 _ (NamesFit g) (λ q is. (edge_is g named.0 q.location is.0, is.1)))))

notice_fits : (g : Dataflow) (d : Data) → IfOk (notice_of g d) (NamesFit g)
unfolding notice_of
notice_fits g d =
    if_given _ (small_at (codes "p") d) _ (NamesFit g) (λ p _.
    if_given _ (named_at (codes "vertex") d) _ (NamesFit g) (λ named _.
    if_placed g (vertex_named g named.0) named.1 _ (NamesFit g) (λ q is. (vertex_is g named.0 q.location is.0, is.1))))

made_is : {B : Type 0} {P : B → Type 0} (o : Option B) (found : Option B) → ((y : B) → o ≡ Some y → P y) → option_map (λ y. Some y) o ≡ Some found → IfSome found P
made_is None found h e = absurd (cc)
made_is {B} {P} (Some y) found h e = let same : Some y ≡ found = cc in subst (λ o. IfSome o P) same (h y refl)

if_any_is : {A B : Type 0} (read : A → Option B) (P : B → Type 0) → ((x : A) (y : B) → read x ≡ Some y → P y)
    → (o : Option A) (found : Option B) → if_any read o ≡ Some found → IfSome found P
if_any_is read P h None found e = let same : None ≡ found = cc in subst (λ o. IfSome o P) same tt
if_any_is read P h (Some x) found e = made_is (read x) found (λ y is. h x y is) e

later_has : (g : Dataflow) (l : ℕ) (time : Option Time) (keep : Option Bool) → IfSome time (HasDepth g l) → LaterHasDepth g l (later_of time keep)
later_has g l None keep h = tt
later_has g l (Some t) keep h = h

release_fits : (g : Dataflow) (d : Data) → IfOk (release_of g d) (NamesFit g)
unfolding release_of
release_fits g d =
    if_given _ (small_at (codes "p") d) _ (NamesFit g) (λ p _.
    if_given _ (named_at (codes "vertex") d) _ (NamesFit g) (λ named _.
    if_given _ (if_any time_in (get (codes "to") d)) _ (NamesFit g) (λ numbers _.
    if_given _ (if_any boolean_in (get (codes "keep") d)) _ (NamesFit g) (λ keep _.
    if_given _ (vertex_named g named.0) _ (NamesFit g) (λ vertex is.
    if_given _ (time_of g vertex named.1) _ (NamesFit g) (λ time at.
    if_given _ (if_any (time_of g vertex) numbers) _ (NamesFit g) (λ later after_it. (
      vertex_is g named.0 vertex is,
      time_is g vertex named.1 time at,
      later_has g vertex later keep (if_any_is (time_of g vertex) (HasDepth g vertex) (λ ns t. time_is g vertex ns t) numbers later after_it),
    ))))))))

send_fits : (g : Dataflow) (d : Data) → IfOk (send_of g d) (NamesFit g)
unfolding send_of
send_fits g d =
    if_given _ (small_at (codes "p") d) _ (NamesFit g) (λ p _.
    if_given _ (named_at (codes "vertex") d) _ (NamesFit g) (λ named _.
    if_given _ (small_at (codes "port") d) _ (NamesFit g) (λ port _.
    if_given _ (values_at (codes "values") d) _ (NamesFit g) (λ values _.
    if_given _ (if_any time_in (get (codes "at") d)) _ (NamesFit g) (λ numbers _.
    if_given _ (if_any small (get (codes "dest") d)) _ (NamesFit g) (λ dest _.
    if_given _ (vertex_named g named.0) _ (NamesFit g) (λ vertex is.
    if_given _ (time_of g vertex named.1) _ (NamesFit g) (λ time here.
    if_given _ (if_any (time_of g vertex) numbers) _ (NamesFit g) (λ at there.
    (vertex_is g named.0 vertex is, time_is g vertex named.1 time here, if_any_is (time_of g vertex) (HasDepth g vertex) (λ ns t. time_is g vertex ns t) numbers at there))))))))))

all_fits : (g : Dataflow) (d : Data) → IfOk (broadcast_of d) (NamesFit g)
unfolding broadcast_of
all_fits g d = if_given _ (small_at (codes "p") d) _ (NamesFit g) (λ p _. tt)

receive_fits : (g : Dataflow) (d : Data) → IfOk (receive_of d) (NamesFit g)
unfolding receive_of
receive_fits g d =
    if_given _ (small_at (codes "from") d) _ (NamesFit g) (λ from _.
    if_given _ (small_at (codes "to") d) _ (NamesFit g) (λ to _. tt))

if_true : {B : Type 0} (b : Bool) (r : Result B LineFault) (e : LineFault) (P : B → Type 0) → IfOk r P → IfOk (cond b r (Err e)) P
if_true true r e P h = h
if_true false r e P h = tt

placed_is_one : (g : Dataflow) (d : Data) (q : Pointstamp) → placed_point g d ≡ Some q → HasDepth g q.location q.time
unfolding placed_point
placed_is_one g d q e = option_and_then_some (point_named g) (listed_point d) q e (λ p _ is. point_is g p q is)

all_are : (g : Dataflow) (ds : List Data) (o : Option (List Pointstamp)) → o ≡ every (placed_point g) ds → Each (λ q. HasDepth g q.location q.time) (unwrap_or o [])
all_are g ds None e = All-nil _
all_are g ds (Some points) e = every_is (placed_point g) (λ q. HasDepth g q.location q.time) (placed_is_one g) ds points (sym e)

part_fits : (g : Dataflow) (d : Data) → IfOk (part_of g d) (NamesFit g)
unfolding part_of
part_fits g d =
    if_given _ (small_at (codes "p") d) _ (NamesFit g) (λ p _.
    if_given _ (list_at (codes "part") d) _ (NamesFit g) (λ ds _.
    if_true (are_read listed_point ds) _ _ (NamesFit g)
    (if_true (are_read (listed_location g) ds) _ _ (NamesFit g)
    (if_true (are_read (placed_point g) ds) _ _ (NamesFit g) (all_are g ds (every (placed_point g) ds) refl)))))

-- ---- all

step_fits : (v : Version) (g : Dataflow) (form : StepForm) (d : Data) → IfOk (step_of v g form d) (NamesFit g)
step_fits v g form.Feed d = feed_fits v g d
step_fits v g form.Take d = take_fits g d
step_fits v g form.Notice d = notice_fits g d
step_fits v g form.Release d = release_fits g d
step_fits v g form.Send d = send_fits g d
step_fits v g form.Broadcast d = all_fits g d
step_fits v g form.Part d = part_fits g d
step_fits v g form.Receive d = receive_fits g d

-- a step that was read in its form
pub form_fits : (v : Version) (g : Dataflow) (form : StepForm) (d : Data) (x : Step Global) → step_of v g form d ≡ Ok x → NamesFit g x
form_fits v g form d x e = subst (λ r. IfOk r (NamesFit g)) e (step_fits v g form d)

line_fits : (g : Dataflow) (d : Data) (form : LineForm) → IfOk (read_as g d form) (NamesFit g)
line_fits g d (line.Step form) = step_fits Sixth g form d
line_fits g d (line.Command form) = tt
line_fits g d (line.Query form) = tt

pub read_fits : (g : Dataflow) (d : Data) (x : Step Global) → read_of g d ≡ Ok x → NamesFit g x
unfolding read_of
read_fits g d x e =
    subst (λ r. IfOk r (NamesFit g)) e (if_given BadShape (form_of Sixth d) (read_as g d) (NamesFit g) (λ form _. line_fits g d form))
