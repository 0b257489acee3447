-- Reading the object of a step gives the step.
use Rattle.std.proofs.Common.{◌≡◌, ℕ, ◌<◌, ◌≤◌, ℤ, Bool, true, false, List, [], ◌∷◌, length, map, refl, ap, Option, Some, None, Ok, FitsSigned, w64, codes}
use Rattle.std.specs.Prelude.{All as Each}
use Rattle.std.specs.declared.alloc.Global.{Global}
use Rattle.std.proofs.lemmas.List.Elements.{All-head, All-tail}
use Rattle.nd_json.specs.Forms.{has_keys, has_text, text, boolean_in}
use Rattle.nd_time.specs.Time.{Time}
use Rattle.nd_graph.specs.Graph.{Dataflow, names}
use Rattle.nd_graph.specs.Checked.{has_double}
use Rattle.nd_paths.specs.declared.point.Pointstamp.{Pointstamp}
use Rattle.nd_state_json.specs.StateText.{natural, whole, name_at, point_data}
use Rattle.nd_protocol.specs.declared.step.Step.{Step}
use Rattle.nd_protocol.specs.declared.step.Step.TheVariants.{Feed, Take, Notice, Release, Send, Broadcast, Receive}
use Rattle.nd_protocol.specs.declared.times.Later.{Later}
use Rattle.nd_protocol.specs.declared.part.Part.TheVariants.{All, Points}
use Rattle.nd_protocol.specs.declared.step.Next.{Next as Afterwards}
use Rattle.nd_protocol.specs.declared.step.Next.TheVariants as token
use Rattle.rewind_forms.specs.Forms.{numbers_at, time_in, named_at, values_at, listed_point, alone}
use Rattle.rewind_forms.specs.Places.{placed, listed_location, placed_point}
use Rattle.rewind_forms.specs.Grammar.{steps, form_of}
use Rattle.rewind_forms.specs.Steps.{epoch_at, next_at, feed_of, take_of, notice_of, release_of, broadcast_of, part_of, receive_of, read_of}
use Rattle.rewind_forms.specs.declared.version.Version.TheVariants.{Sixth}
use Rattle.nd_state_json.specs.Objects.{feed_object, take_object, notice_object, move_object, release_object, broadcast_object, receive_object, object_of}
use Rattle.nd_protocol.specs.Ranges.{NumbersFit, IsSmall, NextIsSmall, TimeIsSmall, TimesAreSmall}
use Rattle.rewind_forms.specs.Fitting.{HasDepth, LaterHasDepth, NamesFit}
use Rattle.rewind_forms.proofs.NamesLemmas.{vertex-name_at, edge-name_at, time-numbers, known, point-name_at}
use Rattle.rewind_forms.proofs.SendBack.{sent_back}
use Rattle.rewind_forms.proofs.Values.{are_read-as, every_back, list-row, small-natural, integer-whole, integers-whole, numbers-natural, named, point-data}

-- ---- one kind of step after the other

receive_back : (from to : ℕ) → IsSmall from → IsSmall to → receive_of (receive_object from to) ≡ Ok (Receive from to)
unfolding receive_of
receive_back from to h k = rw (small-natural from h, small-natural to k) refl

all_back : (g : Dataflow) (p : ℕ) → IsSmall p → broadcast_of (broadcast_object g p All) ≡ Ok (Broadcast p All)
unfolding broadcast_of
all_back g p h = rw (small-natural p h) refl

notice_named : (g : Dataflow) (p vertex : ℕ) (t : Time) → TimeIsSmall t
    → named_at (codes "vertex") (notice_object g p vertex t) ≡ Some (name_at g vertex, t.epoch ∷ t.counters)
unfolding named_at numbers_at text
notice_named g p vertex t h = rw (list-row (map natural (t.epoch ∷ t.counters)), numbers-natural t h) refl

notice_back : (g : Dataflow) (p vertex : ℕ) (t : Time) → has_double (names g) ≡ false → vertex < length g.vertices → HasDepth g vertex t
    → IsSmall p → TimeIsSmall t → notice_of g (notice_object g p vertex t) ≡ Ok (Notice p vertex t)
unfolding notice_of placed
notice_back g p vertex t once there depth h k =
    rw (small-natural p h, notice_named g p vertex t k, vertex-name_at g vertex once there, time-numbers g vertex t depth) refl

-- ---- a release: of one time, or of an earlier and a later one, the capability at the earlier one kept or not

abbrev numbers : Time → List ℕ
numbers t = t.epoch ∷ t.counters

release_back : (g : Dataflow) (p vertex : ℕ) (t : Time) → has_double (names g) ≡ false → vertex < length g.vertices → HasDepth g vertex t
    → IsSmall p → TimeIsSmall t → release_of g (release_object g p vertex t None) ≡ Ok (Release p vertex (record { time = t; to = None }))
unfolding release_of named_at numbers_at text
release_back g p vertex t once there depth h k =
    rw (small-natural p h, list-row (map natural (numbers t)), numbers-natural t k, vertex-name_at g vertex once there, time-numbers g vertex t depth) refl

-- the release that moves or keeps
abbrev moving : ℕ → ℕ → Time → Time → Bool → Step Global
moving p vertex t to keep = Release p vertex (record { time = t; to = Some (record { time = to; keep = keep }) })

module _ (g : Dataflow) (p vertex : ℕ) (t to : Time) (once : has_double (names g) ≡ false) (there : vertex < length g.vertices) (depth : HasDepth g vertex t)
    (later : HasDepth g vertex to) (h : IsSmall p) (k : TimeIsSmall t) (j : TimeIsSmall to) where
  move_back : (keep : Bool) → release_of g (move_object g p vertex t to keep) ≡ Ok (moving p vertex t to keep)
  unfolding release_of named_at numbers_at time_in text boolean_in
  move_back true =
      rw (
        small-natural p h,
        list-row (map natural (numbers t)),
        numbers-natural t k,
        list-row (map natural (numbers to)),
        numbers-natural to j,
        vertex-name_at g vertex once there,
        time-numbers g vertex t depth,
        time-numbers g vertex to later,
      ) refl
  move_back false =
      rw (
        small-natural p h,
        list-row (map natural (numbers t)),
        numbers-natural t k,
        list-row (map natural (numbers to)),
        numbers-natural to j,
        vertex-name_at g vertex once there,
        time-numbers g vertex t depth,
        time-numbers g vertex to later,
      ) refl

  moved_back : (keep : Bool) → read_of g (move_object g p vertex t to keep) ≡ Ok (moving p vertex t to keep)
  unfolding read_of form_of steps has_keys text
  moved_back true = rw (move_back true) refl
  moved_back false = rw (move_back false) refl

released_back : (g : Dataflow) (p vertex : ℕ) (t : Time) (to : Option Later) → has_double (names g) ≡ false → vertex < length g.vertices → HasDepth g vertex t
    → LaterHasDepth g vertex to → IsSmall p → TimesAreSmall t to → read_of g (release_object g p vertex t to) ≡ Ok (Release p vertex (record { time = t; to = to }))
unfolding read_of form_of steps has_keys text
released_back g p vertex t None once there depth later h k = rw (release_back g p vertex t once there depth h k) refl
released_back g p vertex t (Some to) once there depth later h k = moved_back g p vertex t to.time once there depth later h k.0 k.1 to.keep

take_named : (g : Dataflow) (p edge : ℕ) (t : Time) (value : ℤ) → TimeIsSmall t
    → named_at (codes "edge") (take_object g p edge t value) ≡ Some (name_at g edge, t.epoch ∷ t.counters)
unfolding named_at numbers_at text
take_named g p edge t value h = rw (list-row (map natural (t.epoch ∷ t.counters)), numbers-natural t h) refl

take_back : (g : Dataflow) (p edge : ℕ) (t : Time) (value : ℤ) → has_double (names g) ≡ false → length g.vertices ≤ edge → HasDepth g edge t
    → IsSmall p → TimeIsSmall t → FitsSigned w64 value → take_of g (take_object g p edge t value) ≡ Ok (Take p edge t value)
unfolding take_of placed
take_back g p edge t value once there depth h k fits =
    rw (small-natural p h, integer-whole value fits, take_named g p edge t value k, edge-name_at g edge t once there depth, time-numbers g edge t depth) refl

epoch_back : (g : Dataflow) (p vertex : ℕ) (values : List ℤ) (n : ℕ) → IsSmall n → epoch_at (feed_object g p vertex values (token.To n)) ≡ Some n
unfolding epoch_at alone has_keys
epoch_back g p vertex values n h = small-natural n h

next_back : (g : Dataflow) (p vertex : ℕ) (values : List ℤ) (then : Afterwards) → NextIsSmall then
    → next_at Sixth (feed_object g p vertex values then) ≡ Some then
unfolding next_at has_text text
next_back g p vertex values token.Next h = refl
next_back g p vertex values token.Close h = refl
next_back g p vertex values token.Stay h = refl
next_back g p vertex values (token.To n) h = rw (epoch_back g p vertex values n h) refl

values_back : (g : Dataflow) (p vertex : ℕ) (values : List ℤ) (then : Afterwards) → Each (FitsSigned w64) values
    → values_at (codes "values") (feed_object g p vertex values then) ≡ Some values
unfolding values_at
values_back g p vertex values then h = rw (list-row (map whole values), integers-whole values h) refl

feed_back : (g : Dataflow) (p vertex : ℕ) (values : List ℤ) (then : Afterwards) → has_double (names g) ≡ false → vertex < length g.vertices
    → IsSmall p → Each (FitsSigned w64) values → NextIsSmall then → feed_of Sixth g (feed_object g p vertex values then) ≡ Ok (Feed p vertex values then)
unfolding feed_of text
feed_back g p vertex values then once there h k j =
    rw (small-natural p h, values_back g p vertex values then k, next_back g p vertex values then j, vertex-name_at g vertex once there) refl

-- ---- a broadcast of a part

location_back : (g : Dataflow) (q : Pointstamp) → has_double (names g) ≡ false → HasDepth g q.location q.time → TimeIsSmall q.time
    → listed_location g (point_data g q) ≡ Some q.location
unfolding listed_location
location_back g q once there h = rw (point-data g q h, known g q.location q.time once there) refl

point_back : (g : Dataflow) (q : Pointstamp) → has_double (names g) ≡ false → HasDepth g q.location q.time → TimeIsSmall q.time
    → placed_point g (point_data g q) ≡ Some q
unfolding placed_point
point_back g q once there h = rw (point-data g q h, point-name_at g q once there) refl

part_back : (g : Dataflow) (p : ℕ) (points : List Pointstamp) → has_double (names g) ≡ false → Each (λ q. HasDepth g q.location q.time) points
    → IsSmall p → Each (λ q. TimeIsSmall q.time) points → part_of g (broadcast_object g p (Points points)) ≡ Ok (Broadcast p (Points points))
unfolding part_of
part_back g p points once there h k =
    let shown = point_data g in
    rw (
      small-natural p h,
      list-row (map shown points),
      are_read-as listed_point shown (named g) points (λ i d lt. point-data g _ (k i d lt)),
      are_read-as (listed_location g) shown (λ q. q.location) points (λ i d lt. location_back g _ once (there i d lt) (k i d lt)),
      are_read-as (placed_point g) shown (λ q. q) points (λ i d lt. point_back g _ once (there i d lt) (k i d lt)),
      every_back (placed_point g) shown points (λ i d lt. point_back g _ once (there i d lt) (k i d lt)),
    ) refl

-- ---- all

pub read_back : (g : Dataflow) (x : Step Global) → has_double (names g) ≡ false → NamesFit g x → NumbersFit x → read_of g (object_of g x) ≡ Ok x
unfolding read_of form_of steps object_of has_keys text
read_back g (Feed p vertex values then) once there fits = rw (feed_back g p vertex values then once there fits.0 fits.1.0 fits.1.1) refl
read_back g (Take p edge t value) once there fits = rw (take_back g p edge t value once there.0 there.1 fits.0 fits.1 fits.2) refl
read_back g (Notice p vertex t) once there fits = rw (notice_back g p vertex t once there.0 there.1 fits.0 fits.1) refl
read_back g (Release p vertex times) once there fits = released_back g p vertex times.time times.to once there.0 there.1 there.2 fits.0 fits.1
read_back g (Send p vertex batch) once there fits = sent_back g p vertex batch once there fits.0 fits.1
read_back g (Broadcast p All) once there fits = rw (all_back g p fits.0) refl
read_back g (Broadcast p (Points points)) once there fits = rw (part_back g p points once there fits.0 fits.1) refl
read_back g (Receive from to) once there fits = rw (receive_back from to fits.0 fits.1) refl

-- two steps with the same object are equal
pub one_step : (g : Dataflow) (x y : Step Global) → has_double (names g) ≡ false → NamesFit g x → NumbersFit x → NamesFit g y → NumbersFit y
    → object_of g x ≡ object_of g y → x ≡ y
one_step g x y once there fits there' fits' same =
    let ex = read_back g x once there fits in
    let ey = read_back g y once there' fits' in
    let e = ap (read_of g) same in
    cc
