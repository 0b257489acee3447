use Rattle.std.proofs.Common.{rules, ◌≡◌, ◌++◌, [], ◌∷◌, map, not, FitsSigned, w64, ap, sym, subst, ◌∙◌, append_assoc, append-nil}
use Rattle.std.proofs.lemmas.Int.{to_z-of_z}
use Rattle.std.specs.FinMap.{find}
use Rattle.std.specs.Map.Iter.{deref_pair}
use Rattle.std.proofs.lemmas.Map.Iter.{rest_more}
use Rattle.nd_map.specs.Counts.{entries, only}
use Rattle.nd_map.specs.Listed.{IsListed}
use Rattle.nd_vertex.specs.Items.{item_cmp, item_total}
use Rattle.nd_vertex.specs.declared.key.ItemKey.{ItemKey}
use Rattle.nd_time.specs.Listing.{time_cmp}
use Rattle.std.specs.Ordering.{eq_by_cmp}
use Rattle.nd_vertex.specs.Edits.{LeadsTo}
use Rattle.nd_vertex.proofs.KeptLemmas.{listed, found}
use Rattle.nd_vertex.proofs.RemovalLemmas.{forward, removed, removed_between, gone, leads_removed}
use Rattle.nd_vertex.proofs.state.VertexState.removals.Goals as goal

pub between-key-items-requires : goal.between-key-items-requires
between-key-items-requires g c = rw (c.copy.ensures, c.copy-2.ensures) (forward c.args.time.now)

pub loop-key-init : goal.loop-key-init
loop-key-init g c =
    let t = c.args.time.now in
    ap (λ es. es ++ map gone c.into_iter-key-iterator.result) c.new-edits.ensures.items
    ∙ ap (map gone) (c.into_iter-key-iterator.ensures.into_iter_gives ∙ rw (c.copy.ensures, c.copy-2.ensures) at c.between-key-items.ensures.rest)
    ∙ removed_between t c.self.inside.map c.self.invariant
    ∙ ap (removed t) (listed c.self.inside.map c.self.invariant c.args.self.now c.self.view_is)

pub loop-key-preserved : goal.loop-key-preserved
loop-key-preserved g c =
    let rest = c.next.new.self in
    let step : c.loop-key.key-iterator ≡ (c.in-Some.key.now, c.in-Some.number.now) ∷ rest
    = rest_more deref_pair c.loop-key.key-iterator rest c.next.result (c.in-Some.key, c.in-Some.number) c.in-Some.is c.next.ensures.steps in
    let range : FitsSigned w64 c.in-Some.number.now = search rules in
    let pushed : c.push.new.self.items ≡ c.loop-key.edits.items ++ gone (c.in-Some.key.now, c.in-Some.number.now) ∷ [] = rw (c.copy-in-loop-key.ensures, to_z-of_z w64 c.in-Some.number.now range) at c.in_ok-push.ensures.items in
    ap (λ es. es ++ map gone rest) pushed ∙ append_assoc c.loop-key.edits.items (gone (c.in-Some.key.now, c.in-Some.number.now) ∷ []) (map gone rest)
    ∙ ap (λ es. c.loop-key.edits.items ++ map gone es) (sym step) ∙ c.loop-key.invariant

pub returns : goal.returns
returns g c =
    let m = c.args.self.now in
    let t = c.args.time.now in
    let is : c.self.inside.map ≡ entries m = listed c.self.inside.map c.self.invariant m c.self.view_is in
    let all : c.loop-key.edits.items ≡ removed t (entries m)
    = sym (append-nil c.loop-key.edits.items) ∙ ap (λ es. c.loop-key.edits.items ++ map gone es) (sym c.in-None.ensures.steps.0) ∙ c.loop-key.invariant in
    subst (λ es. LeadsTo m es (only item_total (λ (k : ItemKey). not (eq_by_cmp time_cmp k.time t)) m)) (sym all)
    (leads_removed m (subst (IsListed item_cmp) is c.self.invariant.listed) (λ k. ap (find item_cmp k) (sym is) ∙ found c.self.inside.map c.self.invariant m c.self.view_is k) t)
