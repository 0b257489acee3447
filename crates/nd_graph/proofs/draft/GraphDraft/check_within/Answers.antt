use Rattle.std.proofs.Common.{◌≡◌, ◌∙◌, inl, ap, sym, Ok, Some, None}
use Rattle.nd_graph.specs.Checked.{checked_within, edges_between, fault_of}
use Rattle.nd_graph.proofs.CheckedLemmas.{faultless, checked-fault, checked-faultless}
use Rattle.nd_graph.proofs.draft.GraphDraft.check_within.Goals as goal

pub returns-in-Some : goal.returns-in-Some
returns-in-Some g c =
    let found : edges_between c.self.inside.vertices.items c.self.inside.edges.items ≡ Ok c.in_ok-edges.edges.items =
    rw (c.deref.ensures.value, c.deref-2.ensures.value) at c.in_ok-edges.ensures.ok in
    let fault : fault_of c.args.most c.args.many (record { order = c.self.inside.order; vertices = c.self.inside.vertices.items; edges = c.in_ok-edges.edges.items }) ≡ Some c.in-Some.fault =
    sym (rw (c.deref-3.ensures.value, c.deref-4.ensures.value) at (c.in-Some.ensures c.self.inside.order)) in
    inl (ap (checked_within c.args.most c.args.many) (sym c.self.view_is) ∙ checked-fault c.args.most c.args.many (record { order = c.self.inside.order; vertices = c.self.inside.vertices.items; edges = c.self.inside.edges.items }) c.in_ok-edges.edges.items c.in-Some.fault found fault)

pub built-requires : goal.built-requires
built-requires g c =
    faultless c.args.most c.args.many c.self.inside.order c.self.inside.vertices.items c.self.inside.edges.items c.in_ok-edges.edges.items c.requires.deep c.requires.few
    (rw (c.deref.ensures.value, c.deref-2.ensures.value) at c.in_ok-edges.ensures.ok)
    (sym (rw (c.deref-3.ensures.value, c.deref-4.ensures.value) at (c.in_default.ensures c.self.inside.order)))

pub returns : goal.returns
returns g c =
    let found : edges_between c.self.inside.vertices.items c.self.inside.edges.items ≡ Ok c.in_ok-edges.edges.items =
    rw (c.deref.ensures.value, c.deref-2.ensures.value) at c.in_ok-edges.ensures.ok in
    let none : fault_of c.args.most c.args.many (record { order = c.self.inside.order; vertices = c.self.inside.vertices.items; edges = c.in_ok-edges.edges.items }) ≡ None =
    sym (rw (c.deref-3.ensures.value, c.deref-4.ensures.value) at (c.in_default.ensures c.self.inside.order)) in
    ap (checked_within c.args.most c.args.many) (sym c.self.view_is) ∙ checked-faultless c.args.most c.args.many (record { order = c.self.inside.order; vertices = c.self.inside.vertices.items; edges = c.self.inside.edges.items }) c.in_ok-edges.edges.items found none
    ∙ ap (λ g. Ok g) (sym c.in_ok-built.ensures)
