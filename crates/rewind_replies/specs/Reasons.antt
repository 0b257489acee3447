-- Why a processor does not consider a pointstamp finished, as a JSON value.
use Rattle.std.specs.Prelude.{ℕ, true, List, map, codes}
use Rattle.serde_json.specs.Data.{Data, boolean, object, no_members, member}
use Rattle.nd_graph.specs.Graph.{Dataflow}
use Rattle.nd_state_json.specs.StateText.{row, natural, whole, place, point_data}
use Rattle.nd_why.specs.Account.{Account}
use Rattle.nd_why.specs.declared.answer.Held.{Held}
use Rattle.nd_why.specs.declared.answer.Held.TheVariants.{Records, Request, Token}
use Rattle.nd_why.specs.declared.answer.Unheard.{Unheard}
use Rattle.nd_why.specs.declared.answer.Unheard.TheVariants.{Unsent, Queued}

-- what processor p holds at a location: {"edge":name,"n":n,"p":p,"value":v}, {"p":p,"request":name} or {"p":p,"token":name}
abbrev pub held_data : Dataflow → ℕ → Held → Data
held_data g l (Records p value n) = object (member (codes "edge") (place g l) (member (codes "n") (natural n)
    (member (codes "p") (natural p) (member (codes "value") (whole value) no_members))))
held_data g l (Request p) = object (member (codes "p") (natural p) (member (codes "request") (place g l) no_members))
held_data g l (Token p) = object (member (codes "p") (natural p) (member (codes "token") (place g l) no_members))

-- an update from processor p that was not received: {"n":n,"p":p,"unsent":true} or {"behind":k,"n":n,"p":p}
abbrev pub unheard_data : Unheard → Data
unheard_data (Unsent p n) = object (member (codes "n") (whole n) (member (codes "p") (natural p)
    (member (codes "unsent") (boolean true) no_members)))
unheard_data (Queued p behind n) = object (member (codes "behind") (natural behind)
    (member (codes "n") (whole n) (member (codes "p") (natural p) no_members)))

-- {"held":held,"point":point,"unheard":unheard,"view":view}
abbrev pub reason_members : Data → Data → Data → Data → Data
reason_members held point unheard view = object (member (codes "held") held (member (codes "point") point
    (member (codes "unheard") unheard (member (codes "view") view no_members))))

-- a reason: all that is held at its pointstamp, the updates of it that were not received, and the view's count
abbrev pub reason_data : Dataflow → Account → Data
reason_data g a = reason_members (row (map (held_data g a.point.location) a.held)) (point_data g a.point) (row (map unheard_data a.unheard)) (whole a.view)

-- all reasons, in their order
abbrev pub reasons_data : Dataflow → List Account → Data
reasons_data g accounts = row (map (reason_data g) accounts)
