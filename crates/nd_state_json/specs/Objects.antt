-- A step as the object of its command line.
use Rattle.std.specs.Prelude.{ℕ, ℤ, Bool, true, false, List, map, codes, Option, Some, None}
use Rattle.std.specs.declared.alloc.Global.{Global}
use Rattle.serde_json.specs.Data.{Data, boolean, string, object, Members, no_members, member}
use Rattle.nd_time.specs.Time.{Time}
use Rattle.nd_graph.specs.Graph.{Dataflow}
use Rattle.nd_state_json.specs.StateText.{row, natural, whole, place, time_data, point_data}
use Rattle.nd_protocol.specs.declared.step.Step.{Step}
use Rattle.nd_protocol.specs.declared.step.Step.TheVariants.{Feed, Take, Notice, Release, Send, Broadcast, Receive}
use Rattle.nd_protocol.specs.declared.times.Later.{Later}
use Rattle.nd_protocol.specs.declared.batch.Batch.{Batch}
use Rattle.nd_protocol.specs.declared.part.Part.{Part}
use Rattle.nd_protocol.specs.declared.part.Part.TheVariants.{All, Points}
use Rattle.nd_protocol.specs.declared.step.Next.{Next as Afterwards}
use Rattle.nd_protocol.specs.declared.step.Next.TheVariants as token

-- what becomes of the token after a feed: "next", "close", "stay" or {"to":epoch}
abbrev pub next_data : Afterwards → Data
next_data token.Next = string (codes "next")
next_data token.Close = string (codes "close")
next_data token.Stay = string (codes "stay")
next_data (token.To n) = object (member (codes "to") (natural n) no_members)

-- {"do":"feed","next":next,"p":n,"values":[v,...],"vertex":name}
abbrev pub feed_object : Dataflow → ℕ → ℕ → List ℤ → Afterwards → Data
feed_object g p vertex values next = object (member (codes "do") (string (codes "feed"))
    (member (codes "next") (next_data next) (member (codes "p") (natural p)
    (member (codes "values") (row (map whole values)) (member (codes "vertex") (place g vertex) no_members)))))

-- {"do":"take","edge":name,"p":n,"time":[epoch,c1,...],"value":v}
abbrev pub take_object : Dataflow → ℕ → ℕ → Time → ℤ → Data
take_object g p edge time value = object (member (codes "do") (string (codes "take"))
    (member (codes "edge") (place g edge) (member (codes "p") (natural p)
    (member (codes "time") (time_data time) (member (codes "value") (whole value) no_members)))))

-- {"do":word,"p":n,"time":[epoch,c1,...],"vertex":name}
abbrev pub vertex_object : List ℕ → Dataflow → ℕ → ℕ → Time → Data
vertex_object word g p vertex time = object (member (codes "do") (string word)
    (member (codes "p") (natural p) (member (codes "time") (time_data time) (member (codes "vertex") (place g vertex) no_members))))

-- {"do":"notice","p":n,"time":[epoch,c1,...],"vertex":name}
abbrev pub notice_object : Dataflow → ℕ → ℕ → Time → Data
notice_object g p vertex time = vertex_object (codes "notice") g p vertex time

-- these members, and the key "keep" with true before them if a capability is kept
abbrev pub keep_before : Bool → Members → Members
keep_before true ms = member (codes "keep") (boolean true) ms
keep_before false ms = ms

-- {"do":"release","p":n,"time":[epoch,c1,...],"to":[epoch,c1,...],"vertex":name}, and "keep":true among the keys if the capability
-- is kept
abbrev pub move_object : Dataflow → ℕ → ℕ → Time → Time → Bool → Data
move_object g p vertex time to keep = object (member (codes "do") (string (codes "release")) (keep_before keep
    (member (codes "p") (natural p) (member (codes "time") (time_data time)
    (member (codes "to") (time_data to) (member (codes "vertex") (place g vertex) no_members))))))

-- {"do":"release","p":n,"time":[epoch,c1,...],"vertex":name}, and more keys if there is a later time
abbrev pub release_object : Dataflow → ℕ → ℕ → Time → Option Later → Data
release_object g p vertex time None = vertex_object (codes "release") g p vertex time
release_object g p vertex time (Some to) = move_object g p vertex time to.time to.keep

-- the members that each send has
abbrev pub send_members : Dataflow → ℕ → ℕ → Batch Global → Members
send_members g p vertex b = member (codes "do") (string (codes "send"))
    (member (codes "p") (natural p) (member (codes "port") (natural b.port) (member (codes "time") (time_data b.time)
    (member (codes "values") (row (map whole b.values)) (member (codes "vertex") (place g vertex) no_members)))))

-- these members, and before them the key "dest", if a processor is named
abbrev pub dest_before : Option ℕ → Members → Members
dest_before None ms = ms
dest_before (Some q) ms = member (codes "dest") (natural q) ms

-- these members, and before them the key "at", if a time is given
abbrev pub at_before : Option Time → Members → Members
at_before None ms = ms
at_before (Some t) ms = member (codes "at") (time_data t) ms

-- {"do":"send","p":n,"port":k,"time":[epoch,c1,...],"values":[v,...],"vertex":name}, and "at":[epoch,c1,...] and "dest":q among the
-- keys if they were given
abbrev pub send_object : Dataflow → ℕ → ℕ → Batch Global → Data
send_object g p vertex b = object (at_before b.at (dest_before b.dest (send_members g p vertex b)))

-- a broadcast, {"do":"broadcast","p":n}, and "part":[[name,[epoch,c1,...]],...] among the keys if it is of a part, with its
-- pointstamps as they were given
abbrev pub broadcast_object : Dataflow → ℕ → Part Global → Data
broadcast_object g p All = object (member (codes "do") (string (codes "broadcast")) (member (codes "p") (natural p) no_members))
broadcast_object g p (Points points) = object (member (codes "do") (string (codes "broadcast"))
    (member (codes "p") (natural p) (member (codes "part") (row (map (point_data g) points)) no_members)))

-- {"do":"receive","from":n,"to":n}
abbrev pub receive_object : ℕ → ℕ → Data
receive_object from to = object (member (codes "do") (string (codes "receive"))
    (member (codes "from") (natural from) (member (codes "to") (natural to) no_members)))

-- the object of a step's command line, with the names of the graph's locations
unfoldable pub object_of : Dataflow → Step Global → Data
object_of g (Feed p vertex values next) = feed_object g p vertex values next
object_of g (Take p edge time value) = take_object g p edge time value
object_of g (Notice p vertex time) = notice_object g p vertex time
object_of g (Release p vertex times) = release_object g p vertex times.time times.to
object_of g (Send p vertex batch) = send_object g p vertex batch
object_of g (Broadcast p part) = broadcast_object g p part
object_of g (Receive from to) = receive_object from to
