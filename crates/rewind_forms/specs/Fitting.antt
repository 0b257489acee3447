-- Steps whose numbers name what a graph has.
use Rattle.std.specs.Prelude.{◌≡◌, ℕ, ◌<◌, ◌≤◌, ⊤, All as Each, Option, Some, None, IfSome, length, slice_get}
use Rattle.std.specs.declared.alloc.Global.{Global}
use Rattle.nd_time.specs.Time.{Time}
use Rattle.nd_graph.specs.Graph.{Dataflow, depths}
use Rattle.nd_protocol.specs.declared.step.Step.{Step}
use Rattle.nd_protocol.specs.declared.step.Step.TheVariants.{Feed, Take, Notice, Release, Send, Broadcast, Receive}
use Rattle.nd_protocol.specs.declared.times.Later.{Later}
use Rattle.nd_protocol.specs.declared.part.Part.{Part}
use Rattle.nd_protocol.specs.declared.part.Part.TheVariants.{All, Points}

-- there is a location of this number, and the time has its depth
abbrev pub HasDepth : Dataflow → ℕ → Time → Type 0
HasDepth g l t = slice_get (depths g) l ≡ Some (length t.counters)

-- the later time, if there is one, has the depth of that location
abbrev pub LaterHasDepth : Dataflow → ℕ → Option Later → Type 0
LaterHasDepth g l None = ⊤
LaterHasDepth g l (Some to) = HasDepth g l to.time

abbrev pub PartFits : Dataflow → Part Global → Type 0
PartFits g All = ⊤
PartFits g (Points points) = Each (λ point. HasDepth g point.location point.time) points

-- each vertex, edge and pointstamp of the step is one of the graph
abbrev pub NamesFit : Dataflow → Step Global → Type 0
NamesFit g (Feed p vertex values then) = vertex < length g.vertices
NamesFit g (Take p edge time value) = (length g.vertices ≤ edge) × HasDepth g edge time
NamesFit g (Notice p vertex time) = (vertex < length g.vertices) × HasDepth g vertex time
NamesFit g (Release p vertex times) = (vertex < length g.vertices) × HasDepth g vertex times.time × LaterHasDepth g vertex times.to
NamesFit g (Send p vertex batch) = (vertex < length g.vertices) × HasDepth g vertex batch.time × IfSome batch.at (HasDepth g vertex)
NamesFit g (Broadcast p part) = PartFits g part
NamesFit g (Receive from to) = ⊤
