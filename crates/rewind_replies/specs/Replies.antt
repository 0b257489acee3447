-- The replies, as JSON values.
use Rattle.std.specs.Prelude.{◌≡◌, ℕ, Bool, true, false, List, codes, Option, None, option_map}
use Rattle.serde_json.specs.Data.{Data, boolean, number, string, object, unsigned, no_members, member}
use Rattle.nd_time.specs.Code.{Code}
use Rattle.nd_graph.specs.Graph.{Dataflow}
use Rattle.nd_protocol.specs.Refusals.{code_of}
use Rattle.nd_state_json.specs.StateText.{natural, point_data}
use Rattle.rewind_replies.specs.Effects.{or_null}
use Rattle.serde_json.specs.Written.{compact_text}
use Rattle.nd_protocol.specs.declared.refusal.Refusal.{Refusal}
use Rattle.nd_protocol.specs.declared.refusal.Refusal.TheVariants.{NoProcessor, NotYet, NotAdmissible}
use Rattle.nd_replies.specs.Faults.{code_of as code_of_fault}
use Rattle.nd_replies.specs.declared.fault.Fault.{Fault}
use Rattle.nd_replies.specs.declared.fault.Fault.TheVariants.{Step, Memory}
use Rattle.nd_replies.specs.declared.reply.Stop.{Stop}
use Rattle.nd_replies.specs.declared.reply.Stop.TheVariants as end
use Rattle.nd_replies.specs.declared.reply.Reply.{Reply}
use Rattle.nd_replies.specs.declared.reply.Reply.TheVariants.{Moved, Ran, Set, Cleared, Refused}

-- the text is that of a reply which may be given
abbrev pub IsReply : (Data → Type 0) → List ℕ → Type 0
IsReply May text = (reply : Data) × May reply × (text ≡ compact_text reply)

-- {"code":n,"error":name}
abbrev pub fault : Code → Data
fault code = object (member (codes "code") (number (unsigned code.number)) (member (codes "error") (string code.name) no_members))

-- {"code":n,"error":name,"location":name}
abbrev pub location_fault : Code → List ℕ → Data
location_fault code location = object (member (codes "code") (number (unsigned code.number))
    (member (codes "error") (string code.name) (member (codes "location") (string location) no_members)))

-- {"code":n,"error":name,"piece":n}
abbrev pub piece_fault : Code → ℕ → Data
piece_fault code piece = object (member (codes "code") (number (unsigned code.number))
    (member (codes "error") (string code.name) (member (codes "piece") (number (unsigned piece)) no_members)))

-- {"locations":n,"ok":true,"processors":n}
abbrev pub graph : ℕ → ℕ → Data
graph locations processors = object (member (codes "locations") (number (unsigned locations))
    (member (codes "ok") (boolean true) (member (codes "processors") (number (unsigned processors)) no_members)))

-- {"at":n,"kept":n,"ok":true}
abbrev pub moved : ℕ → ℕ → Data
moved at kept = object (member (codes "at") (number (unsigned at))
    (member (codes "kept") (number (unsigned kept)) (member (codes "ok") (boolean true) no_members)))

-- why a run stopped: "limit", "idle" or {"break":id}
abbrev pub stop : Stop → Data
stop end.Limit = string (codes "limit")
stop end.Idle = string (codes "idle")
stop (end.Break id) = object (member (codes "break") (number (unsigned id)) no_members)

-- {"at":n,"kept":n,"ok":true,"ran":n,"stop":shown}
abbrev pub ran : ℕ → ℕ → ℕ → Data → Data
ran at kept made shown = object (member (codes "at") (number (unsigned at))
    (member (codes "kept") (number (unsigned kept)) (member (codes "ok") (boolean true)
    (member (codes "ran") (number (unsigned made)) (member (codes "stop") shown no_members)))))

-- {"id":n,"ok":true}
abbrev pub break_set : ℕ → Data
break_set id = object (member (codes "id") (number (unsigned id)) (member (codes "ok") (boolean true) no_members))

-- {"ok":true}
abbrev pub done : Data
done = object (member (codes "ok") (boolean true) no_members)

-- {"code":n,"error":name,"point":point}
abbrev pub point_fault : Code → Data → Data
point_fault code point = object (member (codes "code") (number (unsigned code.number))
    (member (codes "error") (string code.name) (member (codes "point") point no_members)))

-- the reply to a refused step; it has the pointstamp that stands in the way, if the refusal names one
abbrev pub step_refused : Dataflow → Refusal → Data
step_refused g (NotYet blocker) = point_fault (code_of (NotYet blocker)) (point_data g blocker)
step_refused g (NotAdmissible point) = point_fault (code_of (NotAdmissible point)) (point_data g point)
step_refused g r = fault (code_of r)

-- {"at":n,"code":n,"error":name}
abbrev pub fault_at : Code → ℕ → Data
fault_at code at = object (member (codes "at") (number (unsigned at))
    (member (codes "code") (number (unsigned code.number)) (member (codes "error") (string code.name) no_members)))

-- the reply to a refused command; it has the cursor if memory ran out
abbrev pub refused : Dataflow → Fault → Data
refused g (Step r) = step_refused g r
refused g (Memory at) = fault_at (code_of_fault (Memory at)) at
refused g f = fault (code_of_fault f)

-- the reply to a command
abbrev pub reply_data : Dataflow → Reply → Data
reply_data g (Moved at kept) = moved at kept
reply_data g (Ran at kept made at_end) = ran at kept made (stop at_end)
reply_data g (Set id) = break_set id
reply_data g Cleared = done
reply_data g (Refused f) = refused g f

-- {"code":n,"error":name,"line":n}
abbrev pub faulty : Code → ℕ → Data
faulty code n = object (member (codes "code") (number (unsigned code.number))
    (member (codes "error") (string code.name) (member (codes "line") (number (unsigned n)) no_members)))

-- {"count":n,"ok":true}
abbrev pub count : ℕ → Data
count n = object (member (codes "count") (number (unsigned n)) (member (codes "ok") (boolean true) no_members))

-- {"before":b,"ok":true}
abbrev pub before : Bool → Data
before b = object (member (codes "before") (boolean b) (member (codes "ok") (boolean true) no_members))

-- {"ok":true,"state":shown}
abbrev pub state : Data → Data
state shown = object (member (codes "ok") (boolean true) (member (codes "state") shown no_members))

-- {"ok":true,"view":shown}
abbrev pub known : Data → Data
known shown = object (member (codes "ok") (boolean true) (member (codes "view") shown no_members))

-- {"frontier":shown,"ok":true}
abbrev pub frontier : Data → Data
frontier shown = object (member (codes "frontier") shown (member (codes "ok") (boolean true) no_members))

-- {"ok":true,"passed":true}
abbrev pub passed : Data
passed = object (member (codes "ok") (boolean true) (member (codes "passed") (boolean true) no_members))

-- {"ok":true,"passed":false,"point":point}
abbrev pub not_passed : Data → Data
not_passed point = object (member (codes "ok") (boolean true) (member (codes "passed") (boolean false) (member (codes "point") point no_members)))

-- the reply that there is no such processor
abbrev pub no_processor : Data
no_processor = fault (code_of NoProcessor)

-- {"found":n or null,"ok":true}
abbrev pub found : Option ℕ → Data
found least = object (member (codes "found") (or_null (option_map natural least)) (member (codes "ok") (boolean true) no_members))

-- {"ok":true,"version":n}
abbrev pub version : ℕ → Data
version n = object (member (codes "ok") (boolean true) (member (codes "version") (number (unsigned n)) no_members))

-- {"at":n,"ok":true,"steps":shown}
abbrev pub exported : ℕ → Data → Data
exported at shown = object (member (codes "at") (number (unsigned at))
    (member (codes "ok") (boolean true) (member (codes "steps") shown no_members)))

-- {"ok":true,"step":shown}
abbrev pub kept_step : Data → Data
kept_step shown = object (member (codes "ok") (boolean true) (member (codes "step") shown no_members))

-- {"changes":shown,"ok":true}, and "more":true among the keys if there are more
abbrev pub changed : Data → Bool → Data
changed shown false = object (member (codes "changes") shown (member (codes "ok") (boolean true) no_members))
changed shown true = object (member (codes "changes") shown (member (codes "more") (boolean true) (member (codes "ok") (boolean true) no_members)))

-- {"candidates":shown,"ok":true}, and "more":true among the keys if there are more
abbrev pub candidates : Data → Bool → Data
candidates shown false = object (member (codes "candidates") shown (member (codes "ok") (boolean true) no_members))
candidates shown true = object (member (codes "candidates") shown (member (codes "more") (boolean true) (member (codes "ok") (boolean true) no_members)))

-- {"changed":shown,"ok":true,"step":step}
abbrev pub effect : Data → Data → Data
effect shown step = object (member (codes "changed") shown (member (codes "ok") (boolean true) (member (codes "step") step no_members)))

-- {"at_lo":b,"ok":true,"turns":shown}, and "more":true among the keys if there are more
abbrev pub turns : Bool → Data → Bool → Data
turns at_lo shown false = object (member (codes "at_lo") (boolean at_lo) (member (codes "ok") (boolean true) (member (codes "turns") shown no_members)))
turns at_lo shown true = object (member (codes "at_lo") (boolean at_lo)
    (member (codes "more") (boolean true) (member (codes "ok") (boolean true) (member (codes "turns") shown no_members))))

-- {"ok":true,"times":shown}
abbrev pub times : Data → Data
times shown = object (member (codes "ok") (boolean true) (member (codes "times") shown no_members))

-- {"ok":true,"steps":shown}
abbrev pub way : Data → Data
way shown = object (member (codes "ok") (boolean true) (member (codes "steps") shown no_members))

-- {"ok":true,"states":n,"steps":null,"whole":b}
abbrev pub no_way : ℕ → Bool → Data
no_way states whole = object (member (codes "ok") (boolean true) (member (codes "states") (number (unsigned states))
    (member (codes "steps") (or_null None) (member (codes "whole") (boolean whole) no_members))))

-- {"finished":f,"ok":true,"passed":p,"reasons":shown}
abbrev pub why : Bool → Bool → Data → Data
why finished passed shown = object (member (codes "finished") (boolean finished)
    (member (codes "ok") (boolean true) (member (codes "passed") (boolean passed) (member (codes "reasons") shown no_members))))

-- {"finished":f,"ok":true,"passed":p,"ran":n,"reasons":shown,"stop":word}
abbrev pub why_at_rest : Bool → Bool → ℕ → Data → List ℕ → Data
why_at_rest finished passed ran shown word = object (member (codes "finished") (boolean finished)
    (member (codes "ok") (boolean true) (member (codes "passed") (boolean passed) (member (codes "ran") (number (unsigned ran))
    (member (codes "reasons") shown (member (codes "stop") (string word) no_members))))))
