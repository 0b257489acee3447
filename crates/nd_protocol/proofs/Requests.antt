-- How the edits of requests change how many there are at a pointstamp.
use Rattle.std.proofs.Common.{◌≡◌, ◌+◌, ◌<◌, ◌≤◌, Bool, true, false, cond, Option, Some, None, refl, arith}
use Rattle.std.specs.FinMap as fin
use Rattle.nd_paths.specs.declared.point.Pointstamp.{Pointstamp}
use Rattle.nd_processor.specs.State.{Requests, one_at, in_requests}
use Rattle.nd_processor.specs.HeldLaws.{one_at_itself, in_requests-insert, in_requests-insert_le, in_requests-again, in_requests-remove}

-- a request that is there counts
pub request_counts : (s : Requests) (x : Pointstamp) → fin.get s x ≡ Some tt → 0 < in_requests s x
request_counts s x found =
    let less : in_requests (fin.remove s x) x + one_at x x ≡ in_requests s x = in_requests-remove s x x found in
    omega (arith, one_at_itself x)

-- an insertion removes no request
pub in_requests-kept : (s : Requests) (k x : Pointstamp) → in_requests s x ≤ in_requests (fin.insert s k tt) x
in_requests-kept s k x = by (fin.get s k) refl
  where
    by : (v : Option (Unit {0})) → fin.get s k ≡ v → in_requests s x ≤ in_requests (fin.insert s k tt) x
    by None absent = let more = in_requests-insert s k x absent in omega arith
    by (Some u) found = let same = in_requests-again s k x found in omega arith

-- a vertex that may make a request adds at most one, and removes none
pub in_requests-asked : (b : Bool) (s : Requests) (k x : Pointstamp) → in_requests (cond b (fin.insert s k tt) s) x ≤ in_requests s x + one_at k x
in_requests-asked true s k x = in_requests-insert_le s k x
in_requests-asked false s k x = omega arith

pub in_requests-not_less : (b : Bool) (s : Requests) (k x : Pointstamp) → in_requests s x ≤ in_requests (cond b (fin.insert s k tt) s) x
in_requests-not_less true s k x = in_requests-kept s k x
in_requests-not_less false s k x = omega arith
