-- The times of a capability that is released.
use Rattle.std.specs.Prelude.{◌≢◌, ⊤, Bool, false, Option, Some, None, refl}
use Rattle.std.specs.Coded.{Coded, code_by, coded×, coded_bool, coded_option}
use Rattle.nd_time.specs.Time.{Time}
use Rattle.nd_time.specs.Order.{IsAtOrBeforeBy}
use Rattle.nd_time.specs.declared.order.TimeOrder.{TimeOrder}
use Rattle.nd_time.specs.Listing.{time_code}
use Rattle.nd_protocol.specs.declared.times.Later.{Later}
use Rattle.nd_protocol.specs.declared.times.Times.{Times}

-- a capability that moves goes to a time strictly after the one at which it was held, by the order
abbrev pub GoesLater : TimeOrder → Time → Option Later → Type 0
GoesLater order t None = ⊤
GoesLater order t (Some to) = IsAtOrBeforeBy order t to.time × (t ≢ to.time)

-- the capability stays beside one at a later time
abbrev pub is_kept : Option Later → Bool
is_kept None = false
is_kept (Some to) = to.keep

abbrev pub later_code : Coded Later
later_code =
    code_by (Time × Bool) (coded× time_code coded_bool)
    (λ x. (x.time, x.keep))
    (λ t. record { time = t.0; keep = t.1 })
    (λ _. refl)

abbrev pub times_code : Coded Times
times_code =
    code_by (Time × Option Later) (coded× time_code (coded_option later_code))
    (λ x. (x.time, x.to))
    (λ t. record { time = t.0; to = t.1 })
    (λ _. refl)
