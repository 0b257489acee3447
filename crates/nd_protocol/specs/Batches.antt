-- The batches that steps send, encoded as numbers.
use Rattle.std.specs.Prelude.{ℕ, ℤ, List, Option, refl}
use Rattle.std.specs.Coded.{Coded, code_by, coded×, coded_ℕ, coded_ℤ, coded_list, coded_option}
use Rattle.nd_time.specs.Time.{Time}
use Rattle.nd_time.specs.Listing.{time_code}
use Rattle.nd_protocol.specs.declared.batch.Batch.{Batch}

abbrev pub batch_code : {A : Type 0} → Coded (Batch A)
batch_code =
    code_by (Time × (Option Time × (ℕ × (List ℤ × Option ℕ))))
    (coded× time_code (coded× (coded_option time_code) (coded× coded_ℕ (coded× (coded_list coded_ℤ) (coded_option coded_ℕ)))))
    (λ b. (b.time, (b.at, (b.port, (b.values, b.dest)))))
    (λ t. record { time = t.0; at = t.1.0; port = t.1.1.0; values = t.1.1.1.0; dest = t.1.1.1.1 })
    (λ _. refl)
