-- How much is outstanding at a pointstamp: n records of one key, or one input token.
use Rattle.std.specs.Prelude.{ℕ, cond, Option, Some, None}
use Rattle.nd_paths.specs.declared.point.Pointstamp.{Pointstamp}
use Rattle.nd_delta.specs.Delta.{is_point}
use Rattle.nd_processor.specs.State.{token_point, one_at}

-- n at the pointstamp p, 0 elsewhere
abbrev pub many_at : Pointstamp → ℕ → Pointstamp → ℕ
many_at p n x = cond (is_point x p) n 0

-- ---- tokens

-- how much the token of a vertex counts at the pointstamp x: 0 if there is no token
abbrev pub token_at : ℕ → Option ℕ → Pointstamp → ℕ
token_at vertex None x = 0
token_at vertex (Some epoch) x = one_at (token_point vertex epoch) x
