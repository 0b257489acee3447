-- The choice by a seed: where among the candidates a run begins (the numbers are those of SplitMix64).
use Rattle.std.specs.Prelude.{◌≡◌, ℕ, ◌+◌, ◌*◌, ◌/◌, ◌%◌, ◌^◌, List, Option, None, Some, bit_xor}
use Rattle.nd_protocol.specs.State.{ClusterState}
use Rattle.nd_protocol.specs.declared.step.Step.{Step}
use Rattle.nd_cluster.specs.Choice.{candidates_by, Chooses}
use Rattle.nd_cluster.specs.Order.{IsNext}

-- ---- numbers of 64 bits

-- the number that 64 bits keep of n: its remainder modulo 2 ^ 64
abbrev pub cut : ℕ → ℕ
cut n = n % 2 ^ 64

-- z xor z shifted to the right by k bits
abbrev pub folded : ℕ → ℕ → ℕ
folded k z = bit_xor z (z / 2 ^ k)

-- ---- the lot

-- the first, second and third number on the way from a seed and a cursor to the lot
abbrev pub spread : ℕ → ℕ → ℕ
spread seed cursor = cut (seed + (cursor + 1) * 0x9e3779b97f4a7c15)

abbrev pub stirred : ℕ → ℕ → ℕ
stirred seed cursor = cut (folded 30 (spread seed cursor) * 0xbf58476d1ce4e5b9)

abbrev pub stirred_again : ℕ → ℕ → ℕ
stirred_again seed cursor = cut (folded 27 (stirred seed cursor) * 0x94d049bb133111eb)

-- the lot of a seed at a position of the cursor
unfoldable pub mix : ℕ → ℕ → ℕ
mix seed cursor = folded 31 (stirred_again seed cursor)

-- the first three lots of the seed 0 are the first outputs of SplitMix64 that its authors give for this seed
abbrev pub BeginsAsKnown : Type 0
BeginsAsKnown = (mix 0 0 ≡ 16294208416658607535) × (mix 0 1 ≡ 7960286522194355700) × (mix 0 2 ≡ 487617019471545679)

-- ---- the step that a run executes

-- the first enabled candidate of the processors that a run goes through, or none: without a seed in the order that begins with the
-- processor whose turn the cursor is, with a seed in the list of candidates from the place of the lot on
abbrev pub IsChosen : {A : Type 0} → ClusterState → ℕ → Option (List ℕ) → Option ℕ → Option (Step A) → Type 0
IsChosen s cursor only None choice = IsNext s cursor only choice
IsChosen s cursor only (Some seed) choice = Chooses s (candidates_by s (mix seed cursor) only) choice
