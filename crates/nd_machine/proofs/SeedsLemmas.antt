-- What is left of a number after sums and products that wrap.
use Rattle.std.proofs.Common.{◌≡◌, ℕ, ◌+◌, ◌*◌, ◌/◌, ◌%◌, sym, ap, ◌∙◌, arith}
use Rattle.std.proofs.lemmas.Nat.{mul-mod_first}
use Rattle.std.proofs.Math.Nat.{add-mul-mod_self_left, mod-add-div}

-- a sum may be cut once more or once less
add_cut : (m n k : ℕ) → (n + k % m) % m ≡ (n + k) % m
add_cut m n k =
    let joined : n + k % m + m * (k / m) ≡ n + k = omega (arith, mod-add-div k m) in
    sym (add-mul-mod_self_left (n + k % m) m (k / m)) ∙ ap (λ x. x % m) joined

-- a sum with a product, cut at each operation
pub cut_at_each : (m n k g : ℕ) → (n + (k % m * g) % m) % m ≡ (n + k * g) % m
cut_at_each m n k g = ap (λ x. (n + x) % m) (mul-mod_first k g m) ∙ add_cut m n (k * g)
