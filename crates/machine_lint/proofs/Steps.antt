-- The first place that passes a test.
use Rattle.std.proofs.Common.{◌≡◌, ℕ, suc, ◌+◌, ◌-◌, ◌<◌, ◌≤◌, Bool, false, cond, Option, Some, None, sym, ap, ◌∙◌, arith}
use Rattle.machine_lint.specs.Words.{first_at}

pub first-step : (test : ℕ → Bool) (at n : ℕ) → at < n → first_at test at (n - at) ≡ cond (test at) (Some at) (first_at test (at + 1) (n - (at + 1)))
first-step test at n h =
    let more : n - at ≡ suc (n - (at + 1)) = omega arith in
    let next : suc at ≡ at + 1 = omega arith in
    rw more (ap (λ k. cond (test at) (Some at) (first_at test k (n - (at + 1)))) next)

pub first-none : (test : ℕ → Bool) (at n : ℕ) → n ≤ at → first_at test at (n - at) ≡ None
first-none test at n h = let none : n - at ≡ 0 = omega arith in rw none

-- the rest after a place that fails
pub first-next : (test : ℕ → Bool) (at n : ℕ) (r : Option ℕ) → at < n → test at ≡ false → first_at test at (n - at) ≡ r → first_at test (at + 1) (n - (at + 1)) ≡ r
first-next test at n r below fails is = sym (rw fails at (first-step test at n below)) ∙ is
