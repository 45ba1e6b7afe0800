-- Whole numbers.
use Rattle.std.proofs.Common.{◌≡◌, ◌⊎◌, ℕ, ◌+◌, ◌-◌, ◌*◌, ◌≤◌, ℤ, pos, negsuc, ap, ◌∙◌, inl, inr, arith}
use Rattle.std.specs.Prelude.{◌≤ℤ◌, ◌<ℤ◌}
use Rattle.std.proofs.lemmas.Bool.{cases_lt}
use Rattle.std.proofs.lemmas.Int.{ints}
use Rattle.std.proofs.Math.Nat.{mul-add}

pub cases-int : (a b : ℤ) → (a ≤ℤ b) ⊎ (b <ℤ a)
cases-int (pos a) (pos b) = elim (cases_lt b a) [
  | inl lt ↦ inr (omega (arith, ints))
  | inr ge ↦ inl (omega (arith, ints))
]
cases-int (pos a) (negsuc b) = inr (omega (arith, ints))
cases-int (negsuc a) (pos b) = inl (omega (arith, ints))
cases-int (negsuc a) (negsuc b) = elim (cases_lt a b) [
  | inl lt ↦ inr (omega (arith, ints))
  | inr ge ↦ inl (omega (arith, ints))
]

pub times-more : (ii m n : ℕ) → m ≤ n → ii * n ≡ ii * m + ii * (n - m)
times-more ii m n le = ap (λ k. ii * k) (let e : n ≡ m + (n - m) = omega arith in e) ∙ mul-add ii m (n - m)
