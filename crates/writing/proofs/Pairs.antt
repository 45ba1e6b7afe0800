-- The digits of small numbers.
use Rattle.std.proofs.Common.{◌≡◌, ℕ, zero, suc, ◌+◌, ◌-◌, ◌*◌, ◌/◌, ◌%◌, ◌<◌, ◌≤◌, Bool, true, ◌&&◌, T, eqb, ltb, length, get_or, take, drop, inl, inr, arith, eq-zero-or-pos, eqb→eq, ap, ◌∙◌, refl}
use Rattle.std.proofs.Math.Seq.{drop-cons}
use Rattle.std.proofs.lemmas.List.Elements.{All-weaker}
use Rattle.std.proofs.lemmas.List.Sums.{AllPass-from_list_all}
use Rattle.std.proofs.lemmas.Str.{IsCharBoundary-from_ascii}
use Rattle.std.proofs.lemmas.Str.Ascii.{IsAscii-from_all}
use borrow.Author.Tests.{ltb-true}
use Rattle.std.specs.Str.{IsAscii, IsCharBoundary}
use Rattle.std.proofs.lemmas.Fmt.{decimal_digit, decimal_step}
use Rattle.std.specs.Fmt.{decimal}
use lib.Ieee.Fits.{and_l, and_r}
use Rattle.writing.specs.declared.parts.TheConstants.{PAIRS}

-- the table has the digits of each number below this one
abbrev are_pairs : ℕ → Bool
are_pairs zero = true
are_pairs (suc p) = (eqb (get_or PAIRS.now (p * 2) 0) (48 + p / 10) && eqb (get_or PAIRS.now (p * 2 + 1) 0) (48 + p % 10)) && are_pairs p

below : (n p : ℕ) → T (are_pairs n) → p < n → (get_or PAIRS.now (p * 2) 0 ≡ 48 + p / 10) × (get_or PAIRS.now (p * 2 + 1) 0 ≡ 48 + p % 10)
below zero p t h = absurd (omega arith)
below (suc n) p t h =
    elim (eq-zero-or-pos (n - p)) [
      | inl z ↦ let e : p ≡ n = omega arith in let a = and_l _ (are_pairs n) t in rw e (eqb→eq _ _ (and_l _ _ a), eqb→eq _ _ (and_r _ _ a))
      | inr g ↦ below n p (and_r _ (are_pairs n) t) (omega arith)
    ]

ascii : IsAscii PAIRS.now
ascii = IsAscii-from_all PAIRS.now (All-weaker (λ b. ltb b 128 ≡ true) (λ b. b < 128) (λ b. ltb-true b 128) PAIRS.now (AllPass-from_list_all (λ b. ltb b 128) PAIRS.now refl))

-- the table may be cut at each place
pub cut : (i : ℕ) → i ≤ 200 → IsCharBoundary PAIRS.now i
cut i h = IsCharBoundary-from_ascii PAIRS.now i ascii h

-- the digit of a number below 10
pub one : (n start : ℕ) → n < 10 → start ≡ n * 2 + 1 → take 1 (drop start PAIRS.now) ≡ decimal n
one n start h at =
    let same : n % 10 ≡ n = omega arith in
    let e : get_or PAIRS.now start 0 ≡ 48 + n = rw (at, (below 100 n tt (omega arith)).1, same) refl in
    let long : length PAIRS.now ≡ 200 = refl in
    rw (drop-cons PAIRS.now start 0 (omega (arith, long)), e, decimal_digit n h) refl

-- the digits of a number of 10 to 99
pub two : (n start : ℕ) → 10 ≤ n → n < 100 → start ≡ n * 2 → take 2 (drop start PAIRS.now) ≡ decimal n
two n start lo hi at =
    let p = below 100 n tt hi in
    let e : get_or PAIRS.now start 0 ≡ 48 + n / 10 = rw at p.0 in
    let next : suc start ≡ n * 2 + 1 = omega arith in
    let f : get_or PAIRS.now (suc start) 0 ≡ 48 + n % 10 = ap (λ (k : ℕ). get_or PAIRS.now k 0) next ∙ p.1 in
    let long : length PAIRS.now ≡ 200 = refl in
    rw (drop-cons PAIRS.now start 0 (omega (arith, long)), drop-cons PAIRS.now (suc start) 0 (omega (arith, long)), e, f, decimal_step n lo (omega arith), decimal_digit (n / 10) (omega arith)) refl
