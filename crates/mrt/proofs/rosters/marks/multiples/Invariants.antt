use Rattle.std.proofs.Common.{◌≡◌, ℕ, ◌%◌, ◌/◌, ◌<◌, ◌≤◌, false, eqb}
use Rattle.std.specs.Int.{bit_at}
use Rattle.mrt.proofs.rosters.marks.multiples.Given as goal

-- the bits of the multiples so far are set, and none above them
abbrev pub invariant-loop-count : goal.invariant-loop-count
invariant-loop-count l = record {
  told : (c : ℕ) → c / l.ii < l.count → eqb (bit_at l.bits c) 1 ≡ eqb (c % l.ii) 0;
  rest : (c : ℕ) → l.count ≤ c / l.ii → eqb (bit_at l.bits c) 1 ≡ false;
}
