-- The cycle in which two values meet in a register.
use Rattle.std.proofs.Common.{◌≡◌, ℕ, ◌<◌, ◌≤◌, ℤ, pos, negsuc, ◌+ℤ◌, ◌-ℤ◌, refl, sym, ap, ◌∙◌, subst, arith, rules, Fits, FitsSigned, to_z, of_z, w64}
use Rattle.std.specs.Prelude.{◌*◌, ◌*ℤ◌, ◌≤ℤ◌, unsigned_abs}
use Rattle.std.specs.Int.{int_max}
use lib.Dec.{T}
use lib.Signed.{non_neg}
use Rattle.std.proofs.lemmas.Int.{ints, clamps, to_z-of_z}
use Rattle.registers.specs.declared.lifetime.Lifetime.{Lifetime}
use Rattle.registers.specs.Residues.{least_shift, Forbids, IsLifeSpan}
use Rattle.registers.specs.inner.Forbidding.{first_shift, MeetIn}
use Rattle.registers.proofs.allotted.More.{mul-less}
use Rattle.registers.proofs.allotted.Shifts.{up-above, down-below, round, round-shift, same-at_first, forbids-between}

-- how many cycles the first shift comes to
pub shift-between : (ii registers number candidate : ℕ) (one other : Lifetime) → 1 ≤ ii → 1 ≤ registers → one.first ≤ one.last → other.first ≤ other.last
    → Forbids ii registers one number other candidate
    → ((pos one.first -ℤ pos other.last) ≤ℤ (first_shift ii registers one number other candidate *ℤ pos ii))
    × ((first_shift ii registers one number other candidate *ℤ pos ii) ≤ℤ (pos one.last -ℤ pos other.first))
shift-between ii registers number candidate one other some regs oh ot forbids =
    let shift : ℤ = first_shift ii registers one number other candidate in
    let lowest : least_shift ii one other ≤ℤ shift = omega (arith, ints) in (
      up-above shift (pos one.first -ℤ pos other.last) ii some lowest,
      down-below shift (pos one.last -ℤ pos other.first) ii some ((forbids-between ii registers number candidate one other some regs oh ot).0 forbids),
    )

pub product-small : (ii registers number candidate : ℕ) (one other : Lifetime) → 1 ≤ ii → 1 ≤ registers → IsLifeSpan one → IsLifeSpan other
    → Forbids ii registers one number other candidate
    → ((pos 0 -ℤ pos 4294967296) ≤ℤ (first_shift ii registers one number other candidate *ℤ pos ii))
    × ((first_shift ii registers one number other candidate *ℤ pos ii) ≤ℤ pos 4294967296)
product-small ii registers number candidate one other some regs oh ot forbids =
    let between = shift-between ii registers number candidate one other some regs oh.ordered ot.ordered forbids in
    let low = between.0 in let high = between.1 in
    let a = oh.short in let b = ot.short in
    (omega (arith, ints), omega (arith, ints))

-- instance 0 of `other` meets the instance of `one` that is `first_shift` iterations before it
pub met-in : (ii registers number candidate cycle : ℕ) (one other : Lifetime) → 1 ≤ ii → 1 ≤ registers → one.first ≤ one.last → other.first ≤ other.last
    → Forbids ii registers one number other candidate
    → pos cycle ≡ int_max (pos one.first -ℤ (first_shift ii registers one number other candidate *ℤ pos ii)) (pos other.first)
    → MeetIn ii registers one number other candidate cycle
met-in ii registers number candidate cycle one other some regs oh ot forbids is =
    let shift : ℤ = first_shift ii registers one number other candidate in
    let between = shift-between ii registers number candidate one other some regs oh ot forbids in
    let low = between.0 in
    let high = between.1 in
    let product = mul-less (pos 0) shift ii in
    let z : (pos 0 *ℤ pos ii) ≡ pos (0 * ii) = refl in
    let y : 0 * ii ≡ 0 = omega arith in
    let left : ((pos number -ℤ pos 0) +ℤ shift) ≡ (pos number -ℤ (pos 0 -ℤ shift)) = omega (arith, ints) in
    let right : ((pos candidate -ℤ shift) +ℤ shift) ≡ (pos candidate -ℤ pos 0) = omega (arith, ints) in
    record {
      iteration = pos 0 -ℤ shift;
      same_register = ap (round registers) (sym left)
          ∙ round-shift registers (pos number -ℤ pos 0) (pos candidate -ℤ shift) shift regs (same-at_first registers number candidate (least_shift ii one other) regs)
          ∙ ap (round registers) right;
      one_lives = record { begun = omega (arith, ints, clamps); lasts = omega (arith, ints, clamps) };
      other_lives = record { begun = omega (arith, ints, clamps); lasts = omega (arith, ints, clamps) };
    }

-- the same, as 64 bits hold it

pub fits-between : (z : ℤ) → (pos 0 -ℤ pos 8589934592) ≤ℤ z → z ≤ℤ pos 8589934592 → FitsSigned w64 z
fits-between (pos n) low high = let h : n ≤ 8589934592 = omega (arith, ints) in search rules
fits-between (negsuc n) low high = let h : n ≤ 8589934592 = omega (arith, ints) in search rules

pub product-is : (shift first : ℤ) (ii : ℕ) → ii ≤ 16384 → FitsSigned w64 shift → shift ≡ first → (to_z w64 (of_z w64 shift) *ℤ to_z w64 ii) ≡ (first *ℤ pos ii)
product-is shift first ii few fits is =
    ap (λ z. z *ℤ to_z w64 ii) (to_z-of_z w64 shift fits ∙ is) ∙ ap (λ z. first *ℤ z) (let e : to_z w64 ii ≡ pos ii = omega (arith, ints) in e)

pub begin-is : (first : ℕ) (raw product : ℤ) → first ≤ 4294967296 → raw ≡ product → (pos 0 -ℤ pos 4294967296) ≤ℤ product → product ≤ℤ pos 4294967296
    → (to_z w64 first -ℤ to_z w64 (of_z w64 raw)) ≡ (pos first -ℤ product)
begin-is first raw product short is low high =
    let fits : FitsSigned w64 product = fits-between product (omega (arith, ints)) (omega (arith, ints)) in
    let a : to_z w64 first ≡ pos first = omega (arith, ints) in
    let b : to_z w64 (of_z w64 raw) ≡ product = ap (λ z. to_z w64 (of_z w64 z)) is ∙ to_z-of_z w64 product fits in
    ap (λ z. z -ℤ to_z w64 (of_z w64 raw)) a ∙ ap (λ z. pos first -ℤ z) b

pub max-is : (begin raw : ℤ) (first : ℕ) (greater : ℤ) → first ≤ 4294967296 → raw ≡ begin → (pos 0 -ℤ pos 8589934592) ≤ℤ begin → begin ≤ℤ pos 8589934592
    → greater ≡ int_max (to_z w64 (of_z w64 raw)) (to_z w64 first) → greater ≡ int_max begin (pos first)
max-is begin raw first greater short is low high e =
    let fits : FitsSigned w64 begin = fits-between begin low high in
    let a : to_z w64 first ≡ pos first = omega (arith, ints) in
    let b : to_z w64 (of_z w64 raw) ≡ begin = ap (λ z. to_z w64 (of_z w64 z)) is ∙ to_z-of_z w64 begin fits in
    e ∙ ap (λ z. int_max z (to_z w64 first)) b ∙ ap (int_max begin) a

pub cycle-is : (begin greater : ℤ) (first : ℕ) → FitsSigned w64 greater → greater ≡ int_max begin (pos first) → pos (unsigned_abs (to_z w64 (of_z w64 greater))) ≡ int_max begin (pos first)
cycle-is begin (pos n) first fits e = ap (λ z. pos (unsigned_abs z)) (to_z-of_z w64 (pos n) fits) ∙ e
cycle-is begin (negsuc n) first fits e = absurd (omega (arith, ints, clamps))

pub cast-fits : (greater : ℤ) → FitsSigned w64 greater → pos 0 ≤ℤ greater
    → T (non_neg (to_z w64 (of_z w64 greater))) × Fits w64 (unsigned_abs (to_z w64 (of_z w64 greater)))
cast-fits (pos n) fits low =
    let P : ℤ → Type 0 = λ z. T (non_neg z) × Fits w64 (unsigned_abs z) in
    let small : n < 9223372036854775808 = omega (arith, fits.sfits) in
    subst P (sym (to_z-of_z w64 (pos n) fits)) (tt, search rules)
cast-fits (negsuc n) fits low = absurd (omega (arith, ints))
