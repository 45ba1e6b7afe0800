-- The instances of a value that live in the cycle of a row, by the ages of their iterations.
use Rattle.std.proofs.Common.{◌≡◌, ℕ, suc, ◌+◌, ◌-◌, ◌*◌, ◌/◌, ◌<◌, ◌≤◌, ℤ, pos, negsuc, ◌+ℤ◌, ◌-ℤ◌, ◌*ℤ◌, refl, arith}
use Rattle.std.specs.Prelude.{◌≤ℤ◌, ◌<ℤ◌}
use Rattle.std.proofs.lemmas.Int.{ints}
use Rattle.std.proofs.Math.Nat.{div-lt_iff_lt-mul, le-div_iff_mul-le}
use Rattle.std.proofs.Math.IntN.{negsuc-*ℤ-pos}
use Rattle.registers.specs.declared.lifetime.Lifetime.{Lifetime}
use Rattle.registers.specs.Crowds.{least_age, ages_end, AgesAreBetween}
use Rattle.registers.proofs.allotted.More.{mul-less}

-- of an iteration that began `n` intervals before

begun-from : (ii row n first : ℕ) → row < ii → first ≤ row + n * ii → (first + (ii - 1 - row)) / ii ≤ n
begun-from ii row n first lt le =
    let e : suc n * ii ≡ n * ii + ii = omega arith in
    let h = (div-lt_iff_lt-mul {k = ii} {x = first + (ii - 1 - row)} {y = suc n} (omega arith)).1 (omega arith) in
    omega arith

begun-to : (ii row n first : ℕ) → row < ii → (first + (ii - 1 - row)) / ii ≤ n → first ≤ row + n * ii
begun-to ii row n first lt le =
    let e : suc n * ii ≡ n * ii + ii = omega arith in
    let h = (div-lt_iff_lt-mul {k = ii} {x = first + (ii - 1 - row)} {y = suc n} (omega arith)).0 (omega arith) in
    omega arith

lasts-from : (ii row n last : ℕ) → row < ii → row + n * ii ≤ last → n < (last + (ii - row)) / ii
lasts-from ii row n last lt le =
    let e : suc n * ii ≡ n * ii + ii = omega arith in
    let h = (le-div_iff_mul-le {k = ii} {x = suc n} {y = last + (ii - row)} (omega arith)).1 (omega arith) in
    omega arith

lasts-to : (ii row n last : ℕ) → row < ii → n < (last + (ii - row)) / ii → row + n * ii ≤ last
lasts-to ii row n last lt le =
    let e : suc n * ii ≡ n * ii + ii = omega arith in
    let h = (le-div_iff_mul-le {k = ii} {x = suc n} {y = last + (ii - row)} (omega arith)).0 (omega arith) in
    omega arith

-- told by the age, any whole number
age-from : (ii row : ℕ) (life : Lifetime) (age : ℤ) → row < ii → pos life.first ≤ℤ (pos row +ℤ (age *ℤ pos ii)) → (pos row +ℤ (age *ℤ pos ii)) ≤ℤ pos life.last
    → (pos (least_age ii row life) ≤ℤ age) × (age <ℤ pos (ages_end ii row life))
age-from ii row life (pos n) lt begun lasts =
    let f : (pos n *ℤ pos ii) ≡ pos (n * ii) = refl in
    let a = begun-from ii row n life.first lt (omega (arith, ints)) in
    let b = lasts-from ii row n life.last lt (omega (arith, ints)) in
    (omega (arith, ints), omega (arith, ints))
age-from ii row life (negsuc n) lt begun lasts =
    let f = negsuc-*ℤ-pos n ii in
    let e : suc n * ii ≡ n * ii + ii = omega arith in
    absurd (omega (arith, ints))

age-to : (ii row : ℕ) (life : Lifetime) (age : ℤ) → row < ii → pos (least_age ii row life) ≤ℤ age → age <ℤ pos (ages_end ii row life)
    → (pos life.first ≤ℤ (pos row +ℤ (age *ℤ pos ii))) × ((pos row +ℤ (age *ℤ pos ii)) ≤ℤ pos life.last)
age-to ii row life (pos n) lt from to =
    let f : (pos n *ℤ pos ii) ≡ pos (n * ii) = refl in
    let a = begun-to ii row n life.first lt (omega (arith, ints)) in
    let b = lasts-to ii row n life.last lt (omega (arith, ints)) in
    (omega (arith, ints), omega (arith, ints))
age-to ii row life (negsuc n) lt from to = absurd (omega (arith, ints))

pub ages-are_between : AgesAreBetween
ages-are_between ii row life iteration interval lt ordered =
    let e = mul-less interval iteration ii in (
      λ lives.
          let a = lives.begun in
          let b = lives.lasts in
          age-from ii row life (interval -ℤ iteration) lt (omega (arith, ints)) (omega (arith, ints)),
      λ between.
          let lives = age-to ii row life (interval -ℤ iteration) lt between.0 between.1 in
          let a = lives.0 in
          let b = lives.1 in
          record { begun = omega (arith, ints); lasts = omega (arith, ints) },
    )
