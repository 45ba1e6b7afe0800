-- Two lifetimes meet at just the differences between two bounds, and a number is forbidden where one of them fits it.
use Rattle.std.proofs.Common.{◌≡◌, ℕ, suc, ◌+◌, ◌-◌, ◌*◌, ◌/◌, ◌%◌, ◌<◌, ◌≤◌, ℤ, pos, negsuc, ◌+ℤ◌, ◌-ℤ◌, refl, sym, ap, ◌∙◌, subst, inl, inr, arith}
use Rattle.std.specs.Prelude.{◌*ℤ◌, ◌≤ℤ◌, ◌<ℤ◌, unsigned_abs}
use Rattle.std.specs.Int.{int_rem_euclid}
use Rattle.std.proofs.lemmas.Int.{ints, int_rem_euclid_is}
use Rattle.std.proofs.Math.Nat.{div-add-mod', mod-lt, mod-le, mod-eq_of_lt, mul-le-mul_left, add-mul-mod_self_right}
use Rattle.std.proofs.Math.IntN.{negsuc-*ℤ-pos}
use Rattle.registers.specs.Physical.{physical}
use Rattle.registers.specs.Residues.{rounded_down, rounded_up, least_shift, greatest_shift, ShiftsAreBetween, distance_up, ForbidsBetween}
use Rattle.registers.proofs.Whole.{cases-int}
use Rattle.registers.proofs.Whole.{times-more}

mul-step : (a b : ℤ) (n : ℕ) → a <ℤ b → ((a *ℤ pos n) +ℤ pos n) ≤ℤ (b *ℤ pos n)
mul-step (pos a) (pos b) n l =
    let h : a < b = omega (arith, ints) in
    let m : n * b ≡ n * suc a + n * (b - suc a) = times-more n (suc a) b (omega arith) in
    let c : b * n ≡ n * b = omega arith in
    let d : suc a * n ≡ n * suc a = omega arith in
    let e : suc a * n ≡ a * n + n = omega arith in
    let f : (pos a *ℤ pos n) ≡ pos (a * n) = refl in
    let g : (pos b *ℤ pos n) ≡ pos (b * n) = refl in
    omega (arith, ints)
mul-step (pos a) (negsuc b) n l = absurd (omega (arith, ints))
mul-step (negsuc a) (pos b) n l =
    let e : suc a * n ≡ a * n + n = omega arith in
    let f = negsuc-*ℤ-pos a n in
    let g : (pos b *ℤ pos n) ≡ pos (b * n) = refl in
    omega (arith, ints)
mul-step (negsuc a) (negsuc b) n l =
    let h : b < a = omega (arith, ints) in
    let m : n * suc a ≡ n * suc (suc b) + n * (suc a - suc (suc b)) = times-more n (suc (suc b)) (suc a) (omega arith) in
    let c : suc a * n ≡ n * suc a = omega arith in
    let d : suc (suc b) * n ≡ n * suc (suc b) = omega arith in
    let e : suc (suc b) * n ≡ suc b * n + n = omega arith in
    let f = negsuc-*ℤ-pos a n in
    let g = negsuc-*ℤ-pos b n in
    omega (arith, ints)

down-is : (z : ℤ) (n : ℕ) → 1 ≤ n → ((rounded_down z n *ℤ pos n) ≤ℤ z) × (z <ℤ ((rounded_down z n *ℤ pos n) +ℤ pos n))
down-is (pos a) n some =
    let s : (a / n) * n + a % n ≡ a = div-add-mod' a n in
    let m : a % n < n = mod-lt a some in
    let f : (pos (a / n) *ℤ pos n) ≡ pos ((a / n) * n) = refl in
    (omega (arith, ints), omega (arith, ints))
down-is (negsuc a) n some =
    let s : (a / n) * n + a % n ≡ a = div-add-mod' a n in
    let m : a % n < n = mod-lt a some in
    let e : suc (a / n) * n ≡ (a / n) * n + n = omega arith in
    let f = negsuc-*ℤ-pos (a / n) n in
    (omega (arith, ints), omega (arith, ints))

pub below-down : (q z : ℤ) (n : ℕ) → 1 ≤ n → (q *ℤ pos n) ≤ℤ z → q ≤ℤ rounded_down z n
below-down q z n some le = elim (cases-int q (rounded_down z n)) [
  | inl h ↦ h
  | inr over ↦ let s = mul-step (rounded_down z n) q n over in let d = (down-is z n some).1 in absurd (omega (arith, ints))
]

pub down-below : (q z : ℤ) (n : ℕ) → 1 ≤ n → q ≤ℤ rounded_down z n → (q *ℤ pos n) ≤ℤ z
down-below q z n some le = elim (cases-int (rounded_down z n) q) [
  | inl h ↦ let e : q ≡ rounded_down z n = omega (arith, ints) in let d = (down-is z n some).0 in subst (λ x. (x *ℤ pos n) ≤ℤ z) (sym e) d
  | inr under ↦ let s = mul-step q (rounded_down z n) n under in let d = (down-is z n some).0 in omega (arith, ints)
]

pub above-up : (q z : ℤ) (n : ℕ) → 1 ≤ n → z ≤ℤ (q *ℤ pos n) → rounded_up z n ≤ℤ q
above-up q z n some le = elim (cases-int (rounded_up z n) q) [
  | inl h ↦ h
  | inr over ↦ let s = mul-step q (rounded_up z n) n over in let d = (down-is (z +ℤ (pos n -ℤ pos 1)) n some).0 in absurd (omega (arith, ints))
]

pub up-above : (q z : ℤ) (n : ℕ) → 1 ≤ n → rounded_up z n ≤ℤ q → z ≤ℤ (q *ℤ pos n)
up-above q z n some le =
    let d = (down-is (z +ℤ (pos n -ℤ pos 1)) n some).1 in
    elim (cases-int q (rounded_up z n)) [
      | inl h ↦ let e : rounded_up z n ≡ q = omega (arith, ints) in subst (λ x. z ≤ℤ (x *ℤ pos n)) e (omega (arith, ints))
      | inr over ↦ let s = mul-step (rounded_up z n) q n over in omega (arith, ints)
    ]

pub shifts-are_between : ShiftsAreBetween
shifts-are_between ii one other shift some oh ot = (
  λ m.
      let a = m.1.begun in let b = m.1.lasts in let c = m.2.begun in let d = m.2.lasts in
      let z : (pos 0 *ℤ pos ii) ≡ pos (0 * ii) = refl in
      let y : 0 * ii ≡ 0 = omega arith in
      (above-up shift (pos one.first -ℤ pos other.last) ii some (omega (arith, ints)), below-down shift (pos one.last -ℤ pos other.first) ii some (omega (arith, ints))),
  λ h.
      let low = up-above shift (pos one.first -ℤ pos other.last) ii some h.0 in
      let high = down-below shift (pos one.last -ℤ pos other.first) ii some h.1 in
      let z : (pos 0 *ℤ pos ii) ≡ pos (0 * ii) = refl in
      let y : 0 * ii ≡ 0 = omega arith in
      elim (cases-int (pos one.first) (pos other.first +ℤ (shift *ℤ pos ii))) [
        | inl later ↦ (
          (pos other.first +ℤ (shift *ℤ pos ii)),
          record { begun = omega (arith, ints); lasts = omega (arith, ints) },
          record { begun = omega (arith, ints); lasts = omega (arith, ints) },
        )
        | inr sooner ↦ (
          pos one.first,
          record { begun = omega (arith, ints); lasts = omega (arith, ints) },
          record { begun = omega (arith, ints); lasts = omega (arith, ints) },
        )
      ],
)

-- around the registers

abbrev pub round : ℕ → ℤ → ℕ
round registers z = unsigned_abs (int_rem_euclid z (pos registers))

round-is : (registers : ℕ) (z : ℤ) (k m : ℕ) → 0 < registers → z +ℤ pos (k * registers) ≡ pos m → round registers z ≡ m % registers
round-is registers z k m some e = ap unsigned_abs (int_rem_euclid_is z (pos registers) registers k m some refl e)

rounds : (registers : ℕ) (z : ℤ) → 0 < registers → (k : ℕ) × (m : ℕ) × (z +ℤ pos (k * registers) ≡ pos m)
rounds registers (pos a) some = (0, a, let z : 0 * registers ≡ 0 = omega arith in omega (arith, ints))
rounds registers (negsuc a) some =
    let far : suc a * 1 ≤ suc a * registers = mul-le-mul_left (suc a) some in (suc a, suc a * registers - suc a, omega (arith, ints))

pub round-more : (registers : ℕ) (z : ℤ) (k : ℕ) → 0 < registers → round registers (z +ℤ pos (k * registers)) ≡ round registers z
round-more registers z k some =
    let r = rounds registers z some in
    let e = r.2 in
    round-is registers (z +ℤ pos (k * registers)) r.0 (r.1 + k * registers) some (omega (arith, ints))
    ∙ add-mul-mod_self_right r.1 k registers
    ∙ sym (round-is registers z r.0 r.1 some r.2)

pub round-below : (registers : ℕ) (z : ℤ) → 0 < registers → round registers z < registers
round-below registers z some = let r = rounds registers z some in let e = round-is registers z r.0 r.1 some r.2 in let m : r.1 % registers < registers = mod-lt r.1 some in omega arith

-- numbers that are one around the registers stay one
pub round-shift : (registers : ℕ) (x y t : ℤ) → 0 < registers → round registers x ≡ round registers y → round registers (x +ℤ t) ≡ round registers (y +ℤ t)
round-shift registers x y t some e =
    let a = rounds registers x some in
    let b = rounds registers y some in
    let ae = a.2 in
    let be = b.2 in
    let same : a.1 % registers ≡ b.1 % registers = sym (round-is registers x a.0 a.1 some a.2) ∙ e ∙ round-is registers y b.0 b.1 some b.2 in
    let am : (a.1 / registers) * registers + a.1 % registers ≡ a.1 = div-add-mod' a.1 registers in
    let bm : (b.1 / registers) * registers + b.1 % registers ≡ b.1 = div-add-mod' b.1 registers in
    let met : (((x +ℤ t) +ℤ pos (a.0 * registers)) +ℤ pos ((b.1 / registers) * registers)) ≡ (((y +ℤ t) +ℤ pos (b.0 * registers)) +ℤ pos ((a.1 / registers) * registers)) = omega (arith, ints) in
    sym (round-more registers ((x +ℤ t) +ℤ pos (a.0 * registers)) (b.1 / registers) some ∙ round-more registers (x +ℤ t) a.0 some)
    ∙ ap (round registers) met
    ∙ round-more registers ((y +ℤ t) +ℤ pos (b.0 * registers)) (a.1 / registers) some ∙ round-more registers (y +ℤ t) b.0 some

pub round-pos : (registers m : ℕ) → 0 < registers → round registers (pos m) ≡ m % registers
round-pos registers m some = round-is registers (pos m) 0 m some (let z : 0 * registers ≡ 0 = omega arith in omega (arith, ints))

pub nat-from : (z : ℤ) → pos 0 ≤ℤ z → (n : ℕ) × (z ≡ pos n)
nat-from (pos n) h = (n, refl)
nat-from (negsuc n) h = absurd (omega (arith, ints))

-- the first difference from a least one on that makes the candidate the register of the other's instance
pub same-at_first : (registers number candidate : ℕ) (low : ℤ) → 0 < registers
    → physical registers number (pos 0) ≡ physical registers candidate (low +ℤ pos (distance_up registers number low candidate))
same-at_first registers number candidate low some =
    let far : ℕ = distance_up registers number low candidate in
    let t : ℤ = pos number -ℤ pos far in
    let a : (pos far +ℤ t) ≡ (pos number -ℤ pos 0) = omega (arith, ints) in
    let b : ((pos candidate -ℤ (pos number +ℤ low)) +ℤ t) ≡ (pos candidate -ℤ (low +ℤ pos far)) = omega (arith, ints) in
    let below : far < registers = round-below registers (pos candidate -ℤ (pos number +ℤ low)) some in
    let itself : round registers (pos far) ≡ far = round-pos registers far some ∙ mod-eq_of_lt below in
    ap (round registers) (sym a) ∙ round-shift registers (pos far) (pos candidate -ℤ (pos number +ℤ low)) t some itself ∙ ap (round registers) b

pub forbids-between : ForbidsBetween
forbids-between ii registers number candidate one other some regs oh ot =
    let low : ℤ = least_shift ii one other in
    let high : ℤ = greatest_shift ii one other in
    let far : ℕ = distance_up registers number low candidate in (
      λ f.
          let shift : ℤ = f.0 in
          let between = (shifts-are_between ii one other shift some oh ot).0 f.1 in
          let bl = between.0 in
          let bh = between.1 in
          let e = nat-from (shift -ℤ low) (omega (arith, ints)) in
          let t : ℤ = (shift -ℤ pos number) -ℤ low in
          let ee = e.1 in
          let a : ((pos number -ℤ pos 0) +ℤ t) ≡ pos e.0 = omega (arith, ints) in
          let b : ((pos candidate -ℤ shift) +ℤ t) ≡ (pos candidate -ℤ (pos number +ℤ low)) = omega (arith, ints) in
          let same : e.0 % registers ≡ far
          = sym (round-pos registers e.0 regs) ∙ ap (round registers) (sym a) ∙ round-shift registers (pos number -ℤ pos 0) (pos candidate -ℤ shift) t regs f.2 ∙ ap (round registers) b in
          let small : e.0 % registers ≤ e.0 = mod-le e.0 registers in
          omega (arith, ints),
      λ h.
          let shift : ℤ = low +ℤ pos far in
          let lowest : low ≤ℤ shift = omega (arith, ints) in (
            shift,
            (shifts-are_between ii one other shift some oh ot).1 (lowest, h),
            same-at_first registers number candidate low regs,
          ),
    )
