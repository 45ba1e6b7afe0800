-- The registers that a value forbids another one are those of the turns at which the two meet.
use Rattle.std.proofs.Common.{◌≡◌, ◌↔◌, ◌⊎◌, ℕ, suc, ◌+◌, ◌-◌, ◌*◌, ◌/◌, ◌%◌, ◌<◌, ◌≤◌, ℤ, pos, negsuc, ◌+ℤ◌, ◌-ℤ◌, ◌*ℤ◌, refl, sym, ap, ◌∙◌, subst, inl, inr, arith}
use Rattle.std.proofs.lemmas.Bool.{cases_lt, cases_order}
use Rattle.std.proofs.lemmas.Int.{ints}
use Rattle.std.proofs.Math.Nat.{div-add-mod', mod-lt, div-le_self, mod-eq_of_lt, mul-le-mul_left}
use Rattle.std.proofs.Math.IntN.{negsuc-*ℤ-pos}
use Rattle.registers.specs.Physical.{physical}
use Rattle.registers.specs.declared.lifetime.Lifetime.{Lifetime}
use Rattle.registers.proofs.Whole.{times-more}
use Rattle.registers.specs.Residues.{MeetsAt, Forbids, FitsItself, IsLifeSpan}
use Rattle.registers.specs.inner.Turns.{point_of}
use Rattle.registers.proofs.allotted.Shifts.{above-up, up-above, below-down, down-below, shifts-are_between, round, round-more, round-shift, round-pos}

-- numbers of two digits are compared by the first one, and then by the second
lex-from : (x y r s m : ℕ) → r < m → s < m → x * m + r ≤ y * m + s → (x < y) ⊎ ((x ≡ y) × (r ≤ s))
lex-from x y r s m hr hs le = elim (cases_order x y) [
  | inl same ↦ let e : x * m ≡ y * m = ap (λ z. z * m) same in inr (same, omega arith)
  | inr apart ↦ elim apart [
    | inl lt ↦ inl lt
    | inr gt ↦
        let g : m * x ≡ m * suc y + m * (x - suc y) = times-more m (suc y) x (omega arith) in
        let c : m * suc y ≡ y * m + m = omega arith in
        let d : x * m ≡ m * x = omega arith in
        absurd (omega arith)
  ]
]

lex-to : (x y r s m : ℕ) → r < m → s < m → (x < y) ⊎ ((x ≡ y) × (r ≤ s)) → x * m + r ≤ y * m + s
lex-to x y r s m hr hs (inl lt) =
    let g : m * y ≡ m * suc x + m * (y - suc x) = times-more m (suc x) y (omega arith) in
    let c : m * suc x ≡ x * m + m = omega arith in
    let d : y * m ≡ m * y = omega arith in
    omega arith
lex-to x y r s m hr hs (inr both) = let e : x * m ≡ y * m = ap (λ z. z * m) both.0 in let b = both.1 in omega arith

-- whatever the base is
lex-move : (x y r s m n : ℕ) → r < m → s < m → r < n → s < n → x * m + r ≤ y * m + s → x * n + r ≤ y * n + s
lex-move x y r s m n rm sm rn sn le = lex-to x y r s n rn sn (lex-from x y r s m rm sm le)

pub times-diff : (a b m : ℕ) → (((pos a -ℤ pos b) *ℤ pos m) +ℤ pos (b * m)) ≡ pos (a * m)
times-diff a b m = elim (cases_lt a b) [
  | inl lt ↦
      let k : ℕ = b - suc a in
      let e : (pos a -ℤ pos b) ≡ negsuc k = omega (arith, ints) in
      let f = negsuc-*ℤ-pos k m in
      let h : b ≡ suc k + a = omega arith in
      let g : b * m ≡ (suc k + a) * m = ap (λ z. z * m) h in
      let d : (suc k + a) * m ≡ suc k * m + a * m = omega arith in
      ap (λ z. (z *ℤ pos m) +ℤ pos (b * m)) e ∙ (let z : ((negsuc k *ℤ pos m) +ℤ pos (b * m)) ≡ pos (a * m) = omega (arith, ints) in z)
  | inr ge ↦
      let k : ℕ = a - b in
      let e : (pos a -ℤ pos b) ≡ pos k = omega (arith, ints) in
      let f : (pos k *ℤ pos m) ≡ pos (k * m) = refl in
      let h : a ≡ k + b = omega arith in
      let g : a * m ≡ (k + b) * m = ap (λ z. z * m) h in
      let d : (k + b) * m ≡ k * m + b * m = omega arith in
      ap (λ z. (z *ℤ pos m) +ℤ pos (b * m)) e ∙ (let z : ((pos k *ℤ pos m) +ℤ pos (b * m)) ≡ pos (a * m) = omega (arith, ints) in z)
]

-- when two lifetimes meet, in natural numbers
meets-nat : (ii : ℕ) (one other : Lifetime) (at base : ℕ) → 1 ≤ ii → one.first ≤ one.last → other.first ≤ other.last
    → MeetsAt ii one other (pos at -ℤ pos base) ↔ ((one.first + base * ii ≤ other.last + at * ii) × (other.first + at * ii ≤ one.last + base * ii))
meets-nat ii one other at base some oh ot =
    let s : ℤ = pos at -ℤ pos base in
    let t : ((s *ℤ pos ii) +ℤ pos (base * ii)) ≡ pos (at * ii) = times-diff at base ii in
    let b = shifts-are_between ii one other s some oh ot in (
      λ m.
          let w = b.0 m in
          let low = up-above s (pos one.first -ℤ pos other.last) ii some w.0 in
          let high = down-below s (pos one.last -ℤ pos other.first) ii some w.1 in
          (omega (arith, ints), omega (arith, ints)),
      λ h.
          let l = h.0 in let r = h.1 in
          b.1 (
            above-up s (pos one.first -ℤ pos other.last) ii some (omega (arith, ints)),
            below-down s (pos one.last -ℤ pos other.first) ii some (omega (arith, ints)),
          ),
    )

-- the turns at which two values meet, told by points; there are 2^33 turns more for each register, so that none is below 0
turns-meet : (ii registers n at : ℕ) (one other : Lifetime) → 1 ≤ ii → ii ≤ 16384
    → ((one.first + (n + registers * 8589934592) * ii ≤ other.last + at * ii) × (other.first + at * ii ≤ one.last + (n + registers * 8589934592) * ii))
    ↔ ((point_of ii one.first + n * 16384 + registers * 140737488355328 ≤ point_of ii other.last + at * 16384)
    × (point_of ii other.first + at * 16384 ≤ point_of ii one.last + n * 16384 + registers * 140737488355328))
turns-meet ii registers n at one other some few =
    let a : ℕ = n + registers * 8589934592 in
    let oq : ℕ = one.first / ii in let or : ℕ = one.first % ii in
    let lq : ℕ = one.last / ii in let lr : ℕ = one.last % ii in
    let tq : ℕ = other.first / ii in let tr : ℕ = other.first % ii in
    let uq : ℕ = other.last / ii in let ur : ℕ = other.last % ii in
    let oe : oq * ii + or ≡ one.first = div-add-mod' one.first ii in
    let le : lq * ii + lr ≡ one.last = div-add-mod' one.last ii in
    let te : tq * ii + tr ≡ other.first = div-add-mod' other.first ii in
    let ue : uq * ii + ur ≡ other.last = div-add-mod' other.last ii in
    let ol : or < ii = mod-lt one.first some in let ll : lr < ii = mod-lt one.last some in
    let tl : tr < ii = mod-lt other.first some in let ul : ur < ii = mod-lt other.last some in
    let d1 : (oq + a) * ii ≡ oq * ii + a * ii = omega arith in
    let d2 : (uq + at) * ii ≡ uq * ii + at * ii = omega arith in
    let d3 : (tq + at) * ii ≡ tq * ii + at * ii = omega arith in
    let d4 : (lq + a) * ii ≡ lq * ii + a * ii = omega arith in (
      λ h.
          let low = h.0 in let high = h.1 in
          let l : (oq + a) * 16384 + or ≤ (uq + at) * 16384 + ur = lex-move (oq + a) (uq + at) or ur ii 16384 ol ul (omega arith) (omega arith) (omega arith) in
          let g : (tq + at) * 16384 + tr ≤ (lq + a) * 16384 + lr = lex-move (tq + at) (lq + a) tr lr ii 16384 tl ll (omega arith) (omega arith) (omega arith) in
          (omega arith, omega arith),
      λ h.
          let low = h.0 in let high = h.1 in
          let l : (oq + a) * ii + or ≤ (uq + at) * ii + ur = lex-move (oq + a) (uq + at) or ur 16384 ii (omega arith) (omega arith) ol ul (omega arith) in
          let g : (tq + at) * ii + tr ≤ (lq + a) * ii + lr = lex-move (tq + at) (lq + a) tr lr 16384 ii (omega arith) (omega arith) tl ll (omega arith) in
          (omega arith, omega arith),
    )

-- where they meet in a register
same-register : (registers n at c : ℕ) → 1 ≤ registers → c < registers
    → (physical registers n (pos 0) ≡ physical registers c (pos at -ℤ pos (n + registers * 8589934592))) ↔ (at % registers ≡ c)
same-register registers n at c some lt =
    let base : ℕ = n + registers * 8589934592 in
    let s : ℤ = pos at -ℤ pos base in
    let turn : 8589934592 * registers ≡ registers * 8589934592 = omega arith in
    let a : (((pos n -ℤ pos 0) +ℤ s) +ℤ pos (8589934592 * registers)) ≡ pos at = omega (arith, ints) in
    let b : ((pos c -ℤ s) +ℤ s) ≡ pos c = omega (arith, ints) in
    let back : ((pos c -ℤ s) +ℤ s) ≡ pos c = omega (arith, ints) in
    let here : round registers ((pos n -ℤ pos 0) +ℤ s) ≡ at % registers
    = sym (round-more registers ((pos n -ℤ pos 0) +ℤ s) 8589934592 some) ∙ ap (round registers) a ∙ round-pos registers at some in
    let there : round registers ((pos c -ℤ s) +ℤ s) ≡ c = ap (round registers) b ∙ round-pos registers c some ∙ mod-eq_of_lt lt in (
      λ h. sym here ∙ round-shift registers (pos n -ℤ pos 0) (pos c -ℤ s) s some h ∙ there,
      λ h.
          let t : ℤ = pos base -ℤ pos at in
          let p : (((pos n -ℤ pos 0) +ℤ s) +ℤ t) ≡ (pos n -ℤ pos 0) = omega (arith, ints) in
          let q : (((pos c -ℤ s) +ℤ s) +ℤ t) ≡ (pos c -ℤ s) = omega (arith, ints) in
          sym (ap (round registers) p) ∙ round-shift registers ((pos n -ℤ pos 0) +ℤ s) ((pos c -ℤ s) +ℤ s) t some (here ∙ h ∙ sym there) ∙ ap (round registers) q,
    )

-- no turn is below 0
turn-of : (ii : ℕ) (one other : Lifetime) (s : ℤ) (base : ℕ) → 1 ≤ ii → one.first ≤ one.last → other.first ≤ other.last → other.last ≤ 4294967296 → 4294967296 ≤ base
    → MeetsAt ii one other s → (at : ℕ) × (s ≡ (pos at -ℤ pos base))
turn-of ii one other (pos k) base some oh ot short far m = (k + base, omega (arith, ints))
turn-of ii one other (negsuc k) base some oh ot short far m =
    let w = (shifts-are_between ii one other (negsuc k) some oh ot).0 m in
    let low = up-above (negsuc k) (pos one.first -ℤ pos other.last) ii some w.0 in
    let f = negsuc-*ℤ-pos k ii in
    let g : suc k * 1 ≤ suc k * ii = mul-le-mul_left (suc k) some in
    let h : suc k ≤ 4294967296 = omega (arith, ints) in
    (base - suc k, omega (arith, ints))

-- a register is forbidden where it is that of such a turn
abbrev pub MeetsIn : ℕ → ℕ → Lifetime → ℕ → Lifetime → ℕ → Type 0
MeetsIn ii registers one n other at =
    (point_of ii one.first + n * 16384 + registers * 140737488355328 ≤ point_of ii other.last + at * 16384)
    × (point_of ii other.first + at * 16384 ≤ point_of ii one.last + n * 16384 + registers * 140737488355328)

pub forbids-in : (ii registers n c : ℕ) (one other : Lifetime) → 1 ≤ ii → ii ≤ 16384 → 1 ≤ registers → IsLifeSpan one → IsLifeSpan other → c < registers
    → Forbids ii registers one n other c ↔ ((at : ℕ) × MeetsIn ii registers one n other at × (at % registers ≡ c))
forbids-in ii registers n c one other some few regs ho ht lt =
    let base : ℕ = n + registers * 8589934592 in (
      λ f.
          let at = turn-of ii one other f.0 base some ho.ordered ht.ordered ht.short (omega arith) f.1 in
          let m : MeetsAt ii one other (pos at.0 -ℤ pos base) = subst (MeetsAt ii one other) at.1 f.1 in
          let w = (turns-meet ii registers n at.0 one other some few).0 ((meets-nat ii one other at.0 base some ho.ordered ht.ordered).0 m) in
          let p : physical registers n (pos 0) ≡ physical registers c (pos at.0 -ℤ pos base) = f.2 ∙ ap (physical registers c) at.1 in
          (at.0, w, (same-register registers n at.0 c regs lt).0 p),
      λ h.
          let at : ℕ = h.0 in
          let m = (meets-nat ii one other at base some ho.ordered ht.ordered).1 ((turns-meet ii registers n at one other some few).1 h.1) in
          ((pos at -ℤ pos base), m, (same-register registers n at c regs lt).1 h.2),
    )

-- points come in the order of their cycles

pub point-order : (ii m n : ℕ) → 1 ≤ ii → ii ≤ 16384 → m ≤ n → point_of ii m ≤ point_of ii n
point-order ii m n some few le =
    let me : (m / ii) * ii + m % ii ≡ m = div-add-mod' m ii in
    let ne : (n / ii) * ii + n % ii ≡ n = div-add-mod' n ii in
    let ml : m % ii < ii = mod-lt m some in let nl : n % ii < ii = mod-lt n some in
    lex-move (m / ii) (n / ii) (m % ii) (n % ii) ii 16384 ml nl (omega arith) (omega arith) (omega arith)

pub point-small : (ii n : ℕ) → 1 ≤ ii → ii ≤ 16384 → n ≤ 4294967296 → point_of ii n ≤ 70368744194048
point-small ii n some few le =
    let q : n / ii ≤ n = div-le_self n ii in
    let l : n % ii < ii = mod-lt n some in
    omega arith

-- a value fits itself where it is not as long as all registers
pub fits-length : (ii registers : ℕ) (life : Lifetime) → 1 ≤ ii → ii ≤ 16384 → life.first ≤ life.last
    → FitsItself ii registers life ↔ (point_of ii life.last - point_of ii life.first < registers * 16384)
fits-length ii registers life some few order =
    let fq : ℕ = life.first / ii in let fr : ℕ = life.first % ii in
    let lq : ℕ = life.last / ii in let lr : ℕ = life.last % ii in
    let fe : fq * ii + fr ≡ life.first = div-add-mod' life.first ii in
    let le : lq * ii + lr ≡ life.last = div-add-mod' life.last ii in
    let fl : fr < ii = mod-lt life.first some in let ll : lr < ii = mod-lt life.last some in
    let d : ℕ = life.last - life.first in
    let de : (d / ii) * ii + d % ii ≡ d = div-add-mod' d ii in
    let dl : d % ii < ii = mod-lt d some in
    let far : (fq + registers) * ii ≡ fq * ii + registers * ii = omega arith in (
      λ fits. elim (cases_lt (point_of ii life.last - point_of ii life.first) (registers * 16384)) [
        | inl lt ↦ lt
        | inr ge ↦
            let g : (fq + registers) * ii + fr ≤ lq * ii + lr = lex-move (fq + registers) lq fr lr 16384 ii (omega arith) (omega arith) fl ll (omega arith) in
            let over : ii * registers ≡ ii * suc (d / ii) + ii * (registers - suc (d / ii)) = times-more ii (suc (d / ii)) registers fits in
            let e : ii * suc (d / ii) ≡ (d / ii) * ii + ii = omega arith in
            let r : registers * ii ≡ ii * registers = omega arith in
            absurd (omega arith)
      ],
      λ short. elim (cases_lt (d / ii) registers) [
        | inl lt ↦ lt
        | inr ge ↦
            let over : ii * (d / ii) ≡ ii * registers + ii * (d / ii - registers) = times-more ii registers (d / ii) ge in
            let r : registers * ii ≡ ii * registers = omega arith in
            let q : (d / ii) * ii ≡ ii * (d / ii) = omega arith in
            let g : (fq + registers) * 16384 + fr ≤ lq * 16384 + lr = lex-move (fq + registers) lq fr lr ii 16384 fl ll (omega arith) (omega arith) (omega arith) in
            absurd (omega arith)
      ],
    )
