-- Where more instances live in one cycle than there are registers, the least numbers come to an end.
use Rattle.std.proofs.Common.{◌≡◌, ◌⊎◌, ℕ, suc, zero, ◌+◌, ◌-◌, ◌*◌, ◌/◌, ◌%◌, ◌<◌, ◌≤◌, ℤ, pos, ◌+ℤ◌, ◌-ℤ◌, ◌*ℤ◌, List, [], ◌∷◌, ◌++◌, length, get_or, set, take, replicate, Some, None, sym, ap, ◌∙◌, subst, inl, inr, arith}
use Rattle.std.specs.List.{All}
use Rattle.std.specs.Prelude.{slice_index}
use Rattle.std.proofs.lemmas.Bool.{cases_eq, cases_lt}
use Rattle.std.proofs.lemmas.Int.{ints}
use Rattle.std.proofs.lemmas.List.{take_all, length-replicate, length-set}
use Rattle.std.proofs.Math.Nat.{div-add-mod', mod-lt}
use Rattle.registers.specs.Physical.{physical}
use Rattle.registers.specs.declared.lifetime.Lifetime.{Lifetime}
use Rattle.registers.specs.Allotments.{IsLawfulAllotment, IsLeast, HaveNone}
use Rattle.registers.specs.Lifetimes.{IsLiveIn}
use Rattle.registers.proofs.Whole.{cases-int}
use Rattle.registers.proofs.allotted.Least.{there-is, taken-at, least-is_lawful}
use Rattle.registers.proofs.Whole.{times-more}
use Rattle.registers.specs.Crowds.{nobody, least_age, ages_end, instances_in, crowd_in}
use Rattle.registers.specs.Residues.{IsFreeNumber, IsLifeSpan, least_shift, greatest_shift, distance_up}
use Rattle.registers.proofs.allotted.Filled.{LeastBelow, spans-below, below-lawful, below-least, below-none, below-more}
use Rattle.registers.proofs.allotted.Freed.{free-more, one-there, span-at, least-found, fits-not}
use Rattle.registers.proofs.allotted.Meeting.{times-diff}
use Rattle.registers.proofs.lives.Pigeons.{AreApart, total-le}
use Rattle.registers.proofs.allotted.Shifts.{forbids-between, round, round-pos}

-- the instances of a row live in one cycle

under : (n m ii : ℕ) → 1 ≤ ii → n / ii ≤ m → n < m * ii + ii
under n m ii some le =
    let s : (n / ii) * ii + n % ii ≡ n = div-add-mod' n ii in
    let l : n % ii < ii = mod-lt n some in
    let g : ii * m ≡ ii * (n / ii) + ii * (m - n / ii) = times-more ii (n / ii) m le in
    let c : m * ii ≡ ii * m = omega arith in
    let d : (n / ii) * ii ≡ ii * (n / ii) = omega arith in
    omega arith

over : (n m ii : ℕ) → 1 ≤ ii → m < n / ii → m * ii + ii ≤ n
over n m ii some lt =
    let s : (n / ii) * ii + n % ii ≡ n = div-add-mod' n ii in
    let g : ii * (n / ii) ≡ ii * suc m + ii * (n / ii - suc m) = times-more ii (suc m) (n / ii) (omega arith) in
    let c : ii * suc m ≡ m * ii + ii = omega arith in
    let d : (n / ii) * ii ≡ ii * (n / ii) = omega arith in
    omega arith

lives-then : (ii row j : ℕ) (life : Lifetime) → row < ii → least_age ii row life ≤ j → j < ages_end ii row life → IsLiveIn ii life (pos 0 -ℤ pos j) (pos row)
lives-then ii row j life lt from to =
    let t : (((pos 0 -ℤ pos j) *ℤ pos ii) +ℤ pos (j * ii)) ≡ pos (0 * ii) = times-diff 0 j ii in
    let z : 0 * ii ≡ 0 = omega arith in
    let low = under (life.first + (ii - 1 - row)) j ii (omega arith) from in
    let high = over (life.last + (ii - row)) j ii (omega arith) to in
    record { begun = omega (arith, ints); lasts = omega (arith, ints) }

register-of : (registers n j : ℕ) → 1 ≤ registers → physical registers n (pos 0 -ℤ pos j) ≡ (n + j) % registers
register-of registers n j some =
    let e : (pos n -ℤ (pos 0 -ℤ pos j)) ≡ pos (n + j) = omega (arith, ints) in
    ap (round registers) e ∙ round-pos registers (n + j) some

-- lawful numbers keep them in registers of their own
crowd-fits : (ii registers row : ℕ) (lives : List Lifetime) (numbers : List ℕ) → row < ii → 1 ≤ registers → IsLawfulAllotment ii registers lives numbers → crowd_in ii row lives (length lives) ≤ registers
crowd-fits ii registers row lives numbers lt some lawful =
    let life : ℕ → Lifetime = λ k. get_or lives k nobody in
    let count : ℕ → ℕ = λ k. instances_in ii row (life k) in
    let age : ℕ → ℕ → ℕ = λ k i. least_age ii row (life k) + i in
    let place : ℕ → ℕ → ℕ = λ k i. (slice_index numbers k + age k i) % registers in
    let apart : AreApart place count (length lives) = λ k l i j a b d e same.
    let met = lawful.apart k l (pos 0 -ℤ pos (age k i)) (pos 0 -ℤ pos (age l j)) (record {
      one = life k;
      is_one = one-there lives k nobody a;
      other = life l;
      is_other = one-there lives l nobody b;
      same_register = register-of registers (slice_index numbers k) (age k i) some ∙ same ∙ sym (register-of registers (slice_index numbers l) (age l j) some);
      cycle = pos row;
      one_lives = lives-then ii row (age k i) (life k) lt (omega arith) (omega arith);
      other_lives = lives-then ii row (age l j) (life l) lt (omega arith) (omega arith);
    }) in
    let h : least_age ii row (life k) ≡ least_age ii row (life l) = ap (λ m. least_age ii row (life m)) met.0 in
    let g = met.1 in
    let f : age k i ≡ age l j = omega (arith, ints) in
    (met.0, omega arith) in
    total-le registers place count (length lives) (λ k i. mod-lt (slice_index numbers k + age k i) some) apart

-- one after another gets its least number, or there is none

search-below : (P : ℕ → Type 0) → ((c : ℕ) → P c ⊎ (¬ P c)) → (n : ℕ) → ((c : ℕ) → c < n → ¬ P c) ⊎ ((c : ℕ) × (c < n) × P c × ((d : ℕ) → d < c → ¬ P d))
search-below P is zero = inl (λ c lt. absurd (omega arith))
search-below P is (suc n) = elim (search-below P is n) [
  | inl none ↦ elim (is n) [
    | inl h ↦ inr (n, omega arith, h, none)
    | inr not ↦ inl (λ c lt. elim (cases_eq c n) [
      | inl same ↦ subst (λ m. ¬ P m) (sym same) not
      | inr apart ↦ none c (omega arith)
    ])
  ]
  | inr some ↦ let l = some.1 in inr (some.0, omega arith, some.2, some.3)
]

is-free : (ii registers : ℕ) (lives : List Lifetime) (numbers : List ℕ) (other : Lifetime) (c : ℕ) → 1 ≤ ii → 1 ≤ registers → All IsLifeSpan lives → IsLifeSpan other
    → (n : ℕ) → n ≤ length lives → IsFreeNumber ii registers (take n lives) numbers other c ⊎ (¬ IsFreeNumber ii registers (take n lives) numbers other c)
is-free ii registers lives numbers other c some regs spans span zero le = inl (λ k one e. let l = (taken-at lives zero k one e).1 in absurd (omega arith))
is-free ii registers lives numbers other c some regs spans span (suc n) le =
    let x = there-is lives n (omega arith) in
    let number : ℕ = slice_index numbers n in
    let more = free-more ii registers lives numbers other c n x.0 x.1 in
    let one = span-at lives n x.0 x.1 spans in
    let between = forbids-between ii registers number c x.0 other some regs one.ordered span.ordered in
    let low : ℤ = least_shift ii x.0 other +ℤ pos (distance_up registers number (least_shift ii x.0 other) c) in
    let here : (IsFreeNumber ii registers (take (n + 1) lives) numbers other c) ⊎ (¬ IsFreeNumber ii registers (take (n + 1) lives) numbers other c)
    = elim (is-free ii registers lives numbers other c some regs spans span n (omega arith)) [
      | inl free ↦ elim (cases-int low (greatest_shift ii x.0 other)) [
        | inl meets ↦ inr (λ h. (more.0 h).1 (between.1 meets))
        | inr beyond ↦ inl (more.1 (free, λ f. let b = between.0 f in omega (arith, ints)))
      ]
      | inr taken ↦ inr (λ h. taken (more.0 h).0)
    ] in
    let e : n + 1 ≡ suc n = omega arith in
    subst (λ m. IsFreeNumber ii registers (take m lives) numbers other c ⊎ (¬ IsFreeNumber ii registers (take m lives) numbers other c)) e here

next-number : (ii registers : ℕ) (lives : List Lifetime) (numbers : List ℕ) (other : Lifetime) → 1 ≤ ii → 1 ≤ registers → All IsLifeSpan lives → IsLifeSpan other → IsLawfulAllotment ii registers lives numbers
    → ((c : ℕ) → ¬ IsLawfulAllotment ii registers (lives ++ other ∷ []) (numbers ++ c ∷ [])) ⊎ ((c : ℕ) × IsLeast ii registers lives numbers other c)
next-number ii registers lives numbers other some regs spans span lawful = elim (cases_lt ((other.last - other.first) / ii) registers) [
  | inl fits ↦
      let whole : take (length lives) lives ≡ lives = take_all (length lives) lives (omega arith) in
      let is = λ (c : ℕ). subst (λ ls. IsFreeNumber ii registers ls numbers other c ⊎ (¬ IsFreeNumber ii registers ls numbers other c)) whole
      (is-free ii registers lives numbers other c some regs spans span (length lives) (omega arith)) in
      elim (search-below (λ c. IsFreeNumber ii registers lives numbers other c) is registers) [
        | inl none ↦ inl (least-found None ii registers lives numbers other some regs span.ordered lawful fits none)
        | inr found ↦ inr (found.0, least-found (Some found.0) ii registers lives numbers other some regs span.ordered lawful fits (found.1, found.2, found.3))
      ]
  | inr long ↦ inl (fits-not ii registers lives numbers other some regs span.ordered lawful.each (λ f. omega arith))
]

numbers-of : (ii registers : ℕ) (lives : List Lifetime) → 1 ≤ ii → 1 ≤ registers → All IsLifeSpan lives → (n : ℕ) → n ≤ length lives
    → ((numbers : List ℕ) × (length numbers ≡ length lives) × LeastBelow ii registers lives numbers n) ⊎ HaveNone ii registers lives
numbers-of ii registers lives some regs spans zero le = inl (replicate (length lives) 0, length-replicate (length lives) 0, λ m life lt. absurd (omega arith))
numbers-of ii registers lives some regs spans (suc n) le = elim (numbers-of ii registers lives some regs spans n (omega arith)) [
  | inl before ↦
      let numbers : List ℕ = before.0 in
      let long : length numbers ≡ length lives = before.1 in
      let x = there-is lives n (omega arith) in
      let lawful = below-lawful ii registers lives numbers n long (omega arith) before.2 in
      elim (next-number ii registers (take n lives) (take n numbers) x.0 some regs (spans-below lives n spans) (span-at lives n x.0 x.1 spans) lawful) [
        | inl none ↦ inr (below-none ii registers lives numbers n x.0 long (omega arith) x.1 before.2 none)
        | inr found ↦
            let e : n + 1 ≡ suc n = omega arith in
            let more = below-more ii registers lives numbers n found.0 x.0 (omega arith) x.1 before.2 found.1 in
            inl (set numbers n found.0, length-set numbers n found.0 ∙ long, subst (LeastBelow ii registers lives (set numbers n found.0)) e more)
      ]
  | inr none ↦ inr none
]

pub crowded-none : (ii registers row : ℕ) (lives : List Lifetime) → row < ii → 1 ≤ registers → All IsLifeSpan lives → registers < crowd_in ii row lives (length lives) → HaveNone ii registers lives
crowded-none ii registers row lives lt regs spans crowd = elim (numbers-of ii registers lives (omega arith) regs spans (length lives) (omega arith)) [
  | inl found ↦
      let least = below-least ii registers lives found.0 (length lives) found.1 (omega arith) found.2 in
      let fits = crowd-fits ii registers row lives found.0 lt regs (least-is_lawful ii registers lives found.0 least) in
      absurd (omega arith)
  | inr none ↦ none
]
