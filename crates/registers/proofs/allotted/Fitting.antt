-- The first gap into which an arc fits, and the least number by which it does.
use Rattle.std.proofs.Common.{◌≡◌, ℕ, ◌+◌, ◌-◌, ◌*◌, ◌/◌, ◌%◌, ◌<◌, ◌≤◌, max, List, Option, Some, None, sym, ap, ◌∙◌, subst, inl, inr, arith}
use Rattle.std.specs.Prelude.{slice_get, MatchOption}
use Rattle.std.proofs.lemmas.Bool.{cases_eq, cases_lt, cases_order}
use Rattle.std.proofs.Math.Nat.{div-add-mod', mod-lt, mod-eq_of_lt, add-mul-mod_self_right}
use Rattle.registers.specs.inner.Gaps.{AreInOrder, FitsAt, Fits, place_at, number_of}
use Rattle.registers.specs.declared.numbers.gaps.Gap.{Gap}
use Rattle.registers.specs.declared.numbers.gaps.Fit.{Fit}

-- the first turn from a start on in which the phase comes
first-turn : (start phase t : ℕ) → phase < 16384 → start ≤ t * 16384 + phase → (start + 16383 - phase) / 16384 ≤ t
first-turn start phase t small le =
    let n : ℕ = start + 16383 - phase in
    let s : (n / 16384) * 16384 + n % 16384 ≡ n = div-add-mod' n 16384 in
    omega arith

turn-from : (start phase : ℕ) → phase < 16384 → start ≤ ((start + 16383 - phase) / 16384) * 16384 + phase
turn-from start phase small =
    let n : ℕ = start + 16383 - phase in
    let s : (n / 16384) * 16384 + n % 16384 ≡ n = div-add-mod' n 16384 in
    let l : n % 16384 < 16384 = mod-lt n (omega arith) in
    omega arith

abbrev NoneBefore : List Gap → ℕ → ℕ → ℕ → ℕ → Type 0
NoneBefore gaps phase length from k = (j : ℕ) (t : ℕ) → j < k → from ≤ t → ¬ FitsAt gaps j (place_at phase t) length

-- in the next gap it does not fit
pub none-small : (gaps : List Gap) (phase length from k : ℕ) (gap : Gap) → slice_get gaps k ≡ Some gap → gap.room ≤ length → NoneBefore gaps phase length from k → NoneBefore gaps phase length from (k + 1)
none-small gaps phase length from k gap here small before j t lt le f = elim (cases_eq j k) [
  | inl same ↦
      let e : Some f.0 ≡ Some gap = sym f.1 ∙ ap (slice_get gaps) same ∙ here in
      let g : f.0 ≡ gap = cc in
      let s : f.0.start ≡ gap.start = ap (λ (x : Gap). x.start) g in
      let r : f.0.room ≡ gap.room = ap (λ (x : Gap). x.room) g in
      let low = f.2 in let high = f.3 in
      omega arith
  | inr ne ↦ before j t (omega arith) le f
]

pub none-late : (gaps : List Gap) (phase length from k turn : ℕ) (gap : Gap) → phase < 16384 → slice_get gaps k ≡ Some gap → turn ≡ max ((gap.start + 16383 - phase) / 16384) from
    → gap.start + gap.room ≤ turn * 16384 + phase + length
    → NoneBefore gaps phase length from k → NoneBefore gaps phase length from (k + 1)
none-late gaps phase length from k turn gap small here is late before j t lt le f = elim (cases_eq j k) [
  | inl same ↦
      let e : Some f.0 ≡ Some gap = sym f.1 ∙ ap (slice_get gaps) same ∙ here in
      let g : f.0 ≡ gap = cc in
      let s : f.0.start ≡ gap.start = ap (λ (x : Gap). x.start) g in
      let r : f.0.room ≡ gap.room = ap (λ (x : Gap). x.room) g in
      let low = f.2 in let high = f.3 in
      let first = first-turn gap.start phase t small (omega arith) in
      omega arith
  | inr ne ↦ before j t (omega arith) le f
]

-- the first gap into which it fits has the first turn
pub first-found : (gaps : List Gap) (around phase length from k turn : ℕ) (gap : Gap) → AreInOrder around gaps → phase < 16384 → slice_get gaps k ≡ Some gap
    → turn ≡ max ((gap.start + 16383 - phase) / 16384) from → turn * 16384 + phase + length < gap.start + gap.room
    → NoneBefore gaps phase length from k
    → FitsAt gaps k (place_at phase turn) length × (from ≤ turn)
    × ((t : ℕ) → from ≤ t → t < turn → ¬ Fits gaps (place_at phase t) length)
first-found gaps around phase length from k turn gap is small here e fits before =
    let from-start = turn-from gap.start phase small in (
      (gap, here, omega arith, fits),
      omega arith,
      λ t le lt f. elim (cases_order f.0 k) [
        | inl same ↦
            let o : Some f.1.0 ≡ Some gap = sym f.1.1 ∙ ap (slice_get gaps) same ∙ here in
            let g : f.1.0 ≡ gap = cc in
            let s : f.1.0.start ≡ gap.start = ap (λ (x : Gap). x.start) g in
            let low = f.1.2 in
            let first = first-turn gap.start phase t small (omega arith) in
            omega arith
        | inr o ↦ elim o [
          | inl sooner ↦ before f.0 t sooner le f.1
          | inr later ↦ let ord = is.order k f.0 gap f.1.0 later here f.1.1 in let low = f.1.2 in omega arith
        ]
      ],
    )

-- numbers

pub fit-within : (gaps : List Gap) (registers k turn phase length : ℕ) → AreInOrder (registers * 16384) gaps → FitsAt gaps k (place_at phase turn) length → turn < registers
fit-within gaps registers k turn phase length is f = let w = is.within k f.0 f.1 in let h = f.3 in omega arith

mod-once : (n m : ℕ) → m ≤ n → n < m + m → n % m ≡ n - m
mod-once n m le lt =
    let e : n ≡ (n - m) + 1 * m = omega arith in
    ap (λ x. x % m) e ∙ add-mul-mod_self_right (n - m) 1 m ∙ mod-eq_of_lt (omega arith)

pub number-ahead : (registers from to : ℕ) → from < registers → to < registers → from ≤ to → number_of registers from to ≡ to - from
number-ahead registers from to few there le = mod-once (to + (registers - from)) registers (omega arith) (omega arith) ∙ omega arith

pub number-around : (registers from to : ℕ) → from < registers → to < from → number_of registers from to ≡ to + (registers - from)
number-around registers from to few lt = mod-eq_of_lt (omega arith)

-- the turn that a number gives
pub number-gives : (registers from to : ℕ) → from < registers → to < registers → (from + number_of registers from to) % registers ≡ to
number-gives registers from to few there = elim (cases_lt to from) [
  | inl lt ↦
      let e = number-around registers from to few lt in
      mod-once (from + number_of registers from to) registers (omega arith) (omega arith) ∙ omega arith
  | inr ge ↦
      let e = number-ahead registers from to few there ge in
      let s : from + number_of registers from to ≡ to = omega arith in
      ap (λ n. n % registers) s ∙ mod-eq_of_lt there
]

pub least-ahead : (gaps : List Gap) (registers phase length from to : ℕ) → from < registers → to < registers → from ≤ to
    → ((t : ℕ) → from ≤ t → t < to → ¬ Fits gaps (place_at phase t) length)
    → (c : ℕ) → c < number_of registers from to → ¬ Fits gaps (place_at phase ((from + c) % registers)) length
least-ahead gaps registers phase length from to few there le none c lt =
    let e = number-ahead registers from to few there le in
    let s : (from + c) % registers ≡ from + c = mod-eq_of_lt (omega arith) in
    subst (λ t. ¬ Fits gaps (place_at phase t) length) (sym s) (none (from + c) (omega arith) (omega arith))

pub least-around : (gaps : List Gap) (registers phase length from to : ℕ) → from < registers → to < registers
    → ((t : ℕ) → from ≤ t → ¬ Fits gaps (place_at phase t) length)
    → Fits gaps (place_at phase to) length
    → ((t : ℕ) → t < to → ¬ Fits gaps (place_at phase t) length)
    → (c : ℕ) → c < number_of registers from to → ¬ Fits gaps (place_at phase ((from + c) % registers)) length
least-around gaps registers phase length from to few there ahead fits none c lt = elim (cases_lt to from) [
  | inr ge ↦ absurd (ahead to ge fits)
  | inl sooner ↦
      let e = number-around registers from to few sooner in
      elim (cases_lt (from + c) registers) [
        | inl under ↦
            let s : (from + c) % registers ≡ from + c = mod-eq_of_lt under in
            subst (λ t. ¬ Fits gaps (place_at phase t) length) (sym s) (ahead (from + c) (omega arith))
        | inr over ↦
            let s : (from + c) % registers ≡ from + c - registers = mod-once (from + c) registers over (omega arith) in
            subst (λ t. ¬ Fits gaps (place_at phase t) length) (sym s) (none (from + c - registers) (omega arith))
      ]
]

pub least-second : (gaps : List Gap) (registers phase length from : ℕ) (found : Option Fit) → AreInOrder (registers * 16384) gaps → from < registers
    → ((t : ℕ) → from ≤ t → ¬ Fits gaps (place_at phase t) length)
    → MatchOption found ((t : ℕ) → 0 ≤ t → ¬ Fits gaps (place_at phase t) length)
    (λ f. FitsAt gaps f.gap (place_at phase f.turn) length × (0 ≤ f.turn) × ((t : ℕ) → 0 ≤ t → t < f.turn → ¬ Fits gaps (place_at phase t) length))
    → MatchOption found ((c : ℕ) → c < registers → ¬ Fits gaps (place_at phase ((from + c) % registers)) length)
    (λ f. FitsAt gaps f.gap (place_at phase f.turn) length × (f.turn < registers)
    × ((c : ℕ) → c < number_of registers from f.turn → ¬ Fits gaps (place_at phase ((from + c) % registers)) length))
least-second gaps registers phase length from None is few ahead none = λ c lt. none ((from + c) % registers) (omega arith)
least-second gaps registers phase length from (Some f) is few ahead found =
    let there = fit-within gaps registers f.gap f.turn phase length is found.0 in
    (found.0, there, least-around gaps registers phase length from f.turn few there ahead (f.gap, found.0) (λ t lt. found.2 t (omega arith) lt))
