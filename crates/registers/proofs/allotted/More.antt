-- One more value beside lawful ones.
use Rattle.std.proofs.Common.{◌≡◌, ◌⊎◌, ℕ, suc, zero, ◌+◌, ◌-◌, ◌*◌, ◌/◌, ◌%◌, ◌<◌, ◌≤◌, List, [], ◌∷◌, ◌++◌, length, Some, ℤ, pos, negsuc, ◌+ℤ◌, ◌-ℤ◌, refl, sym, ap, ◌∙◌, subst, inl, inr, arith}
use Rattle.std.specs.Prelude.{◌*ℤ◌, slice_get, slice_index}
use Rattle.std.specs.List.{All}
use Rattle.std.proofs.lemmas.Bool.{cases_lt}
use Rattle.std.proofs.lemmas.Int.{ints}
use Rattle.std.proofs.lemmas.List.{get_or_append_left, get_or_push, length_push}
use Rattle.std.proofs.lemmas.List.Elements.{All-push}
use Rattle.std.proofs.Math.Nat.{mul-add, div-add-mod', mod-eq_of_lt, lt-div-mul-add}
use Rattle.std.proofs.Math.IntN.{negsuc-*ℤ-pos}
use Rattle.registers.specs.Physical.{physical}
use Rattle.registers.specs.declared.lifetime.Lifetime.{Lifetime}
use Rattle.registers.specs.Allotments.{DoMeet, IsLawfulAllotment}
use Rattle.registers.specs.Residues.{MeetsAt, Forbids, FitsItself, IsFreeNumber, LawfulMore}
use Rattle.registers.proofs.Whole.{times-more}
use Rattle.registers.proofs.allotted.Shifts.{round, round-shift, round-more, round-pos}

-- products

mul-more : (z : ℤ) (k n : ℕ) → ((z +ℤ pos k) *ℤ pos n) ≡ ((z *ℤ pos n) +ℤ pos (k * n))
mul-more (pos a) k n =
    let f : (pos (a + k) *ℤ pos n) ≡ pos ((a + k) * n) = refl in
    let g : (pos a *ℤ pos n) ≡ pos (a * n) = refl in
    let m : n * (a + k) ≡ n * a + n * k = mul-add n a k in
    let c : (a + k) * n ≡ n * (a + k) = omega arith in
    let d : a * n ≡ n * a = omega arith in
    let e : k * n ≡ n * k = omega arith in
    omega (arith, ints)
mul-more (negsuc a) k n = elim (cases_lt a k) [
  | inl lt ↦
      let s : (negsuc a +ℤ pos k) ≡ pos (k - suc a) = omega (arith, ints) in
      let f : (pos (k - suc a) *ℤ pos n) ≡ pos ((k - suc a) * n) = refl in
      let g = negsuc-*ℤ-pos a n in
      let m : n * k ≡ n * suc a + n * (k - suc a) = times-more n (suc a) k (omega arith) in
      let c : (k - suc a) * n ≡ n * (k - suc a) = omega arith in
      let d : suc a * n ≡ n * suc a = omega arith in
      let e : k * n ≡ n * k = omega arith in
      ap (λ z. z *ℤ pos n) s ∙ omega (arith, ints)
  | inr ge ↦
      let s : (negsuc a +ℤ pos k) ≡ negsuc (a - k) = omega (arith, ints) in
      let f = negsuc-*ℤ-pos (a - k) n in
      let g = negsuc-*ℤ-pos a n in
      let h : suc a - k ≡ suc (a - k) = omega arith in
      let m : n * suc a ≡ n * k + n * (suc a - k) = times-more n k (suc a) (omega arith) in
      let b : n * (suc a - k) ≡ n * suc (a - k) = ap (λ x. n * x) h in
      let c : suc (a - k) * n ≡ n * suc (a - k) = omega arith in
      let d : suc a * n ≡ n * suc a = omega arith in
      let e : k * n ≡ n * k = omega arith in
      ap (λ z. z *ℤ pos n) s ∙ f ∙ omega (arith, ints)
]

pub mul-less : (j i : ℤ) (n : ℕ) → ((j -ℤ i) *ℤ pos n) ≡ ((j *ℤ pos n) -ℤ (i *ℤ pos n))
mul-less j (pos b) n =
    let m = mul-more (j -ℤ pos b) b n in
    let s : ((j -ℤ pos b) +ℤ pos b) ≡ j = omega (arith, ints) in
    let t = ap (λ z. z *ℤ pos n) s in
    let g : (pos b *ℤ pos n) ≡ pos (b * n) = refl in
    omega (arith, ints)
mul-less j (negsuc b) n =
    let m = mul-more j (suc b) n in
    let s : (j -ℤ negsuc b) ≡ (j +ℤ pos (suc b)) = omega (arith, ints) in
    let t = ap (λ z. z *ℤ pos n) s in
    let g = negsuc-*ℤ-pos b n in
    omega (arith, ints)

-- only the difference of two iterations counts

pub forbids-from_meeting : (ii registers : ℕ) (lives : List Lifetime) (numbers : List ℕ) (k l : ℕ) (i j : ℤ) → 1 ≤ registers
    → (m : DoMeet ii registers lives numbers k i l j) → Forbids ii registers m.one (slice_index numbers k) m.other (slice_index numbers l)
forbids-from_meeting ii registers lives numbers k l i j some m =
    let c : ℕ = slice_index numbers k in
    let d : ℕ = slice_index numbers l in
    let p = mul-less j i ii in
    let z : (pos 0 *ℤ pos ii) ≡ pos (0 * ii) = refl in
    let y : 0 * ii ≡ 0 = omega arith in
    let a = m.one_lives.begun in let b = m.one_lives.lasts in let e = m.other_lives.begun in let f = m.other_lives.lasts in
    let left : ((pos c -ℤ i) +ℤ i) ≡ (pos c -ℤ pos 0) = omega (arith, ints) in
    let right : ((pos d -ℤ j) +ℤ i) ≡ (pos d -ℤ (j -ℤ i)) = omega (arith, ints) in (
      (j -ℤ i),
      (
        (m.cycle -ℤ (i *ℤ pos ii)),
        record { begun = omega (arith, ints); lasts = omega (arith, ints) },
        record { begun = omega (arith, ints); lasts = omega (arith, ints) },
      ),
      ap (round registers) (sym left) ∙ round-shift registers (pos c -ℤ i) (pos d -ℤ j) i some m.same_register ∙ ap (round registers) right,
    )

pub swapped : (ii registers : ℕ) (lives : List Lifetime) (numbers : List ℕ) (k l : ℕ) (i j : ℤ) → DoMeet ii registers lives numbers k i l j → DoMeet ii registers lives numbers l j k i
swapped ii registers lives numbers k l i j m = record {
  one = m.other;
  is_one = m.is_other;
  other = m.one;
  is_other = m.is_one;
  same_register = sym m.same_register;
  cycle = m.cycle;
  one_lives = m.other_lives;
  other_lives = m.one_lives;
}

-- places of a list with one more

pub place-cases : {X : Type 0} (xs : List X) (y x : X) (k : ℕ) → slice_get (xs ++ y ∷ []) k ≡ Some x → (slice_get xs k ≡ Some x) ⊎ ((k ≡ length xs) × (x ≡ y))
place-cases [] y x zero e = let z : y ≡ x = cc in inr (refl, sym z)
place-cases [] y x (suc k) e = cc
place-cases (w ∷ xs) y x zero e = inl e
place-cases (w ∷ xs) y x (suc k) e = elim (place-cases xs y x k e) [
  | inl h ↦ inl h
  | inr h ↦ inr (ap suc h.0, h.1)
]

pub place-left : {X : Type 0} (xs : List X) (y x : X) (k : ℕ) → slice_get xs k ≡ Some x → slice_get (xs ++ y ∷ []) k ≡ Some x
place-left [] y x k e = cc
place-left (w ∷ xs) y x zero e = e
place-left (w ∷ xs) y x (suc k) e = place-left xs y x k e

pub place-last : {X : Type 0} (xs : List X) (y : X) → slice_get (xs ++ y ∷ []) (length xs) ≡ Some y
place-last [] y = refl
place-last (w ∷ xs) y = place-last xs y

place-within : {X : Type 0} (xs : List X) (x : X) (k : ℕ) → slice_get xs k ≡ Some x → k < length xs
place-within [] x k e = cc
place-within (w ∷ xs) x zero e = omega arith
place-within (w ∷ xs) x (suc k) e = let r = place-within xs x k e in omega arith

-- a value beside itself

itself-one : (ii registers number : ℕ) (life : Lifetime) → 1 ≤ ii → 1 ≤ registers → life.first ≤ life.last → FitsItself ii registers life
    → (f : Forbids ii registers life number life number) → f.0 ≡ pos 0
itself-one ii registers number life some regs order fits (pos m, meets, same) =
    let d : ℕ = life.last - life.first in
    let below : d < d / ii * ii + ii = lt-div-mul-add some in
    let far : ii * registers ≡ ii * (d / ii + 1) + ii * (registers - (d / ii + 1)) = times-more ii (d / ii + 1) registers (omega arith) in
    let one : ii * (d / ii + 1) ≡ ii * (d / ii) + ii * 1 = mul-add ii (d / ii) 1 in
    let a = meets.1.begun in let b = meets.1.lasts in let c = meets.2.begun in let e = meets.2.lasts in
    let g : (pos m *ℤ pos ii) ≡ pos (m * ii) = refl in
    let z : (pos 0 *ℤ pos ii) ≡ pos (0 * ii) = refl in
    let y : 0 * ii ≡ 0 = omega arith in
    let h : m * ii ≡ ii * m = omega arith in
    let small : m < registers = elim (cases_lt m registers) [
      | inl lt ↦ lt
      | inr ge ↦ let more : ii * m ≡ ii * registers + ii * (m - registers) = times-more ii registers m ge in absurd (omega (arith, ints))
    ] in
    let t : ℤ = pos m -ℤ pos number in
    let left : ((pos number -ℤ pos 0) +ℤ t) ≡ pos m = omega (arith, ints) in
    let right : ((pos number -ℤ pos m) +ℤ t) ≡ pos 0 = omega (arith, ints) in
    let r : m ≡ 0
    = sym (mod-eq_of_lt small) ∙ sym (round-pos registers m regs) ∙ ap (round registers) (sym left) ∙ round-shift registers (pos number -ℤ pos 0) (pos number -ℤ pos m) t regs same
    ∙ ap (round registers) right ∙ round-pos registers 0 regs ∙ mod-eq_of_lt regs in
    ap pos r
itself-one ii registers number life some regs order fits (negsuc b, meets, same) =
    let m : ℕ = suc b in
    let d : ℕ = life.last - life.first in
    let below : d < d / ii * ii + ii = lt-div-mul-add some in
    let far : ii * registers ≡ ii * (d / ii + 1) + ii * (registers - (d / ii + 1)) = times-more ii (d / ii + 1) registers (omega arith) in
    let one : ii * (d / ii + 1) ≡ ii * (d / ii) + ii * 1 = mul-add ii (d / ii) 1 in
    let a = meets.1.begun in let c = meets.1.lasts in let e = meets.2.begun in let f = meets.2.lasts in
    let g = negsuc-*ℤ-pos b ii in
    let z : (pos 0 *ℤ pos ii) ≡ pos (0 * ii) = refl in
    let y : 0 * ii ≡ 0 = omega arith in
    let h : suc b * ii ≡ ii * m = omega arith in
    let small : m < registers = elim (cases_lt m registers) [
      | inl lt ↦ lt
      | inr ge ↦ let more : ii * m ≡ ii * registers + ii * (m - registers) = times-more ii registers m ge in absurd (omega (arith, ints))
    ] in
    let t : ℤ = pos 0 -ℤ pos number in
    let left : ((pos number -ℤ pos 0) +ℤ t) ≡ pos 0 = omega (arith, ints) in
    let right : ((pos number -ℤ negsuc b) +ℤ t) ≡ pos m = omega (arith, ints) in
    let r : m ≡ 0
    = sym (mod-eq_of_lt small) ∙ sym (round-pos registers m regs) ∙ ap (round registers) (sym right) ∙ sym (round-shift registers (pos number -ℤ pos 0) (pos number -ℤ negsuc b) t regs same)
    ∙ ap (round registers) left ∙ round-pos registers 0 regs ∙ mod-eq_of_lt regs in
    absurd (omega arith)

-- numbers with one more

pub number-left : (numbers : List ℕ) (c k : ℕ) → k < length numbers → slice_index (numbers ++ c ∷ []) k ≡ slice_index numbers k
number-left numbers c k h = get_or_append_left numbers (c ∷ []) 0 k h

pub number-last : (numbers : List ℕ) (c k : ℕ) → k ≡ length numbers → slice_index (numbers ++ c ∷ []) k ≡ c
number-last numbers c k h = get_or_push numbers c 0 k (sym h)

-- a meeting of two places of the shorter lists
shorter : (ii registers : ℕ) (lives : List Lifetime) (numbers : List ℕ) (y : Lifetime) (c : ℕ) → length numbers ≡ length lives
    → (k l : ℕ) (i j : ℤ) (m : DoMeet ii registers (lives ++ y ∷ []) (numbers ++ c ∷ []) k i l j)
    → slice_get lives k ≡ Some m.one → slice_get lives l ≡ Some m.other → DoMeet ii registers lives numbers k i l j
shorter ii registers lives numbers y c long k l i j m a b =
    let ka = place-within lives m.one k a in
    let lb = place-within lives m.other l b in
    record {
      one = m.one;
      is_one = a;
      other = m.other;
      is_other = b;
      same_register = ap (λ n. physical registers n i) (sym (number-left numbers c k (omega arith))) ∙ m.same_register ∙ ap (λ n. physical registers n j) (number-left numbers c l (omega arith));
      cycle = m.cycle;
      one_lives = m.one_lives;
      other_lives = m.other_lives;
    }

longer : (ii registers : ℕ) (lives : List Lifetime) (numbers : List ℕ) (y : Lifetime) (c : ℕ) → length numbers ≡ length lives
    → (k l : ℕ) (i j : ℤ) → DoMeet ii registers lives numbers k i l j → DoMeet ii registers (lives ++ y ∷ []) (numbers ++ c ∷ []) k i l j
longer ii registers lives numbers y c long k l i j m =
    let ka = place-within lives m.one k m.is_one in
    let lb = place-within lives m.other l m.is_other in
    record {
      one = m.one;
      is_one = place-left lives y m.one k m.is_one;
      other = m.other;
      is_other = place-left lives y m.other l m.is_other;
      same_register = ap (λ n. physical registers n i) (number-left numbers c k (omega arith)) ∙ m.same_register ∙ ap (λ n. physical registers n j) (sym (number-left numbers c l (omega arith)));
      cycle = m.cycle;
      one_lives = m.one_lives;
      other_lives = m.other_lives;
    }

-- a meeting of an old value and the new one
old-new : (ii registers : ℕ) (lives : List Lifetime) (numbers : List ℕ) (y : Lifetime) (c : ℕ) → 1 ≤ registers → length numbers ≡ length lives → IsFreeNumber ii registers lives numbers y c
    → (k l : ℕ) (i j : ℤ) (m : DoMeet ii registers (lives ++ y ∷ []) (numbers ++ c ∷ []) k i l j) → slice_get lives k ≡ Some m.one → l ≡ length lives → m.other ≡ y → ⊥
old-new ii registers lives numbers y c some long free k l i j m a b e =
    let ka = place-within lives m.one k a in
    let f = forbids-from_meeting ii registers (lives ++ y ∷ []) (numbers ++ c ∷ []) k l i j some m in
    let g : Forbids ii registers m.one (slice_index numbers k) m.other (slice_index (numbers ++ c ∷ []) l)
    = subst (λ n. Forbids ii registers m.one n m.other (slice_index (numbers ++ c ∷ []) l)) (number-left numbers c k (omega arith)) f in
    let h : Forbids ii registers m.one (slice_index numbers k) m.other c
    = subst (λ n. Forbids ii registers m.one (slice_index numbers k) m.other n) (number-last numbers c l (omega arith)) g in
    free k m.one a (subst (λ o. Forbids ii registers m.one (slice_index numbers k) o c) e h)

apart-more : (ii registers : ℕ) (lives : List Lifetime) (numbers : List ℕ) (y : Lifetime) (c : ℕ) → 1 ≤ ii → 1 ≤ registers → y.first ≤ y.last → length numbers ≡ length lives
    → IsLawfulAllotment ii registers lives numbers → FitsItself ii registers y → IsFreeNumber ii registers lives numbers y c
    → (k l : ℕ) (i j : ℤ) → DoMeet ii registers (lives ++ y ∷ []) (numbers ++ c ∷ []) k i l j → (k ≡ l) × (i ≡ j)
unfolding swapped forbids-from_meeting
apart-more ii registers lives numbers y c some regs order long lawful fits free k l i j m =
    elim (place-cases lives y m.one k m.is_one) [
      | inl a ↦ elim (place-cases lives y m.other l m.is_other) [
        | inl b ↦ lawful.apart k l i j (shorter ii registers lives numbers y c long k l i j m a b)
        | inr b ↦ absurd (old-new ii registers lives numbers y c regs long free k l i j m a b.0 b.1)
      ]
      | inr a ↦ elim (place-cases lives y m.other l m.is_other) [
        | inl b ↦ absurd (old-new ii registers lives numbers y c regs long free l k j i (swapped ii registers (lives ++ y ∷ []) (numbers ++ c ∷ []) k l i j m) b a.0 a.1)
        | inr b ↦
            let f = forbids-from_meeting ii registers (lives ++ y ∷ []) (numbers ++ c ∷ []) k l i j regs m in
            let shift : f.0 ≡ (j -ℤ i) = refl in
            let g : (meets : MeetsAt ii y y (j -ℤ i)) × (physical registers c (pos 0) ≡ physical registers c (j -ℤ i))
            = (
              subst (λ o. MeetsAt ii y o (j -ℤ i)) b.1 (subst (λ o. MeetsAt ii o m.other (j -ℤ i)) a.1 f.1),
              ap (λ n. physical registers n (pos 0)) (sym (number-last numbers c k (let z = a.0 in omega arith))) ∙ f.2 ∙ ap (λ n. physical registers n (j -ℤ i)) (number-last numbers c l (let z = b.0 in omega arith)),
            ) in
            let zero : (j -ℤ i) ≡ pos 0 = itself-one ii registers c y some regs order fits ((j -ℤ i), g.0, g.1) in
            (a.0 ∙ sym b.0, omega (arith, ints))
      ]
    ]

fits-itself : (ii registers : ℕ) (lives : List Lifetime) (numbers : List ℕ) (y : Lifetime) (c : ℕ) → 1 ≤ ii → 1 ≤ registers → y.first ≤ y.last → length numbers ≡ length lives
    → IsLawfulAllotment ii registers (lives ++ y ∷ []) (numbers ++ c ∷ []) → FitsItself ii registers y
fits-itself ii registers lives numbers y c some regs order long lawful =
    let d : ℕ = y.last - y.first in
    elim (cases_lt (d / ii) registers) [
      | inl lt ↦ lt
      | inr ge ↦
          let split : (d / ii) * ii + d % ii ≡ d = div-add-mod' d ii in
          let far : ii * (d / ii) ≡ ii * registers + ii * (d / ii - registers) = times-more ii registers (d / ii) ge in
          let h : (d / ii) * ii ≡ ii * (d / ii) = omega arith in
          let g : (pos registers *ℤ pos ii) ≡ pos (registers * ii) = refl in
          let z : (pos 0 *ℤ pos ii) ≡ pos (0 * ii) = refl in
          let w : 0 * ii ≡ 0 = omega arith in
          let v : registers * ii ≡ ii * registers = omega arith in
          let n : ℕ = length lives in
          let one : 1 * registers ≡ registers = omega arith in
          let last : slice_index (numbers ++ c ∷ []) n ≡ c = number-last numbers c n (sym long) in
          let around : physical registers c (pos 0) ≡ physical registers c (pos registers)
          = ap (round registers) (let e : (pos c -ℤ pos 0) ≡ ((pos c -ℤ pos registers) +ℤ pos (1 * registers)) = omega (arith, ints) in e) ∙ round-more registers (pos c -ℤ pos registers) 1 regs in
          let same = lawful.apart n n (pos 0) (pos registers) (record {
            one = y;
            is_one = place-last lives y;
            other = y;
            is_other = place-last lives y;
            same_register = ap (λ x. physical registers x (pos 0)) last ∙ around ∙ ap (λ x. physical registers x (pos registers)) (sym last);
            cycle = pos y.last;
            one_lives = record { begun = omega (arith, ints); lasts = omega (arith, ints) };
            other_lives = record { begun = omega (arith, ints); lasts = omega (arith, ints) };
          }) in
          let e = same.1 in
          absurd (omega (arith, ints))
    ]

is-free : (ii registers : ℕ) (lives : List Lifetime) (numbers : List ℕ) (y : Lifetime) (c : ℕ) → length numbers ≡ length lives
    → IsLawfulAllotment ii registers (lives ++ y ∷ []) (numbers ++ c ∷ []) → IsFreeNumber ii registers lives numbers y c
is-free ii registers lives numbers y c long lawful k one there (shift, meets, same) =
    let n : ℕ = length lives in
    let within = place-within lives one k there in
    let last : slice_index (numbers ++ c ∷ []) n ≡ c = number-last numbers c n (sym long) in
    let e = (lawful.apart k n (pos 0) shift (record {
      one = one;
      is_one = place-left lives y one k there;
      other = y;
      is_other = place-last lives y;
      same_register = ap (λ x. physical registers x (pos 0)) (number-left numbers c k (omega arith)) ∙ same ∙ ap (λ x. physical registers x shift) (sym last);
      cycle = meets.0;
      one_lives = meets.1;
      other_lives = meets.2;
    })).0 in
    omega arith

all-left : (P : ℕ → Type 0) (numbers : List ℕ) (c : ℕ) → All P (numbers ++ c ∷ []) → All P numbers × P c
all-left P numbers c all = (
  λ k d h.
      let l = length_push numbers c in
      subst P (get_or_append_left numbers (c ∷ []) d k h) (all k d (omega arith)),
  let l = length_push numbers c in
      subst P (get_or_push numbers c 0 (length numbers) refl) (all (length numbers) 0 (omega arith)),
)

pub lawful-more : LawfulMore
lawful-more ii registers lives numbers y c some regs order long = (
  λ lawful.
      let both = all-left (λ number. number < registers) numbers c lawful.there in (
        record { each = long; there = both.0; apart = λ k l i j m. lawful.apart k l i j (longer ii registers lives numbers y c long k l i j m) },
        both.1,
        fits-itself ii registers lives numbers y c some regs order long lawful,
        is-free ii registers lives numbers y c long lawful,
      ),
  λ h. record {
    each = length_push numbers c ∙ ap (λ n. n + 1) long ∙ sym (length_push lives y);
    there = All-push (λ number. number < registers) numbers c h.0.there h.1;
    apart = λ k l i j m. apart-more ii registers lives numbers y c some regs order long h.0 h.2 h.3 k l i j m;
  },
)
