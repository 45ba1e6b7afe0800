-- The least numbers.
use Rattle.std.proofs.Common.{◌≡◌, ℕ, suc, zero, ◌<◌, ◌≤◌, List, [], ◌∷◌, ◌++◌, length, take, Some, refl, sym, ap, ◌∙◌, subst, inl, inr, arith}
use Rattle.std.specs.Prelude.{slice_get, slice_index}
use Rattle.std.proofs.lemmas.Bool.{cases_order}
use Rattle.std.proofs.lemmas.List.{take_all, length-take}
use Rattle.registers.specs.declared.lifetime.Lifetime.{Lifetime}
use Rattle.registers.specs.Allotments.{IsLawfulAllotment, IsLeast, AreLeast, LeastIsOne, LeastOrNone, LeastIsLawful}

pub there-is : (xs : List Lifetime) (k : ℕ) → k < length xs → (x : Lifetime) × (slice_get xs k ≡ Some x)
there-is [] k h = absurd (omega arith)
there-is (x ∷ xs) zero h = (x, refl)
there-is (x ∷ xs) (suc k) h = there-is xs k (omega arith)

one-least : (ii registers : ℕ) (before : List Lifetime) (numbers : List ℕ) (life : Lifetime) (c d : ℕ)
    → IsLeast ii registers before numbers life c → IsLeast ii registers before numbers life d → c ≡ d
one-least ii registers before numbers life c d a b = elim (cases_order c d) [
  | inl e ↦ e
  | inr o ↦ elim o [
    | inl lt ↦ absurd (b.least c lt a.lawful)
    | inr gt ↦ absurd (a.least d gt b.lawful)
  ]
]

pub take-more : (xs : List ℕ) (k : ℕ) → k < length xs → take (suc k) xs ≡ take k xs ++ slice_index xs k ∷ []
take-more [] k h = absurd (omega arith)
take-more (x ∷ xs) zero h = refl
take-more (x ∷ xs) (suc k) h = ap (λ ys. x ∷ ys) (take-more xs k (omega arith))

-- two lists of least numbers have the same first `k` numbers
same-takes : (ii registers : ℕ) (lives : List Lifetime) (numbers others : List ℕ) → AreLeast ii registers lives numbers → AreLeast ii registers lives others
    → (k : ℕ) → k ≤ length lives → take k numbers ≡ take k others
same-takes ii registers lives numbers others a b zero le = refl
same-takes ii registers lives numbers others a b (suc k) le =
    let before = same-takes ii registers lives numbers others a b k (omega arith) in
    let x = there-is lives k (omega arith) in
    let ae = a.each in let be = b.each in
    let n = a.least k x.0 x.1 in
    let m : IsLeast ii registers (take k lives) (take k numbers) x.0 (slice_index others k)
    = subst (λ ns. IsLeast ii registers (take k lives) ns x.0 (slice_index others k)) (sym before) (b.least k x.0 x.1) in
    take-more numbers k (omega arith)
    ∙ ap (λ ns. ns ++ slice_index numbers k ∷ []) before
    ∙ ap (λ c. take k others ++ c ∷ []) (one-least ii registers (take k lives) (take k numbers) x.0 (slice_index numbers k) (slice_index others k) n m)
    ∙ sym (take-more others k (omega arith))

pub least-is_one : LeastIsOne
least-is_one ii registers lives numbers others a b =
    let ae = a.each in let be = b.each in
    sym (take_all (length lives) numbers (omega arith)) ∙ same-takes ii registers lives numbers others a b (length lives) (omega arith) ∙ take_all (length lives) others (omega arith)

-- none where some lifetime has none

pub place-within : {X : Type 0} (xs : List X) (x : X) (k : ℕ) → slice_get xs k ≡ Some x → k < length xs
place-within [] x k e = cc
place-within (w ∷ xs) x zero e = omega arith
place-within (w ∷ xs) x (suc k) e = let r = place-within xs x k e in omega arith

pub taken-at : {X : Type 0} (xs : List X) (n k : ℕ) (x : X) → slice_get (take n xs) k ≡ Some x → (slice_get xs k ≡ Some x) × (k < n)
taken-at xs zero k x e = cc
taken-at [] (suc n) k x e = cc
taken-at (y ∷ xs) (suc n) zero x e = (e, omega arith)
taken-at (y ∷ xs) (suc n) (suc k) x e = let r = taken-at xs n k x e in (r.0, let l = r.1 in omega arith)

pub take-twice : {X : Type 0} (xs : List X) (k n : ℕ) → k ≤ n → take k (take n xs) ≡ take k xs
take-twice [] zero zero le = refl
take-twice [] zero (suc n) le = refl
take-twice [] (suc k) zero le = absurd (omega arith)
take-twice [] (suc k) (suc n) le = refl
take-twice (x ∷ xs) zero zero le = refl
take-twice (x ∷ xs) zero (suc n) le = refl
take-twice (x ∷ xs) (suc k) zero le = absurd (omega arith)
take-twice (x ∷ xs) (suc k) (suc n) le = ap (λ ys. x ∷ ys) (take-twice xs k n (omega arith))

pub index-taken : (xs : List ℕ) (n k : ℕ) → k < n → slice_index (take n xs) k ≡ slice_index xs k
index-taken [] zero k lt = refl
index-taken [] (suc n) k lt = refl
index-taken (x ∷ xs) zero k lt = absurd (omega arith)
index-taken (x ∷ xs) (suc n) zero lt = refl
index-taken (x ∷ xs) (suc n) (suc k) lt = index-taken xs n k (omega arith)

-- the first `n` of least numbers are least
least-before : (ii registers : ℕ) (lives : List Lifetime) (numbers : List ℕ) → AreLeast ii registers lives numbers → (n : ℕ) → n ≤ length lives → AreLeast ii registers (take n lives) (take n numbers)
least-before ii registers lives numbers a n le =
    let e = a.each in
    record {
      each = omega (arith, length-take n numbers, length-take n lives);
      least = λ k life there.
          let t = taken-at lives n k life there in
          let l = t.1 in
          subst (λ ls. IsLeast ii registers ls (take k (take n numbers)) life (slice_index (take n numbers) k)) (sym (take-twice lives k n (omega arith)))
          (subst (λ ns. IsLeast ii registers (take k lives) ns life (slice_index (take n numbers) k)) (sym (take-twice numbers k n (omega arith)))
          (subst (λ c. IsLeast ii registers (take k lives) (take k numbers) life c) (sym (index-taken numbers n k l)) (a.least k life t.0)));
    }

pub least-or_none : LeastOrNone
least-or_none ii registers lives numbers a none =
    let within = place-within lives none.life none.place none.is_life in
    let same = least-is_one ii registers (take none.place lives) (take none.place numbers) none.numbers (least-before ii registers lives numbers a none.place (omega arith)) none.least_before in
    none.none (slice_index numbers none.place)
    (subst (λ ns. IsLawfulAllotment ii registers (take none.place lives ++ none.life ∷ []) (ns ++ slice_index numbers none.place ∷ [])) same (a.least none.place none.life none.is_life).lawful)

-- least numbers are lawful

pub nothing : (k : ℕ) (x : Lifetime) → slice_get [] k ≡ Some x → ⊥
nothing k x e = cc

pub take-life : (xs : List Lifetime) (k : ℕ) (x : Lifetime) → slice_get xs k ≡ Some x → take (suc k) xs ≡ take k xs ++ x ∷ []
take-life [] k x e = cc
take-life (y ∷ xs) zero x e = let z : y ≡ x = cc in ap (λ w. w ∷ []) z
take-life (y ∷ xs) (suc k) x e = ap (λ ys. y ∷ ys) (take-life xs k x e)

pub empty-lawful : (ii registers : ℕ) (numbers : List ℕ) → length numbers ≡ 0 → IsLawfulAllotment ii registers [] numbers
empty-lawful ii registers numbers none = record {
  each = none;
  there = λ k d h. absurd (omega arith);
  apart = λ k l i j m. absurd (nothing k m.one m.is_one);
}

taken-lawful : (ii registers : ℕ) (lives : List Lifetime) (numbers : List ℕ) → AreLeast ii registers lives numbers → (n : ℕ) → n ≤ length lives → IsLawfulAllotment ii registers (take n lives) (take n numbers)
taken-lawful ii registers lives numbers a zero le = empty-lawful ii registers (take 0 numbers) refl
taken-lawful ii registers lives numbers a (suc n) le =
    let x = there-is lives n (omega arith) in
    let e = a.each in
    subst (λ ls. IsLawfulAllotment ii registers ls (take (suc n) numbers)) (sym (take-life lives n x.0 x.1))
    (subst (IsLawfulAllotment ii registers (take n lives ++ x.0 ∷ [])) (sym (take-more numbers n (omega arith))) (a.least n x.0 x.1).lawful)

pub least-is_lawful : LeastIsLawful
least-is_lawful ii registers lives numbers a =
    let e = a.each in
    subst (λ ls. IsLawfulAllotment ii registers ls numbers) (take_all (length lives) lives (omega arith))
    (subst (IsLawfulAllotment ii registers (take (length lives) lives)) (take_all (length lives) numbers (omega arith)) (taken-lawful ii registers lives numbers a (length lives) (omega arith)))
