-- Numbers that are written one after another are the least ones.
use Rattle.std.proofs.Common.{◌≡◌, ℕ, suc, zero, ◌+◌, ◌<◌, ◌≤◌, List, [], ◌∷◌, ◌++◌, length, get_or, set, take, Some, refl, sym, ap, ◌∙◌, subst, inl, inr, arith, ℤ}
use Rattle.std.specs.List.{All}
use Rattle.std.specs.Prelude.{slice_get, slice_index}
use Rattle.std.proofs.lemmas.Bool.{cases_eq}
use Rattle.std.proofs.lemmas.List.{take-set-le, length-take, get_or-set_other, get_or-set_same}
use Rattle.registers.specs.Physical.{physical}
use Rattle.registers.specs.declared.lifetime.Lifetime.{Lifetime}
use Rattle.registers.specs.Allotments.{IsLawfulAllotment, IsLeast, AreLeast, HaveNone}
use Rattle.registers.specs.Numberless.{HasNone, HasNoneAt}
use Rattle.registers.specs.Residues.{IsLifeSpan}
use Rattle.registers.proofs.allotted.Least.{there-is, take-more, place-within, take-life, taken-at, take-twice, index-taken, empty-lawful}

-- the numbers of the first `k` values are least
abbrev pub LeastBelow : ℕ → ℕ → List Lifetime → List ℕ → ℕ → Type 0
LeastBelow ii registers lives numbers k = (n : ℕ) (life : Lifetime) → n < k → slice_get lives n ≡ Some life
    → IsLeast ii registers (take n lives) (take n numbers) life (slice_index numbers n)

pub below-lawful : (ii registers : ℕ) (lives : List Lifetime) (numbers : List ℕ) (k : ℕ) → length numbers ≡ length lives → k ≤ length lives
    → LeastBelow ii registers lives numbers k → IsLawfulAllotment ii registers (take k lives) (take k numbers)
below-lawful ii registers lives numbers zero long le least = empty-lawful ii registers (take 0 numbers) refl
below-lawful ii registers lives numbers (suc n) long le least =
    let x = there-is lives n (omega arith) in
    subst (λ ls. IsLawfulAllotment ii registers ls (take (suc n) numbers)) (sym (take-life lives n x.0 x.1))
    (subst (IsLawfulAllotment ii registers (take n lives ++ x.0 ∷ [])) (sym (take-more numbers n (omega arith))) (least n x.0 (omega arith) x.1).lawful)

pub below-least : (ii registers : ℕ) (lives : List Lifetime) (numbers : List ℕ) (k : ℕ) → length numbers ≡ length lives → length lives ≤ k
    → LeastBelow ii registers lives numbers k → AreLeast ii registers lives numbers
below-least ii registers lives numbers k long le least = record {
  each = long;
  least = λ n life there. let l = place-within lives life n there in least n life (omega arith) there;
}

pub below-none_at : (ii registers : ℕ) (lives : List Lifetime) (numbers : List ℕ) (k : ℕ) (life : Lifetime) → length numbers ≡ length lives → k < length lives → slice_get lives k ≡ Some life
    → LeastBelow ii registers lives numbers k → ((c : ℕ) → ¬ IsLawfulAllotment ii registers (take k lives ++ life ∷ []) (take k numbers ++ c ∷ []))
    → HasNoneAt ii registers lives numbers k
below-none_at ii registers lives numbers k life long lt there least none = record {
  life = life;
  is_life = there;
  least_before = record {
    each = omega (arith, length-take k numbers, length-take k lives);
    least = λ n x h.
        let t = taken-at lives k n x h in
        let l = t.1 in
        subst (λ ls. IsLeast ii registers ls (take n (take k numbers)) x (slice_index (take k numbers) n)) (sym (take-twice lives n k (omega arith)))
        (subst (λ ns. IsLeast ii registers (take n lives) ns x (slice_index (take k numbers) n)) (sym (take-twice numbers n k (omega arith)))
        (subst (λ c. IsLeast ii registers (take n lives) (take n numbers) x c) (sym (index-taken numbers k n l)) (least n x l t.0)));
  };
  none = none;
}

pub none-of : (ii registers : ℕ) (lives : List Lifetime) (numbers : List ℕ) (k : ℕ) → HasNoneAt ii registers lives numbers k → HaveNone ii registers lives
none-of ii registers lives numbers k h =
    record { place = k; life = h.life; is_life = h.is_life; numbers = take k numbers; least_before = h.least_before; none = h.none }

-- the value at the place is the one that has none
pub has-none : (ii registers : ℕ) (lives : List Lifetime) (numbers : List ℕ) (k : ℕ) (h : HasNoneAt ii registers lives numbers k) → HasNone ii registers lives h.life
has-none ii registers lives numbers k h =
    record { place = k; is_life = h.is_life; numbers = take k numbers; least_before = h.least_before; none = h.none }

pub below-none : (ii registers : ℕ) (lives : List Lifetime) (numbers : List ℕ) (k : ℕ) (life : Lifetime) → length numbers ≡ length lives → k < length lives → slice_get lives k ≡ Some life
    → LeastBelow ii registers lives numbers k → ((c : ℕ) → ¬ IsLawfulAllotment ii registers (take k lives ++ life ∷ []) (take k numbers ++ c ∷ []))
    → HaveNone ii registers lives
below-none ii registers lives numbers k life long lt there least none = none-of ii registers lives numbers k (below-none_at ii registers lives numbers k life long lt there least none)

pub below-more : (ii registers : ℕ) (lives : List Lifetime) (numbers : List ℕ) (k c : ℕ) (life : Lifetime) → k < length numbers → slice_get lives k ≡ Some life
    → LeastBelow ii registers lives numbers k → IsLeast ii registers (take k lives) (take k numbers) life c
    → LeastBelow ii registers lives (set numbers k c) (k + 1)
below-more ii registers lives numbers k c life lt there least one n x below h =
    subst (λ ns. IsLeast ii registers (take n lives) ns x (slice_index (set numbers k c) n)) (sym (take-set-le n numbers k c (omega arith)))
    (elim (cases_eq n k) [
      | inl same ↦
          let e : Some life ≡ Some x = sym there ∙ ap (slice_get lives) (sym same) ∙ h in
          let y : life ≡ x = cc in
          let z : slice_index (set numbers k c) n ≡ c = ap (slice_index (set numbers k c)) same ∙ get_or-set_same numbers k c 0 lt in
          subst (λ v. IsLeast ii registers (take n lives) (take n numbers) x v) (sym z)
          (subst (λ m. IsLeast ii registers (take m lives) (take m numbers) x c) (sym same)
          (subst (λ (v : Lifetime). IsLeast ii registers (take k lives) (take k numbers) v c) y one))
      | inr apart ↦
          let z : slice_index (set numbers k c) n ≡ slice_index numbers n = get_or-set_other numbers k n c 0 apart in
          subst (λ v. IsLeast ii registers (take n lives) (take n numbers) x v) (sym z) (least n x (omega arith) h)
    ])

index-taken-or : {X : Type 0} (xs : List X) (n k : ℕ) (d : X) → k < n → get_or (take n xs) k d ≡ get_or xs k d
index-taken-or [] zero k d lt = refl
index-taken-or [] (suc n) k d lt = refl
index-taken-or (x ∷ xs) zero k d lt = absurd (omega arith)
index-taken-or (x ∷ xs) (suc n) zero d lt = refl
index-taken-or (x ∷ xs) (suc n) (suc k) d lt = index-taken-or xs n k d (omega arith)

pub meets-same : (registers : ℕ) (numbers : List ℕ) (n k l : ℕ) (i j : ℤ) → k < n → l < n
    → physical registers (slice_index (take n numbers) k) i ≡ physical registers (slice_index (take n numbers) l) j
    → physical registers (slice_index numbers k) i ≡ physical registers (slice_index numbers l) j
meets-same registers numbers n k l i j kn ln e =
    ap (λ c. physical registers c i) (sym (index-taken numbers n k kn)) ∙ e ∙ ap (λ c. physical registers c j) (index-taken numbers n l ln)

pub life-take : (xs : List Lifetime) (k : ℕ) (x : Lifetime) → slice_get xs k ≡ Some x → take (k + 1) xs ≡ take k xs ++ x ∷ []
life-take xs k x e = let z : k + 1 ≡ suc k = omega arith in ap (λ n. take n xs) z ∙ take-life xs k x e

pub number-take : (xs : List ℕ) (k : ℕ) → k < length xs → take (k + 1) xs ≡ take k xs ++ slice_index xs k ∷ []
number-take xs k lt = let z : k + 1 ≡ suc k = omega arith in ap (λ n. take n xs) z ∙ take-more xs k lt

pub take-front : (xs ys : List ℕ) (n : ℕ) → n ≡ length xs → take n (xs ++ ys) ≡ xs
take-front [] ys zero e = refl
take-front [] ys (suc n) e = absurd (omega arith)
take-front (x ∷ xs) ys zero e = absurd (omega arith)
take-front (x ∷ xs) ys (suc n) e = ap (λ zs. x ∷ zs) (take-front xs ys n (omega arith))

-- the lifetimes that have numbers

pub spans-below : (lives : List Lifetime) (k : ℕ) → All IsLifeSpan lives → All IsLifeSpan (take k lives)
spans-below lives k spans = λ j d l.
    let n : j < k = omega (arith, length-take k lives) in
    let m : j < length lives = omega (arith, length-take k lives) in
    subst IsLifeSpan (sym (index-taken-or lives k j d n)) (spans j d m)
