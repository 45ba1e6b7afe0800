-- Lists of values and reads that are gone over one after another.
use Rattle.std.proofs.Common.{◌≡◌, ℕ, suc, zero, ◌+◌, ◌-◌, ◌<◌, ◌≤◌, max, eqb, List, [], ◌∷◌, ◌++◌, length, get_or, map, set, take, drop, refl, sym, ap, ◌∙◌, inl, inr, arith}
use Rattle.std.specs.Prelude.{slice_index, replicate}
use Rattle.std.proofs.lemmas.Bool.{cases_eq, eq-eqb, ne_eqb, cond-true, cond-false}
use Rattle.std.proofs.lemmas.List.{get_or-set_other, get_or-set_same}
use Rattle.registers.specs.declared.value.Read.{Read}
use Rattle.registers.specs.Values.{greatest_of, last_read, reads_of}
use Rattle.registers.specs.inner.Lasts.{last_or}

pub drop-at : {X : Type 0} (xs : List X) (k : ℕ) (d : X) → k < length xs → drop k xs ≡ get_or xs k d ∷ drop (k + 1) xs
drop-at [] k d lt = absurd (omega arith)
drop-at (y ∷ xs) zero d lt = refl
drop-at (y ∷ xs) (suc k) d lt =
    let z : suc (k + 1) ≡ suc k + 1 = omega arith in
    drop-at xs k d (omega arith) ∙ ap (λ n. get_or xs k d ∷ drop n (y ∷ xs)) z

pub drop-none : {X : Type 0} (xs : List X) (k : ℕ) → length xs ≤ k → drop k xs ≡ []
drop-none [] zero le = refl
drop-none [] (suc k) le = refl
drop-none (x ∷ xs) zero le = absurd (omega arith)
drop-none (x ∷ xs) (suc k) le = drop-none xs k (omega arith)

pub put-front : {X : Type 0} (xs : List X) (k : ℕ) (x : X) → k < length xs → take (k + 1) (set xs k x) ≡ take k xs ++ x ∷ []
put-front [] k x lt = absurd (omega arith)
put-front (y ∷ xs) zero x lt = refl
put-front (y ∷ xs) (suc k) x lt =
    let z : suc k + 1 ≡ suc (k + 1) = omega arith in
    ap (λ n. take n (y ∷ set xs k x)) z ∙ ap (λ zs. y ∷ zs) (put-front xs k x (omega arith))

put-after : {X : Type 0} (xs : List X) (k : ℕ) (x : X) → drop (k + 1) (set xs k x) ≡ drop (k + 1) xs
put-after [] zero x = refl
put-after [] (suc k) x = refl
put-after (y ∷ xs) zero x = refl
put-after (y ∷ xs) (suc k) x =
    let z : suc k + 1 ≡ suc (k + 1) = omega arith in
    ap (λ n. drop n (y ∷ set xs k x)) z ∙ put-after xs k x ∙ ap (λ n. drop n (y ∷ xs)) (sym z)

drop-more : {X : Type 0} (xs : List X) (k : ℕ) → drop (k + 1) xs ≡ drop 1 (drop k xs)
drop-more [] zero = refl
drop-more [] (suc k) = let z : suc k + 1 ≡ suc (k + 1) = omega arith in ap (λ n. drop n []) z
drop-more (y ∷ xs) zero = refl
drop-more (y ∷ xs) (suc k) = let z : suc k + 1 ≡ suc (k + 1) = omega arith in ap (λ n. drop n (y ∷ xs)) z ∙ drop-more xs k

-- what stands after a place that is written stays
pub after-more : {X : Type 0} (xs ys : List X) (k : ℕ) (x : X) → drop k xs ≡ drop k ys → drop (k + 1) (set xs k x) ≡ drop (k + 1) ys
after-more xs ys k x e = put-after xs k x ∙ drop-more xs k ∙ ap (drop 1) e ∙ sym (drop-more ys k)

pub zero-at : (n v : ℕ) → slice_index (replicate n 0) v ≡ 0
zero-at zero v = refl
zero-at (suc n) zero = refl
zero-at (suc n) (suc v) = zero-at n v

-- a table of the greatest of what the reads of each value come to, one read more
pub raised : (f : Read → ℕ) (table : List ℕ) (x : Read) (rest : List Read) (n : ℕ) → x.value < length table → n ≡ max (slice_index table x.value) (f x) → (v : ℕ)
    → max (slice_index (set table x.value n) v) (greatest_of (map f (reads_of rest v))) ≡ max (slice_index table v) (greatest_of (map f (reads_of (x ∷ rest) v)))
raised f table x rest n lt e v = elim (cases_eq x.value v) [
  | inl same ↦
      let here : slice_index (set table x.value n) v ≡ n = ap (slice_index (set table x.value n)) (sym same) ∙ get_or-set_same table x.value n 0 lt in
      let old : slice_index table x.value ≡ slice_index table v = ap (slice_index table) same in
      let more : greatest_of (map f (reads_of (x ∷ rest) v)) ≡ max (f x) (greatest_of (map f (reads_of rest v)))
      = ap (λ (rs : List Read). greatest_of (map f rs)) (cond-true (eqb x.value v) (x ∷ reads_of rest v) (reads_of rest v) (eq-eqb x.value v same)) in
      omega arith
  | inr apart ↦
      let here : slice_index (set table x.value n) v ≡ slice_index table v = get_or-set_other table x.value v n 0 (λ s. apart (sym s)) in
      let more : greatest_of (map f (reads_of (x ∷ rest) v)) ≡ greatest_of (map f (reads_of rest v))
      = ap (λ (rs : List Read). greatest_of (map f rs)) (cond-false (eqb x.value v) (x ∷ reads_of rest v) (reads_of rest v) (ne_eqb x.value v apart)) in
      omega arith
]

-- the last read, by the cycles after the reads

one-more : (f : Read → ℕ) (r : Read) (reads : List Read) → greatest_of (map (λ (x : Read). f x + 1) (r ∷ reads)) ≡ greatest_of (map f (r ∷ reads)) + 1
one-more f r [] = omega arith
one-more f r (x ∷ reads) = let i = one-more f x reads in omega arith

pub last-is : (f : Read → ℕ) (landing : ℕ) (reads : List Read) → last_or landing (greatest_of (map (λ (x : Read). f x + 1) reads)) ≡ last_read landing (map f reads)
last-is f landing [] = refl
last-is f landing (r ∷ reads) =
    let n : ℕ = greatest_of (map (λ (x : Read). f x + 1) (r ∷ reads)) in
    let e : n ≡ greatest_of (map f (r ∷ reads)) + 1 = one-more f r reads in
    let m : n - 1 ≡ greatest_of (map f (r ∷ reads)) = omega arith in
    cond-false (eqb n 0) landing (n - 1) (ne_eqb n 0 (λ z. omega arith)) ∙ m
