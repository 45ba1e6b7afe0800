-- Lists whose elements all differ.
use Rattle.std.proofs.Common.{◌≢◌, ℕ, suc, zero, ◌<◌, ◌≤◌, cond, eqb, List, [], ◌∷◌, ◌++◌, length, get_or, sym, ap, subst, inl, inr, arith}
use Rattle.std.specs.Prelude.{flat_map}
use Rattle.std.specs.List.{AllPairs, Contains}
use Rattle.std.proofs.lemmas.Bool.{cases_eq, eq-eqb, ne_eqb, cond-true, cond-false}
use Rattle.std.proofs.lemmas.List.Elements.{Contains-get_or, Contains-append_cases}
use Rattle.overlap.proofs.in_flight.Landing.{contains-cases, contains-head, contains-tail}

-- pairs

cons-at : {X : Type 0} (R : X → X → Type 0) (x : X) (xs : List X) → ((y : X) → Contains xs y → R x y) → AllPairs R xs
    → (i j : ℕ) (d : X) → i < j → j < length (x ∷ xs) → R (get_or (x ∷ xs) i d) (get_or (x ∷ xs) j d)
cons-at R x xs first rest zero zero d lt h = absurd (omega arith)
cons-at R x xs first rest zero (suc j) d lt h = first (get_or xs j d) (Contains-get_or xs j d (omega arith))
cons-at R x xs first rest (suc i) zero d lt h = absurd (omega arith)
cons-at R x xs first rest (suc i) (suc j) d lt h = rest i j d (omega arith) (omega arith)

pub pairs-cons : {X : Type 0} (R : X → X → Type 0) (x : X) (xs : List X) → ((y : X) → Contains xs y → R x y) → AllPairs R xs → AllPairs R (x ∷ xs)
pairs-cons R x xs first rest = λ i j d lt h. cons-at R x xs first rest i j d lt h

pub pairs-nil : {X : Type 0} (R : X → X → Type 0) → AllPairs R []
pairs-nil R = λ i j d lt h. absurd (omega arith)

pub pairs-head : {X : Type 0} (R : X → X → Type 0) (x : X) (xs : List X) → AllPairs R (x ∷ xs) → (y : X) → Contains xs y → R x y
pairs-head R x xs all y c = subst (R x) c.2 (all 0 (suc c.0) y (omega arith) (let l = c.1 in omega arith))

pub pairs-tail : {X : Type 0} (R : X → X → Type 0) (x : X) (xs : List X) → AllPairs R (x ∷ xs) → AllPairs R xs
pairs-tail R x xs all = λ i j d lt h. all (suc i) (suc j) d (omega arith) (omega arith)

pub pairs-append : {X : Type 0} (R : X → X → Type 0) (xs ys : List X) → AllPairs R xs → AllPairs R ys → ((x y : X) → Contains xs x → Contains ys y → R x y) → AllPairs R (xs ++ ys)
pairs-append R [] ys a b cross = b
pairs-append R (x ∷ xs) ys a b cross =
    pairs-cons R x (xs ++ ys)
    (λ y c. elim (Contains-append_cases xs ys y c) [
      | inl l ↦ pairs-head R x xs a y l
      | inr r ↦ cross x y (contains-head x xs) r
    ])
    (pairs-append R xs ys (pairs-tail R x xs a) b (λ u v c d. cross u v (contains-tail x xs u c) d))

pub flat-back : {A : Type 0} (f : ℕ → List A) (xs : List ℕ) (y : A) → Contains (flat_map f xs) y → (x : ℕ) × Contains xs x × Contains (f x) y
flat-back f [] y c = absurd (let l = c.1 in omega arith)
flat-back f (x ∷ xs) y c = elim (Contains-append_cases (f x) (flat_map f xs) y c) [
  | inl here ↦ (x, contains-head x xs, here)
  | inr d ↦ let r = flat-back f xs y d in (r.0, contains-tail x xs r.0 r.1, r.2)
]

-- of lists laid after one another
pub pairs-flat : {A : Type 0} (R : A → A → Type 0) (f : ℕ → List A) (xs : List ℕ) → AllPairs (λ x y. x ≢ y) xs
    → ((x : ℕ) → Contains xs x → AllPairs R (f x)) → ((x y : ℕ) (u v : A) → Contains xs x → Contains xs y → x ≢ y → Contains (f x) u → Contains (f y) v → R u v)
    → AllPairs R (flat_map f xs)
pairs-flat R f [] different each cross = pairs-nil R
pairs-flat R f (x ∷ xs) different each cross =
    pairs-append R (f x) (flat_map f xs) (each x (contains-head x xs))
    (pairs-flat R f xs (pairs-tail (λ x y. x ≢ y) x xs different) (λ y c. each y (contains-tail x xs y c)) (λ y z u v c d n. cross y z u v (contains-tail x xs y c) (contains-tail x xs z d) n))
    (λ u v c d.
    let r = flat-back f xs v d in
    cross x r.0 u v (contains-head x xs) (contains-tail x xs r.0 r.1) (pairs-head (λ x y. x ≢ y) x xs different r.0 r.1) c r.2)

-- there are at most `n` different numbers below `n`

without : ℕ → List ℕ → List ℕ
without n [] = []
without n (x ∷ xs) = cond (eqb x n) xs (x ∷ without n xs)

without-subset : (n : ℕ) (xs : List ℕ) (y : ℕ) → Contains (without n xs) y → Contains xs y
unfolding without
without-subset n [] y c = c
without-subset n (x ∷ xs) y c = elim (cases_eq x n) [
  | inl same ↦ contains-tail x xs y (subst (λ l. Contains l y) (cond-true (eqb x n) xs (x ∷ without n xs) (eq-eqb x n same)) c)
  | inr other ↦ elim (contains-cases x (without n xs) y (subst (λ l. Contains l y) (cond-false (eqb x n) xs (x ∷ without n xs) (ne_eqb x n other)) c)) [
    | inl e ↦ subst (Contains (x ∷ xs)) e (contains-head x xs)
    | inr d ↦ contains-tail x xs y (without-subset n xs y d)
  ]
]

without-none : (n : ℕ) (xs : List ℕ) → AllPairs (λ x y. x ≢ y) xs → Contains (without n xs) n → ⊥
unfolding without
without-none n [] p c = let l = c.1 in omega arith
without-none n (x ∷ xs) p c = elim (cases_eq x n) [
  | inl same ↦ pairs-head (λ x y. x ≢ y) x xs p n (subst (λ l. Contains l n) (cond-true (eqb x n) xs (x ∷ without n xs) (eq-eqb x n same)) c) same
  | inr other ↦ elim (contains-cases x (without n xs) n (subst (λ l. Contains l n) (cond-false (eqb x n) xs (x ∷ without n xs) (ne_eqb x n other)) c)) [
    | inl e ↦ other e
    | inr d ↦ without-none n xs (pairs-tail (λ x y. x ≢ y) x xs p) d
  ]
]

without-different : (n : ℕ) (xs : List ℕ) → AllPairs (λ x y. x ≢ y) xs → AllPairs (λ x y. x ≢ y) (without n xs)
unfolding without
without-different n [] p = p
without-different n (x ∷ xs) p = elim (cases_eq x n) [
  | inl same ↦ subst (AllPairs (λ x y. x ≢ y)) (sym (cond-true (eqb x n) xs (x ∷ without n xs) (eq-eqb x n same))) (pairs-tail (λ x y. x ≢ y) x xs p)
  | inr other ↦ subst (AllPairs (λ x y. x ≢ y)) (sym (cond-false (eqb x n) xs (x ∷ without n xs) (ne_eqb x n other)))
      (pairs-cons (λ x y. x ≢ y) x (without n xs) (λ y c. pairs-head (λ x y. x ≢ y) x xs p y (without-subset n xs y c)) (without-different n xs (pairs-tail (λ x y. x ≢ y) x xs p)))
]

without-long : (n : ℕ) (xs : List ℕ) → length xs ≤ suc (length (without n xs))
unfolding without
without-long n [] = omega arith
without-long n (x ∷ xs) = elim (cases_eq x n) [
  | inl same ↦ let e = ap length (cond-true (eqb x n) xs (x ∷ without n xs) (eq-eqb x n same)) in omega arith
  | inr other ↦ let e = ap length (cond-false (eqb x n) xs (x ∷ without n xs) (ne_eqb x n other)) in let r = without-long n xs in omega arith
]

pub different-few : (n : ℕ) (xs : List ℕ) → AllPairs (λ x y. x ≢ y) xs → ((x : ℕ) → Contains xs x → x < n) → length xs ≤ n
different-few zero [] p below = omega arith
different-few zero (x ∷ xs) p below = let b = below x (contains-head x xs) in absurd (omega arith)
different-few (suc n) xs p below =
    let r = different-few n (without n xs) (without-different n xs p) (λ x c.
    let b = below x (without-subset n xs x c) in
    elim (cases_eq x n) [
      | inl e ↦ absurd (without-none n xs p (subst (Contains (without n xs)) e c))
      | inr o ↦ omega arith
    ]) in
    let l = without-long n xs in
    omega arith
