-- The next number is no more than the pieces and the passes.
use Rattle.std.proofs.Common.{◌≡◌, ℕ, zero, suc, ◌+◌, ◌-◌, ◌<◌, ◌≤◌, nat_lt, if◌then◌else◌, List, [], ◌∷◌, length, refl, arith}
use Rattle.std.proofs.lemmas.Bool.Decides.{nat_tests}
use Rattle.board.specs.declared.view.View.{View}
use Rattle.std.specs.Prelude.{All}
use Rattle.board.specs.declared.view.Terms.{Terms}
use Rattle.board.specs.Views.{beyond}
use Rattle.board.specs.Rule.{total, occurrences, IsWithinParts, Rule, next_of}
use Rattle.board.proofs.Totals.{total_both}

-- how many of the numbers are from the first bound on, and below the second
abbrev pub between : ℕ → ℕ → List ℕ → ℕ
between a zero xs = 0
between a (suc n) xs = between a n xs + occurrences (a + n) xs

between-nil : (a n : ℕ) → between a n [] ≡ 0
between-nil a zero = refl
between-nil a (suc n) = let r = between-nil a n in omega arith

between-cons : (a n x : ℕ) (xs : List ℕ) → between a n (x ∷ xs) ≡ (if nat_lt x a then 0 else (if nat_lt x (a + n) then 1 else 0)) + between a n xs
between-cons a zero x xs = grind (arith, nat_tests)
between-cons a (suc n) x xs = let r = between-cons a n x xs in grind (arith, nat_tests)

between_beyond : (a n : ℕ) (xs : List ℕ) → between a n xs ≤ beyond a xs
between_beyond a n [] = let r = between-nil a n in omega arith
between_beyond a n (x ∷ xs) = let r = between-cons a n x xs in let s = between_beyond a n xs in grind (arith, nat_tests)

pub between_below : (n : ℕ) (xs : List ℕ) → All (λ x. x < n) xs → between 0 n xs ≡ length xs
between_below n [] h = between-nil 0 n
between_below n (x ∷ xs) h =
    let r = between-cons 0 n x xs in
    let s = between_below n xs (λ k d near. h (suc k) d (omega arith)) in
    let t = h 0 x (omega arith) in
    grind (arith, nat_tests)

-- each number below the next one stands once in all the lists
pub total_between : (views : List View) (next a n : ℕ) → a + n ≤ next → ((x : ℕ) → total (λ v. occurrences x v.drawn) views ≡ (if nat_lt x next then 1 else 0)) → total (λ v. between a n v.drawn) views ≡ n
total_between views next a zero fits once = total_none views
  where
    total_none : (views : List View) → total (λ v. 0) views ≡ 0
    total_none [] = refl
    total_none (v ∷ vs) = let r = total_none vs in omega arith
total_between views next a (suc n) fits once =
    let r = total_between views next a n (omega arith) once in
    let s = total_both (λ v. between a n v.drawn) (λ v. occurrences (a + n) v.drawn) views in
    let t = once (a + n) in
    grind (arith, nat_tests)

total_most : (f g : View → ℕ) (views : List View) → ((v : View) → f v ≤ g v) → total f views ≤ total g views
total_most f g [] h = omega arith
total_most f g (v ∷ vs) h = let r = total_most f g vs h in let s = h v in omega arith

pub total_beyond : (views : List View) (next pieces : ℕ) → ((x : ℕ) → total (λ v. occurrences x v.drawn) views ≡ (if nat_lt x next then 1 else 0))
    → next ≤ pieces + total (λ v. beyond pieces v.drawn) views
total_beyond views next pieces once = go (next - pieces) refl
  where
    go : (n : ℕ) → next - pieces ≡ n → next ≤ pieces + total (λ v. beyond pieces v.drawn) views
    go zero e = omega arith
    go (suc n) e =
        let r = total_between views next pieces (suc n) (omega arith) once in
        let s = total_most (λ v. between pieces (suc n) v.drawn) (λ v. beyond pieces v.drawn) views (λ v. between_beyond pieces (suc n) v.drawn) in
        omega arith

total_within : (pieces : ℕ) (views : List View) → All (IsWithinParts pieces) views → total (λ v. beyond pieces v.drawn) views ≤ total (λ v. v.count) views
total_within pieces [] h = omega arith
total_within pieces (v ∷ vs) h = let r = total_within pieces vs (λ k d near. h (suc k) d (omega arith)) in let s = (h 0 v (omega arith)).0 in omega arith

pub next_bounded : (terms : Terms) (words : List ℕ) (views : List View) → Rule terms words views → next_of words ≤ terms.pieces + terms.passes
next_bounded terms words views rule =
    let a = total_beyond views (next_of words) terms.pieces rule.drawn in
    let b = total_within terms.pieces views rule.counts.2 in
    let c = rule.counts.0 in
    omega arith
