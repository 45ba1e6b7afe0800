-- The first fault of a list, as it is gone over item by item.
use Rattle.std.proofs.Common.{◌≡◌, ℕ, suc, zero, ◌+◌, ◌<◌, ◌≤◌, List, [], ◌∷◌, length, get_or, drop, refl, sym, ap, ◌∙◌, arith}
use Rattle.std.specs.Prelude.{Option}
use Rattle.problems.specs.declared.fault.Fault.{Fault}
use Rattle.problems.specs.Faults.{first_among, first_in}

pub drop-at : {X : Type 0} (xs : List X) (k : ℕ) (x : X) → k < length xs → x ≡ get_or xs k x → drop k xs ≡ x ∷ drop (k + 1) xs
drop-at [] k x lt is = absurd (omega arith)
drop-at (y ∷ xs) zero x lt is = ap (λ z. z ∷ xs) (sym is)
drop-at (y ∷ xs) (suc k) x lt is =
    let z : suc (k + 1) ≡ suc k + 1 = omega arith in
    drop-at xs k x (omega arith) is ∙ ap (λ n. x ∷ drop n (y ∷ xs)) z

drop-none : {X : Type 0} (xs : List X) (k : ℕ) → length xs ≤ k → drop k xs ≡ []
drop-none [] zero le = refl
drop-none [] (suc k) le = refl
drop-none (x ∷ xs) zero le = absurd (omega arith)
drop-none (x ∷ xs) (suc k) le = drop-none xs k (omega arith)

-- the first fault in a list is the first one from a place on
abbrev pub IsLeft : {X : Type 0} → (ℕ → X → Option Fault) → List X → ℕ → Type 0
IsLeft fault_of xs number = first_in fault_of xs ≡ first_among fault_of number (drop number xs)
