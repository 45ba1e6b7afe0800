-- A loop that tests every element, and stops at the first that fails.
use Rattle.std.proofs.Common.{◌≡◌, ℕ, ◌<◌, ◌≤◌, ◌+◌, ◌↔◌, true, false, IsTrue, List, length, get_or, take, refl, sym, subst}
use Rattle.std.specs.List.{All}
use Rattle.std.proofs.lemmas.Bool.{false≢true}
use Rattle.std.proofs.lemmas.List.{take_all}
use Rattle.std.proofs.lemmas.List.Elements.{All-more}

-- it stops at one that fails
pub stops : {X : Type 0} (P : X → Type 0) (xs : List X) (i : ℕ) (x : X) → i < length xs → x ≡ get_or xs i x → (P x → ⊥) → IsTrue false ↔ All P xs
stops P xs i x within is fails = (λ e. absurd (false≢true e), λ all. absurd (fails (subst P (sym is) (all i x within))))

-- it goes on
pub goes_on : {X : Type 0} (P : X → Type 0) (xs : List X) (i : ℕ) (x : X) → i < length xs → x ≡ get_or xs i x → All P (take i xs) → P x → All P (take (i + 1) xs)
goes_on P xs i x within is all holds = All-more P xs i x within all (subst P is holds)

-- it reaches the end
pub ends : {X : Type 0} (P : X → Type 0) (xs : List X) (i : ℕ) → length xs ≤ i → All P (take i xs) → IsTrue true ↔ All P xs
ends P xs i past all = (λ _. subst (All P) (take_all i xs past) all, λ _. refl)

-- what holds of every element holds of one
pub of_item : {X : Type 0} (P : X → Type 0) (xs : List X) (i : ℕ) (x : X) → i < length xs → x ≡ get_or xs i x → All P xs → P x
of_item P xs i x within is all = subst P (sym is) (all i x within)
