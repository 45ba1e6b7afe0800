-- Sums over all views, and counts in the lists of one.
use Rattle.std.proofs.Common.{◌≡◌, ℕ, zero, suc, ◌+◌, ◌<◌, ◌≤◌, List, [], ◌∷◌, ◌++◌, set, slice_index_or, sym, refl, ap, subst, arith}
use Rattle.std.specs.Prelude.{All}
use Rattle.std.proofs.lemmas.Bool.Decides.{nat_tests}
use mathlib.Core.Option.{some, some-injective, some-ne-none}
use lib.ListN.{get_elem?}
use Rattle.board.specs.declared.view.View.{View}
use Rattle.board.specs.Views.{beyond}
use Rattle.board.specs.Rule.{total, occurrences, times_posted}

pub total_set : (f : View → ℕ) (views : List View) (id : ℕ) (v w : View) → get_elem? views id ≡ some v → total f (set views id w) + f v ≡ total f views + f w
total_set f [] id v w e = absurd (some-ne-none v (sym e))
total_set f (x ∷ xs) zero v w e = let is : f x ≡ f v = ap f (some-injective x v e) in omega arith
total_set f (x ∷ xs) (suc id) v w e = let r = total_set f xs id v w e in omega arith

pub total-append : (f : View → ℕ) (xs ys : List View) → total f (xs ++ ys) ≡ total f xs + total f ys
total-append f [] ys = omega arith
total-append f (x ∷ xs) ys = let r = total-append f xs ys in omega arith

pub total_at : (f : View → ℕ) (views : List View) (id : ℕ) (v : View) → get_elem? views id ≡ some v → f v ≤ total f views
total_at f [] id v e = absurd (some-ne-none v (sym e))
total_at f (x ∷ xs) zero v e = let is : f x ≡ f v = ap f (some-injective x v e) in omega arith
total_at f (x ∷ xs) (suc id) v e = let r = total_at f xs id v e in omega arith

pub total_both : (f g : View → ℕ) (xs : List View) → total (λ v. f v + g v) xs ≡ total f xs + total g xs
total_both f g [] = refl
total_both f g (x ∷ xs) = let r = total_both f g xs in omega arith

pub occurrences-append : (x : ℕ) (xs ys : List ℕ) → occurrences x (xs ++ ys) ≡ occurrences x xs + occurrences x ys
occurrences-append x [] ys = omega arith
occurrences-append x (y ∷ xs) ys = let r = occurrences-append x xs ys in omega arith

pub times_posted-append : (l ii : ℕ) (xs ys : List (ℕ × ℕ)) → times_posted l ii (xs ++ ys) ≡ times_posted l ii xs + times_posted l ii ys
times_posted-append l ii [] ys = omega arith
times_posted-append l ii (p ∷ xs) ys = let r = times_posted-append l ii xs ys in omega arith

pub beyond-append : (pieces : ℕ) (xs ys : List ℕ) → beyond pieces (xs ++ ys) ≡ beyond pieces xs + beyond pieces ys
beyond-append pieces [] ys = omega arith
beyond-append pieces (x ∷ xs) ys = let r = beyond-append pieces xs ys in omega arith

-- what holds of each number that stands in the list holds of each element
pub all_times : (P : ℕ → Type 0) (xs : List ℕ) → ((x : ℕ) → 0 < occurrences x xs → P x) → All P xs
all_times P [] h k d near = absurd (omega arith)
all_times P (x ∷ xs) h zero d near = h x (grind (arith, nat_tests))
all_times P (x ∷ xs) h (suc k) d near = all_times P xs (λ y some. h y (omega arith)) k d (omega arith)

pub all_times_posted : (l : ℕ) (P : ℕ → Type 0) (xs : List (ℕ × ℕ)) → ((ii : ℕ) → 0 < times_posted l ii xs → P ii) → All (λ p. p.0 ≡ l → P p.1) xs
all_times_posted l P [] h k d near = absurd (omega arith)
all_times_posted l P (p ∷ xs) h zero d near = λ is. h p.1 (grind (arith, nat_tests))
all_times_posted l P (p ∷ xs) h (suc k) d near = all_times_posted l P xs (λ ii some. h ii (omega arith)) k d (omega arith)

module _ {X : Type 0} (P : X → Type 0) where
  pub all_at : (xs : List X) (id : ℕ) (x : X) → All P xs → get_elem? xs id ≡ some x → P x
  all_at [] id x h e = absurd (some-ne-none x (sym e))
  all_at (y ∷ xs) zero x h e = subst P (some-injective y x e) (h 0 y (omega arith))
  all_at (y ∷ xs) (suc id) x h e = all_at xs id x (λ k d near. h (suc k) d (omega arith)) e

  pub all_set : (xs : List X) (id : ℕ) (w : X) → All P xs → P w → All P (set xs id w)
  all_set [] id w h new k d near = absurd (omega arith)
  all_set (x ∷ xs) zero w h new zero d near = new
  all_set (x ∷ xs) zero w h new (suc k) d near = h (suc k) d (omega arith)
  all_set (x ∷ xs) (suc id) w h new zero d near = h 0 d (omega arith)
  all_set (x ∷ xs) (suc id) w h new (suc k) d near = all_set xs id w (λ k d near. h (suc k) d (omega arith)) new k d (omega arith)

pub all_by : {X : Type 0} (P Q : X → Type 0) (xs : List X) → ((x : X) → P x → Q x) → All P xs → All Q xs
all_by P Q xs f h k d near = f (slice_index_or xs k d) (h k d near)
