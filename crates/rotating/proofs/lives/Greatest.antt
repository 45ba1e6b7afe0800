-- The greatest of the reads of a value, found one after another.
use Rattle.std.proofs.Common.{◌≡◌, ℕ, suc, zero, ◌+◌, ◌*◌, ◌<◌, ◌≤◌, max, true, false, List, [], ◌∷◌, ◌++◌, length, get_or, map, drop, refl, sym, ap, ◌∙◌, arith}
use Rattle.std.specs.Prelude.{is_some, filter_map}
use Rattle.loop_data.specs.declared.language.statement.Statement.{Statement}
use Rattle.unit_bound.specs.Units.{greatest_of}
use Rattle.rotating.specs.inner.Uses.{greatest_in}
use Rattle.overlap.specs.Lifetimes.{Use, distance_to, uses_from, values_from}

pub drop-at : {X : Type 0} (xs : List X) (k : ℕ) (x : X) → k < length xs → x ≡ get_or xs k x → drop k xs ≡ x ∷ drop (k + 1) xs
drop-at [] k x lt e = absurd (omega arith)
drop-at (y ∷ xs) zero x lt e = ap (λ z. z ∷ xs) (sym e)
drop-at (y ∷ xs) (suc k) x lt e =
    let z : suc (k + 1) ≡ suc k + 1 = omega arith in
    drop-at xs k x (omega arith) e ∙ ap (λ n. x ∷ drop n (y ∷ xs)) z

pub drop-none : {X : Type 0} (xs : List X) (k : ℕ) → length xs ≤ k → drop k xs ≡ []
drop-none [] zero le = refl
drop-none [] (suc k) le = refl
drop-none (x ∷ xs) zero le = absurd (omega arith)
drop-none (x ∷ xs) (suc k) le = drop-none xs k (omega arith)

uses-greatest : (f : Use → ℕ) (base step reader : ℕ) (ds : List ℕ) (us : List Use) → ((d : ℕ) → f (record { reader = reader; distance = d }) ≡ base + step * d)
    → greatest_of (map f (map (λ d. record { reader = reader; distance = d }) ds ++ us)) ≡ max (greatest_of (map (λ d. base + step * d) ds)) (greatest_of (map f us))
uses-greatest f base step reader [] us same = omega arith
uses-greatest f base step reader (d ∷ ds) us same = let r = uses-greatest f base step reader ds us same in let e = same d in omega arith

-- one statement more
pub uses-more : (f : Use → ℕ) (value base step q : ℕ) (s : Statement) (statements : List Statement) → ((d : ℕ) → f (record { reader = q; distance = d }) ≡ base + step * d)
    → greatest_of (map f (uses_from value q (s ∷ statements))) ≡ max (greatest_in value base step s.operands) (greatest_of (map f (uses_from value (q + 1) statements)))
uses-more f value base step q s statements same = uses-greatest f base step q (filter_map (distance_to value) s.operands) (uses_from value (q + 1) statements) same

-- one value more
pub value-yes : (q : ℕ) (s : Statement) (statements : List Statement) → is_some s.name ≡ true → values_from q (s ∷ statements) ≡ q ∷ values_from (q + 1) statements
value-yes q s statements e = rw e refl

pub value-no : (q : ℕ) (s : Statement) (statements : List Statement) → is_some s.name ≡ false → values_from q (s ∷ statements) ≡ values_from (q + 1) statements
value-no q s statements e = rw e refl
