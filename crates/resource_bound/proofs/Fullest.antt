-- The order in which operations are taken changes no unit's uses.
use Rattle.std.proofs.Common.{◌≡◌, ◌≢◌, ℕ, zero, suc, ◌+◌, ◌<◌, ◌≤◌, ◌==◌, Bool, true, false, cond, List, [], ◌∷◌, ◌++◌, length, get_or, map, refl, sym, ap, ◌∙◌, inl, inr, arith, filter, eqb, leb}
use Rattle.std.specs.List.{All}
use Rattle.std.proofs.lemmas.List.{length-append}
use Rattle.std.proofs.lemmas.List.Elements.{All-head, All-tail}
use Rattle.std.proofs.lemmas.List.Sums.{sum_by-cons}
use Rattle.std.proofs.lemmas.Bool.{eq-eqb, ne_eqb, cases_eq, cases_lt, cases_order, le-leb, lt-leb}
use Rattle.machine_data.specs.declared.alternative.Row.{Row}
use Rattle.machine_data.specs.Alternative.{AreAlternatives}
use Rattle.unit_bound.specs.Units.{by_freedom, chosen_rows, greatest_of, greatest_use, use_of, IsUnitBound}
use Rattle.unit_bound.proofs.Passes.{passes, passes_all}
use Rattle.unit_bound.proofs.Tally.{use_of-append}
use Rattle.resource_bound.specs.Choices.{AreUnitChoices, by_freedom_too, choices_among}
use Rattle.resource_bound.proofs.Among.{among-cons, passed, passed_all}
use Rattle.resource_bound.proofs.Chosen.{rows-append}

abbrev having : ℕ → List (List (List Row)) → List (List (List Row))
having n operations = filter (λ alternatives. length alternatives == n) operations

-- the uses of a unit by the operations that have `n` alternatives
abbrev use_among : List (List (List Row)) → List ℕ → ℕ → ℕ → ℕ
use_among operations choices n unit = use_of (chosen_rows (having n operations) (choices_among operations choices n)) unit

use-cond : (first : List (List Row)) (k : ℕ) (operations : List (List (List Row))) (choices : List ℕ) (unit : ℕ) (b : Bool)
    → use_of (chosen_rows (cond b (first ∷ operations) operations) (cond b (k ∷ []) [] ++ choices)) unit
    ≡ cond b (use_of (get_or first k []) unit) 0 + use_of (chosen_rows operations choices) unit
use-cond first k operations choices unit true = use_of-append (get_or first k []) (chosen_rows operations choices) unit
use-cond first k operations choices unit false = omega arith

use_among-cons : (first : List (List Row)) (operations : List (List (List Row))) (k : ℕ) (choices : List ℕ) (n unit : ℕ)
    → use_among (first ∷ operations) (k ∷ choices) n unit ≡ cond (eqb (length first) n) (use_of (get_or first k []) unit) 0 + use_among operations choices n unit
use_among-cons first operations k choices n unit =
    ap (λ ks. use_of (chosen_rows (having n (first ∷ operations)) ks) unit) (among-cons first operations k choices n)
    ∙ use-cond first k (having n operations) (choices_among operations choices n) unit (length first == n)

-- the uses of a unit by the operations that have at most `n` alternatives
use_up_to : List (List (List Row)) → List ℕ → ℕ → ℕ → ℕ
use_up_to [] choices n unit = 0
use_up_to (first ∷ operations) [] n unit = 0
use_up_to (first ∷ operations) (k ∷ choices) n unit = cond (leb (length first) n) (use_of (get_or first k []) unit) 0 + use_up_to operations choices n unit

one_more : (a n v : ℕ) → cond (leb a n) v 0 + cond (eqb a (suc n)) v 0 ≡ cond (leb a (suc n)) v 0
one_more a n v =
    let if_so : Bool → ℕ = λ b. cond b v 0 in
    elim (cases_order a (suc n)) [
      | inl e ↦ (let p : if_so (leb a n) ≡ 0 = ap if_so (lt-leb a n (omega arith)) in
          let q : if_so (eqb a (suc n)) ≡ v = ap if_so (eq-eqb a (suc n) e) in
          let r : if_so (leb a (suc n)) ≡ v = ap if_so (le-leb a (suc n) (omega arith)) in omega arith)
      | inr o ↦ elim o [
        | inl less ↦ (let p : if_so (leb a n) ≡ v = ap if_so (le-leb a n (omega arith)) in
            let ne : a ≢ suc n = omega arith in
            let q : if_so (eqb a (suc n)) ≡ 0 = ap if_so (ne_eqb a (suc n) ne) in
            let r : if_so (leb a (suc n)) ≡ v = ap if_so (le-leb a (suc n) (omega arith)) in omega arith)
        | inr more ↦ (let p : if_so (leb a n) ≡ 0 = ap if_so (lt-leb a n (omega arith)) in
            let ne : a ≢ suc n = omega arith in
            let q : if_so (eqb a (suc n)) ≡ 0 = ap if_so (ne_eqb a (suc n) ne) in
            let r : if_so (leb a (suc n)) ≡ 0 = ap if_so (lt-leb a (suc n) (omega arith)) in omega arith)
      ]
    ]

use_up_to-more : (operations : List (List (List Row))) (choices : List ℕ) (n unit : ℕ) → length operations ≡ length choices
    → use_up_to operations choices n unit + use_among operations choices (suc n) unit ≡ use_up_to operations choices (suc n) unit
unfolding use_up_to
use_up_to-more [] [] n unit e = refl
use_up_to-more [] (k ∷ choices) n unit e = absurd (omega arith)
use_up_to-more (first ∷ operations) [] n unit e = absurd (omega arith)
use_up_to-more (first ∷ operations) (k ∷ choices) n unit e =
    let v : ℕ = use_of (get_or first k []) unit in
    let h : use_up_to operations choices n unit + use_among operations choices (suc n) unit ≡ use_up_to operations choices (suc n) unit
    = use_up_to-more operations choices n unit (omega arith) in
    let a : use_among (first ∷ operations) (k ∷ choices) (suc n) unit ≡ cond (eqb (length first) (suc n)) v 0 + use_among operations choices (suc n) unit
    = use_among-cons first operations k choices (suc n) unit in
    let b : cond (leb (length first) n) v 0 + cond (eqb (length first) (suc n)) v 0 ≡ cond (leb (length first) (suc n)) v 0 = one_more (length first) n v in
    omega arith

use_up_to-none : (operations : List (List (List Row))) (choices : List ℕ) (unit : ℕ) → All (λ alternatives. 0 < length alternatives) operations
    → use_up_to operations choices 0 unit ≡ 0
unfolding use_up_to
use_up_to-none [] choices unit some = refl
use_up_to-none (first ∷ operations) [] unit some = refl
use_up_to-none (first ∷ operations) (k ∷ choices) unit some =
    let a : cond (leb (length first) 0) (use_of (get_or first k []) unit) 0 ≡ 0
    = ap (λ b. cond b (use_of (get_or first k []) unit) 0) (lt-leb (length first) 0 (All-head (λ (alternatives : List (List Row)). 0 < length alternatives) first operations some)) in
    let h : use_up_to operations choices 0 unit ≡ 0
    = use_up_to-none operations choices unit (All-tail (λ (alternatives : List (List Row)). 0 < length alternatives) first operations some) in
    omega arith

use_up_to-all : (operations : List (List (List Row))) (choices : List ℕ) (unit : ℕ) → All (λ alternatives. length alternatives ≤ 16) operations
    → use_up_to operations choices 16 unit ≡ use_of (chosen_rows operations choices) unit
unfolding use_up_to
use_up_to-all [] choices unit few = refl
use_up_to-all (first ∷ operations) [] unit few = refl
use_up_to-all (first ∷ operations) (k ∷ choices) unit few =
    let v : ℕ = use_of (get_or first k []) unit in
    let a : cond (leb (length first) 16) v 0 ≡ v
    = ap (λ b. cond b v 0) (le-leb (length first) 16 (All-head (λ (alternatives : List (List Row)). length alternatives ≤ 16) first operations few)) in
    let h : use_up_to operations choices 16 unit ≡ use_of (chosen_rows operations choices) unit
    = use_up_to-all operations choices unit (All-tail (λ (alternatives : List (List Row)). length alternatives ≤ 16) first operations few) in
    let s : use_of (get_or first k [] ++ chosen_rows operations choices) unit ≡ v + use_of (chosen_rows operations choices) unit
    = use_of-append (get_or first k []) (chosen_rows operations choices) unit in
    omega arith

length-cond : (first : List (List Row)) (k : ℕ) (operations : List (List (List Row))) (choices : List ℕ) (b : Bool) → length operations ≡ length choices
    → length (cond b (first ∷ operations) operations) ≡ length (cond b (k ∷ []) [] ++ choices)
length-cond first k operations choices true e = omega arith
length-cond first k operations choices false e = e

length-among : (operations : List (List (List Row))) (choices : List ℕ) (n : ℕ) → length operations ≡ length choices
    → length (having n operations) ≡ length (choices_among operations choices n)
length-among [] [] n e = refl
length-among [] (k ∷ choices) n e = absurd (omega arith)
length-among (first ∷ operations) [] n e = absurd (omega arith)
length-among (first ∷ operations) (k ∷ choices) n e =
    length-cond first k (having n operations) (choices_among operations choices n) (length first == n) (length-among operations choices n (omega arith))
    ∙ ap length (sym (among-cons first operations k choices n))

length-passed : (operations : List (List (List Row))) (choices : List ℕ) (n : ℕ) → length operations ≡ length choices
    → length (passes operations n) ≡ length (passed operations choices n)
length-passed operations choices zero e = refl
length-passed operations choices (suc n) e =
    let a : length (passes operations n ++ having (suc n) operations) ≡ length (passes operations n) + length (having (suc n) operations)
    = length-append (passes operations n) (having (suc n) operations) in
    let b : length (passed operations choices n ++ choices_among operations choices (suc n)) ≡ length (passed operations choices n) + length (choices_among operations choices (suc n))
    = length-append (passed operations choices n) (choices_among operations choices (suc n)) in
    let p : length (passes operations n) ≡ length (passed operations choices n) = length-passed operations choices n e in
    let q : length (having (suc n) operations) ≡ length (choices_among operations choices (suc n)) = length-among operations choices (suc n) e in
    omega arith

use-passed : (operations : List (List (List Row))) (choices : List ℕ) (n unit : ℕ) → length operations ≡ length choices
    → All (λ alternatives. 0 < length alternatives) operations
    → use_of (chosen_rows (passes operations n) (passed operations choices n)) unit ≡ use_up_to operations choices n unit
use-passed operations choices zero unit e some = sym (use_up_to-none operations choices unit some)
use-passed operations choices (suc n) unit e some =
    let first : List Row = chosen_rows (passes operations n) (passed operations choices n) in
    let more : List Row = chosen_rows (having (suc n) operations) (choices_among operations choices (suc n)) in
    let rows : chosen_rows (passes operations n ++ having (suc n) operations) (passed operations choices n ++ choices_among operations choices (suc n)) ≡ first ++ more
    = rows-append (passes operations n) (having (suc n) operations) (passed operations choices n) (choices_among operations choices (suc n)) (length-passed operations choices n e) in
    let a : use_of (first ++ more) unit ≡ use_of first unit + use_of more unit = use_of-append first more unit in
    let h : use_of first unit ≡ use_up_to operations choices n unit = use-passed operations choices n unit e some in
    let b : use_up_to operations choices n unit + use_of more unit ≡ use_up_to operations choices (suc n) unit = use_up_to-more operations choices n unit e in
    ap (λ l. use_of l unit) rows ∙ (omega arith)

use-by_freedom : (operations : List (List (List Row))) (choices : List ℕ) (unit : ℕ) → length operations ≡ length choices → All AreAlternatives operations
    → use_of (chosen_rows (by_freedom operations) (by_freedom_too operations choices)) unit ≡ use_of (chosen_rows operations choices) unit
use-by_freedom operations choices unit e formed =
    ap (λ l. use_of (chosen_rows l (by_freedom_too operations choices)) unit) (sym (passes_all operations))
    ∙ ap (λ l. use_of (chosen_rows (passes operations 16) l) unit) (sym (passed_all operations choices))
    ∙ use-passed operations choices 16 unit e (λ k d h. (formed k d h).some)
    ∙ use_up_to-all operations choices unit (λ k d h. (formed k d h).few)

greatest_of-le : (f : Row → ℕ) (bound : ℕ) → ((r : Row) → f r ≤ bound) → (rows : List Row) → greatest_of (map f rows) ≤ bound
greatest_of-le f bound h [] = omega arith
greatest_of-le f bound h (r ∷ rows) =
    let rest : greatest_of (map f rows) ≤ bound = greatest_of-le f bound h rows in
    let here : f r ≤ bound = h r in
    omega arith

some-use : (all rows : List Row) (unit : ℕ) → 0 < use_of rows unit → use_of all unit ≤ greatest_of (map (λ (r : Row). use_of all r.unit) rows)
some-use all [] unit some = absurd (omega arith)
some-use all (r ∷ rows) unit some =
    let if_so : Bool → ℕ = λ b. cond b 1 0 in
    let a : use_of (r ∷ rows) unit ≡ if_so (eqb r.unit unit) + use_of rows unit = sum_by-cons (λ (s : Row). cond (eqb s.unit unit) 1 0) r rows in
    elim (cases_eq r.unit unit) [
      | inl e ↦ (let same : use_of all r.unit ≡ use_of all unit = ap (use_of all) e in omega arith)
      | inr ne ↦ (let none : if_so (eqb r.unit unit) ≡ 0 = ap if_so (ne_eqb r.unit unit ne) in
          let h : use_of all unit ≤ greatest_of (map (λ (s : Row). use_of all s.unit) rows) = some-use all rows unit (omega arith) in omega arith)
    ]

use-le-greatest : (rows : List Row) (unit : ℕ) → use_of rows unit ≤ greatest_use rows
use-le-greatest rows unit = elim (cases_lt 0 (use_of rows unit)) [
  | inl some ↦ some-use rows rows unit some
  | inr none ↦ omega arith
]

greatest-le : (rows others : List Row) → ((unit : ℕ) → use_of rows unit ≡ use_of others unit) → greatest_use rows ≤ greatest_use others
greatest-le rows others same = greatest_of-le (λ r. use_of rows r.unit) (greatest_use others)
    (λ r. let a : use_of rows r.unit ≡ use_of others r.unit = same r.unit in
    let b : use_of others r.unit ≤ greatest_use others = use-le-greatest others r.unit in omega arith) rows

pub fullest_is_bound : (operations : List (List (List Row))) (choices : List ℕ) → AreUnitChoices operations choices → All AreAlternatives operations
    → IsUnitBound operations (greatest_use (chosen_rows operations choices))
fullest_is_bound operations choices are formed =
    let same : (unit : ℕ) → use_of (chosen_rows (by_freedom operations) (by_freedom_too operations choices)) unit ≡ use_of (chosen_rows operations choices) unit
    = λ unit. use-by_freedom operations choices unit (sym are.each) formed in
    let up = greatest-le (chosen_rows operations choices) (chosen_rows (by_freedom operations) (by_freedom_too operations choices)) (λ unit. sym (same unit)) in
    let down = greatest-le (chosen_rows (by_freedom operations) (by_freedom_too operations choices)) (chosen_rows operations choices) same in
    record { choices = by_freedom_too operations choices; best = are.best; is_use = omega arith }
