-- The set that leads, among the first of a list and among all.
use Rattle.std.proofs.Common.{◌≡◌, ℕ, ◌+◌, ◌<◌, ◌≤◌, List, [], length, get_or, sym, ◌∙◌, subst, arith, bit_or, inl, inr}
use Rattle.std.proofs.lemmas.Bool.{cases_lt}
use Rattle.std.proofs.lemmas.List.{get_or_default}
use Rattle.std.proofs.lemmas.List.Elements.{Contains-get_or}
use Rattle.std.specs.List.{Contains}
use Rattle.machine_data.specs.declared.alternative.Row.{Row}
use Rattle.unit_sets.specs.Fullest.{IsFullestWith, Leads, fill_of, first_sets, units_in}
use Rattle.unit_sets.specs.inner.Added.{IsAdded}

pub leads-self : (operations : List (List (List Row))) (set : ℕ) → Leads operations set set
leads-self operations set = record { full = omega arith; small = λ _. omega arith; first = λ _ _. omega arith }

pub leads-through : (operations : List (List (List Row))) (a b c : ℕ) → Leads operations a b → Leads operations b c → Leads operations a c
leads-through operations a b c h k = record {
  full = omega (arith, h.full, k.full);
  small = λ e.
      let p : fill_of operations b ≡ fill_of operations a = omega (arith, h.full, k.full) in
      let q : fill_of operations c ≡ fill_of operations b = omega (arith, h.full, k.full) in
      omega (arith, h.small p, k.small q);
  first = λ e s.
      let p : fill_of operations b ≡ fill_of operations a = omega (arith, h.full, k.full) in
      let q : fill_of operations c ≡ fill_of operations b = omega (arith, h.full, k.full) in
      let m : length (units_in a) ≡ length (units_in b) = omega (arith, h.small p, k.small q) in
      let n : length (units_in b) ≡ length (units_in c) = omega (arith, h.small p, k.small q) in
      omega (arith, h.first p m, k.first q n);
}

-- of the unions with the first n of some sets the one that leads
pub record IsBest (operations : List (List (List Row))) (sets : List ℕ) (before n best : ℕ) : Type 0 where
  pub place : ℕ
  pub within : place < n
  pub is_union : best ≡ bit_or before (get_or sets place 0)
  pub leads : (k : ℕ) → k < n → Leads operations best (bit_or before (get_or sets k 0))

pub best-one : (operations : List (List (List Row))) (sets : List ℕ) (before best : ℕ) → best ≡ bit_or before (get_or sets 0 0) → IsBest operations sets before 1 best
best-one operations sets before best e = record {
  place = 0;
  within = omega arith;
  is_union = e;
  leads = λ k h. let z : k ≡ 0 = omega arith in subst (λ j. Leads operations best (bit_or before (get_or sets j 0))) (sym z) (subst (λ s. Leads operations best s) e (leads-self operations best));
}

pub best-next : (operations : List (List (List Row))) (sets : List ℕ) (before n best next : ℕ) → IsBest operations sets before n best → next ≡ bit_or before (get_or sets n 0)
    → Leads operations next best → IsBest operations sets before (n + 1) next
best-next operations sets before n best next h e leads = record {
  place = n;
  within = omega arith;
  is_union = e;
  leads = λ k l. elim (cases_lt k n) [
    | inl below ↦ leads-through operations next best (bit_or before (get_or sets k 0)) leads (h.leads k below)
    | inr above ↦ (let z : k ≡ n = omega arith in subst (λ j. Leads operations next (bit_or before (get_or sets j 0))) (sym z) (subst (λ s. Leads operations next s) e (leads-self operations next)))
  ];
}

pub best-stays : (operations : List (List (List Row))) (sets : List ℕ) (before n best next : ℕ) → IsBest operations sets before n best → next ≡ bit_or before (get_or sets n 0)
    → Leads operations best next → IsBest operations sets before (n + 1) best
best-stays operations sets before n best next h e leads = record {
  place = h.place;
  within = omega (arith, h.within);
  is_union = h.is_union;
  leads = λ k l. elim (cases_lt k n) [
    | inl below ↦ h.leads k below
    | inr above ↦ (let z : k ≡ n = omega arith in subst (λ j. Leads operations best (bit_or before (get_or sets j 0))) (sym z) (subst (λ s. Leads operations best s) e leads))
  ];
}

pub best-of_all : (operations : List (List (List Row))) (sets : List ℕ) (before n best : ℕ) → length sets ≤ n → n ≤ length sets → IsAdded [] (first_sets operations) sets
    → IsBest operations sets before n best → IsFullestWith operations before best
best-of_all operations sets before n best past end added h = record {
  added = get_or sets h.place 0;
  is_first = elim (added.only (get_or sets h.place 0) (Contains-get_or sets h.place 0 (omega (arith, h.within)))) [
    | inl none ↦ absurd (omega (arith, none.1))
    | inr there ↦ there
  ];
  is_union = h.is_union;
  leads = λ other there.
      let at : Contains sets other = added.there other there in
      subst (λ s. Leads operations best (bit_or before s)) (get_or_default sets at.0 0 other at.1 ∙ at.2) (h.leads at.0 (omega (arith, at.1)));
}
