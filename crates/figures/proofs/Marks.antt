-- The slots that operations take, one operation at a time.
use Rattle.std.proofs.Common.{◌≡◌, ℕ, suc, ◌+◌, ◌-◌, ◌<◌, Bool, cond, List, ◌∷◌, length, filter, sym, ap, ◌∙◌, subst, inl, inr, arith}
use Rattle.std.specs.Prelude.{slice_get}
use Rattle.std.specs.List.{range_with_len}
use Rattle.std.proofs.lemmas.Bool.{cases_Bool, cond-true, cond-false}
use Rattle.loop_schedules.specs.Schedules.{ScheduleData}
use Rattle.figures.specs.Slots.{takes_slot}
use Rattle.figures.specs.inner.Tables.{AreTakersFrom, place_of, taker_in}

-- one operation more, before the others
first-taker : (p : ℕ → Bool) (from m place old : ℕ) → old ≡ place_of (slice_get (filter p (range_with_len (from + 1) m)) 0) → place ≡ cond (p from) (from + 1) old
    → place ≡ place_of (slice_get (filter p (range_with_len from (suc m))) 0)
first-taker p from m place old was is =
    let rest : List ℕ = filter p (range_with_len (from + 1) m) in
    elim (cases_Bool (p from)) [
      | inl on ↦
          let next : from + 1 ≡ suc from = omega arith in
          is ∙ cond-true (p from) (from + 1) old on ∙ next ∙ sym (ap (λ (l : List ℕ). place_of (slice_get l 0)) (cond-true (p from) (from ∷ rest) rest on))
      | inr off ↦ is ∙ cond-false (p from) (from + 1) old off ∙ was ∙ sym (ap (λ (l : List ℕ). place_of (slice_get l 0)) (cond-false (p from) (from ∷ rest) rest off))
    ]

pub takers-more : (schedule : ScheduleData) (from : ℕ) (takers old : List ℕ) → from < length schedule.problem.operations → AreTakersFrom schedule (from + 1) old
    → ((unit row : ℕ) → unit < 64 → row < schedule.ii
    → taker_in takers unit row ≡ cond (takes_slot schedule unit row from) (from + 1) (taker_in old unit row))
    → AreTakersFrom schedule from takers
takers-more schedule from takers old within were marked = record {
  each = λ unit row few lt.
      let n : ℕ = length schedule.problem.operations in
      let p : ℕ → Bool = takes_slot schedule unit row in
      let e : suc (n - (from + 1)) ≡ n - from = omega arith in
      subst (λ m. taker_in takers unit row ≡ place_of (slice_get (filter p (range_with_len from m)) 0)) e
      (first-taker p from (n - (from + 1)) (taker_in takers unit row) (taker_in old unit row) (were.each unit row few lt) (marked unit row few lt));
}
