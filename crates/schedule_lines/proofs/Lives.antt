-- The operations that give values are operations of the loop.
use Rattle.std.proofs.Common.{ℕ, ◌+◌, ◌<◌, List, [], ◌∷◌, length, sym, subst, inl, inr, arith}
use Rattle.std.specs.Prelude.{is_some}
use Rattle.std.specs.List.{All}
use Rattle.std.proofs.lemmas.Bool.{cases_Bool, cond-true, cond-false}
use Rattle.std.proofs.lemmas.List.Elements.{All-nil, All-cons, All-map}
use Rattle.loop_data.specs.declared.language.statement.Statement.{Statement}
use Rattle.loop_schedules.specs.Schedules.{ScheduleData}
use Rattle.registers.specs.declared.lifetime.Lifetime.{Lifetime}
use Rattle.overlap.specs.Lifetimes.{lifetime_of, lifetimes_of, values_from, values_of}

values-within : (n : ℕ) (statements : List Statement) → All (λ value. value < n + length statements) (values_from n statements)
values-within n [] = All-nil (λ value. value < n + 0)
values-within n (s ∷ statements) =
    let rest : List ℕ = values_from (n + 1) statements in
    let P : ℕ → Type 0 = λ value. value < n + length (s ∷ statements) in
    let after : All P rest = λ k d lt. let h = values-within (n + 1) statements k d lt in omega arith in
    elim (cases_Bool (is_some s.name)) [
      | inl on ↦ subst (All P) (sym (cond-true (is_some s.name) (n ∷ rest) rest on)) (All-cons P n rest (omega arith) after)
      | inr off ↦ subst (All P) (sym (cond-false (is_some s.name) (n ∷ rest) rest off)) after
    ]

pub lives-within : (schedule : ScheduleData) → All (λ (life : Lifetime). life.operation < length schedule.problem.loop.statements) (lifetimes_of schedule)
unfolding lifetimes_of
lives-within schedule =
    All-map (λ (life : Lifetime). life.operation < length schedule.problem.loop.statements) (lifetime_of schedule) (values_of schedule.problem.loop)
    (λ k d lt. let h = values-within 0 schedule.problem.loop.statements k d lt in omega arith)
