use Rattle.std.proofs.Common.{◌≡◌, sym, subst}
use Rattle.std.specs.Prelude.{MatchBool, MatchOption}
use Rattle.ims.specs.Attempts.{AnswersAttempt}
use Rattle.loop_schedules.specs.Problems.{budget_of}
use Rattle.ims.specs.declared.outcome.attempts.Try.{Try}
use Rattle.overlap.specs.Allotments.{LeastFor, NoneFor}
use Rattle.variants.specs.inner.Tries.{IsFailing, IsGiving, with_registers}
use Rattle.variants.proofs.Giving.{placed-gives}
use Rattle.variants.proofs.search.tries.gives.Goals as goal

pub returns-in_ok-found-in-Placed : goal.returns-in_ok-found-in-Placed
returns-in_ok-found-in-Placed c = λ p ii h.
    let r = c.args.registers in
    let s = c.in-Placed.schedule in
    let found = c.in_ok-found-in-Placed.found in
    subst (λ b. MatchBool b (IsGiving (with_registers r p) ii) (IsFailing (with_registers r p) ii)) (sym c.is_some.ensures)
    (placed-gives p ii r s found c.requires.some c.requires.few (subst (λ (t : Try). AnswersAttempt p ii (budget_of p) t) c.in-Placed.is h)
    (subst (λ n. MatchOption found (NoneFor s n) (λ a. (a.registers ≡ n) × LeastFor s a)) c.from-count.ensures c.in_ok-found-in-Placed.ensures.exact))
