use Rattle.std.proofs.Common.{◌≡◌, ℕ, List, ◌++◌, ap, ◌∙◌}
use Rattle.machine_data.specs.declared.alternative.Row.{Row}
use Rattle.unit_bound.specs.Units.{use_of}
use Rattle.schedules.specs.Problems.{ProblemData as SchedulingData}
use Rattle.resource_bound.specs.Choices.{rows_at}
use Rattle.problems.specs.declared.draft.Draft.{Draft}
use Rattle.lower_bounds.proofs.Texts.{numbered-more}
use Rattle.problem_reasons.specs.Units.{user_text}
use Rattle.problem_reasons.proofs.units.push_users.Goals as goal

pub loop-op-preserved : goal.loop-op-preserved
loop-op-preserved c =
    let p = c.args.problem.now in
    let op = c.loop-op.op in
    let before : List ℕ = c.loop-op.text.items in
    let operations : c.alternatives-operations.result.now ≡ p.scheduling.operations
    = c.alternatives-operations.ensures.value ∙ ap (λ (s : SchedulingData). s.operations) c.scheduling.ensures.value in
    let uses : c.rows_with-uses.result ≡ use_of (rows_at p.scheduling.operations c.args.choices.now op) c.args.unit
    = c.rows_with-uses.ensures.value ∙ ap (λ (rows : List Row). use_of rows c.args.unit) c.rows_at.ensures.value
    ∙ ap (λ (all : List (List (List Row))). use_of (rows_at all c.args.choices.now op) c.args.unit) operations in
    numbered-more (λ n. user_text p.draft n (use_of (rows_at p.scheduling.operations c.args.choices.now n) c.args.unit)) c.args.text.now.items before c.push_user.new.text.items op
    c.loop-op.invariant
    (c.in_ok-push_user.ensures.ok ∙ ap (λ (d : Draft). before ++ user_text d op c.rows_with-uses.result) c.draft.ensures.value ∙ ap (λ (n : ℕ). before ++ user_text p.draft op n) uses)
