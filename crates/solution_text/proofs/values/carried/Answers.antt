use Rattle.std.proofs.Common.{◌≤◌, ◌∙◌, ap, arith}
use Rattle.problems.specs.Problems.{ProblemData}
use Rattle.solution_text.proofs.Carrying.{carried-few, of_other-more, of_value-more}
use Rattle.solution_text.proofs.values.carried.Goals as goal
use Rattle.solution_text.proofs.values.carried.Goals.{then-index, else-index, then-read-value, else-read-value}

pub loop-read-preserved : goal.loop-read-preserved
loop-read-preserved c =
    elim c.if-read-value.branch [
      | then-read-value w ↦
          of_value-more c.deref-read-items.result.now c.loop-read.read-index c.args.value c.loop-read.iterations c.if-read-value.iterations c.if-index.iterations
          (record { value = 0; reader = 0; distance = 0; offset = 0 })
          c.loop-read-test.true c.loop-read.invariant w.if-read-value.true (w.iterations-is ∙ w.max-iterations.ensures)
      | else-read-value w ↦
          of_other-more c.deref-read-items.result.now c.loop-read.read-index c.args.value c.loop-read.iterations c.if-read-value.iterations c.if-index.iterations
          (record { value = 0; reader = 0; distance = 0; offset = 0 })
          c.loop-read-test.true c.loop-read.invariant w.if-read-value.false w.iterations-is
    ]

pub returns-clause-few : goal.returns-clause-few
returns-clause-few c =
    let first : c.if-index.iterations ≤ 1 = elim c.if-index.branch [ then-index w ↦ omega (arith, w.iterations-is) | else-index w ↦ omega (arith, w.iterations-is) ] in
    carried-few c.args.solution.now c.draft-draft.result.now c.deref-read-items.result.now c.loop-read.read-index c.args.value c.loop-read.iterations c.if-index.iterations
    c.problem.ensures.well_formed (c.draft-draft.ensures.value ∙ ap (λ (p : ProblemData). p.draft) c.problem.ensures.value) c.deref-read-items.ensures.value c.loop-read.invariant first
