use Rattle.std.proofs.Common.{◌<◌, ◌≤◌, ◌+◌, ◌∙◌, sym, subst, length, arith, slice_index_or}
use Rattle.problem_reader.specs.Files.{nothing}
use Rattle.problem_printouts.specs.inner.Asked.{Answering, Asked}
use Rattle.problem_printouts.specs.inner.Sofar.{IsOneMore}
use Rattle.problem_printouts.proofs.Answered.{IsSofar, answered-few, answered-more}
use Rattle.problem_printouts.proofs.walk.push_all.Goals as goal

pub counted-met-requires : goal.counted-met-requires
counted-met-requires g c =
    let asked = g.T.Teller.asked c.args.teller.now in
    let at = c.loop-number in
    let low = c.loop-number-test.true in
    let all = c.problems-number-end.ensures in
    let below : at.number ≤ length asked.file.problems = omega (arith, low, all) in
    let few = answered-few (Answering asked) asked.file.problems c.args.text.now.items at.text.items at.number at.met below at.invariant.answered in
    omega (arith, few, low)

pub loop-number-preserved : goal.loop-number-preserved
loop-number-preserved g c =
    let asked = g.T.Teller.asked c.args.teller.now in
    let at = c.loop-number in
    let low = c.loop-number-test.true in
    let all = c.problems-number-end.ensures in
    let below : at.number < length asked.file.problems = omega (arith, low, all) in
    let one = subst (λ (a : Asked). IsOneMore (Answering a (slice_index_or a.file.problems at.number nothing)) at.text.items c.push.new.text.items c.in_ok-push.field-0) at.invariant.same c.in_ok-push.ensures.told in
    record {
      ready = c.in_ok-push.ensures.ready;
      same = c.in_ok-push.ensures.same ∙ at.invariant.same;
      answered = subst (IsSofar (Answering asked) asked.file.problems c.args.text.now.items (at.number + 1) c.push.new.text.items) (sym c.counted-met.ensures)
          (answered-more (Answering asked) asked.file.problems c.args.text.now.items at.text.items c.push.new.text.items at.number at.met c.in_ok-push.field-0 below at.invariant.answered one);
    }
