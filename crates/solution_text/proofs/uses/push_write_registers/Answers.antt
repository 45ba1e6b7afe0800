use Rattle.std.proofs.Common.{◌≡◌, ℕ, ◌+◌, ◌++◌, ◌<◌, ◌≤◌, Option, ap, sym, ◌∙◌, arith, length, slice_index, subst}
use Rattle.std.proofs.lemmas.List.{length-map}
use Rattle.instances.specs.Runs.{home_of}
use Rattle.schedules.specs.Schedules.{stage_of}
use Rattle.problems.specs.declared.draft.Draft.{Draft}
use Rattle.problems.specs.declared.draft.Value.{Value}
use Rattle.problems.specs.Problems.{ProblemData}
use Rattle.solutions.specs.Runs.{run_of}
use Rattle.solutions.specs.Solutions.{schedule_of}
use Rattle.solution_text.specs.declared.named.Register.{Register}
use Rattle.solution_text.specs.Registers.{destination_of, register_after, spaced_register}
use Rattle.solution_text.specs.inner.Chains.{IsNext, makers_of}
use Rattle.solution_text.proofs.Owned.{maker-is, writes-begin, writes-more}
use Rattle.solution_text.proofs.uses.push_write_registers.Goals as goal

pub loop-value-init : goal.loop-value-init
loop-value-init c =
    let s = c.args.solution.now in
    let values = s.problem.draft.values.items in
    let same : c.as_slice-values.result.now ≡ values
    = c.as_slice-values.ensures.value ∙ ap (λ (d : Draft). d.values.items) (c.draft-draft.ensures.value ∙ ap (λ (p : ProblemData). p.draft) c.problem.ensures.value) in
    let long : length c.as_slice-values.result.now ≡ length values = ap length same in
    let each = c.requires.each in
    let first : IsNext (makers_of values) c.args.op 0 c.first-value.result
    = subst (IsNext (makers_of values) c.args.op 0) (sym c.first-value.ensures) (c.requires.chained.first c.args.op (omega arith)) in
    let high : c.first-value.result ≤ length (makers_of values) = first.high in
    let count : length (makers_of values) ≡ length values = length-map values (λ (v : Value). v.maker) in
    record {
      within = omega arith;
      own = λ lt. first.here (omega arith);
      pushed = writes-begin s c.args.op c.first-value.result c.args.text.now.items first;
    }

pub next-value-requires : goal.next-value-requires
next-value-requires c =
    let s = c.args.solution.now in
    let values = s.problem.draft.values.items in
    let same : c.as_slice-values.result.now ≡ values
    = c.as_slice-values.ensures.value ∙ ap (λ (d : Draft). d.values.items) (c.draft-draft.ensures.value ∙ ap (λ (p : ProblemData). p.draft) c.problem.ensures.value) in
    let long : length c.as_slice-values.result.now ≡ length values = ap length same in
    let each : length c.args.of_makers.nexts.now ≡ length (makers_of values) = c.requires.chained.each in
    let count : length (makers_of values) ≡ length values = length-map values (λ (v : Value). v.maker) in
    let lt : c.loop-value.value < length c.as_slice-values.result.now = c.loop-value-test.true in
    omega arith

pub loop-value-preserved : goal.loop-value-preserved
loop-value-preserved c =
    let s = c.args.solution.now in
    let values = s.problem.draft.values.items in
    let value : ℕ = c.loop-value.value in
    let op : ℕ = c.args.op in
    let drafts : c.draft-draft.result.now ≡ s.problem.draft = c.draft-draft.ensures.value ∙ ap (λ (p : ProblemData). p.draft) c.problem.ensures.value in
    let same : c.as_slice-values.result.now ≡ values = c.as_slice-values.ensures.value ∙ ap (λ (d : Draft). d.values.items) drafts in
    let long : length c.as_slice-values.result.now ≡ length values = ap length same in
    let count : length (makers_of values) ≡ length values = length-map values (λ (v : Value). v.maker) in
    let lt : value < length c.as_slice-values.result.now = c.loop-value-test.true in
    let own : slice_index (makers_of values) value ≡ op = c.loop-value.invariant.own lt in
    let next : IsNext (makers_of values) op (value + 1) c.next-value.result
    = subst (IsNext (makers_of values) op (value + 1)) (sym c.next-value.ensures)
    (subst (λ o. IsNext (makers_of values) o (value + 1) (slice_index c.args.of_makers.nexts.now value)) own (c.requires.chained.next value (omega arith) (omega arith))) in
    let high : c.next-value.result ≤ length (makers_of values) = next.high in
    let register : c.register_after.result ≡ destination_of s value
    = c.register_after.ensures ∙ ap (λ above. register_after (home_of (run_of s) value) above)
    (c.stage_of-stage.ensures.value ∙ ap (λ o. stage_of (schedule_of s) o) (sym (maker-is s value ∙ own))) in
    let pushed : c.push_spaced.new.text.items ≡ c.loop-value.text.items ++ spaced_register s.problem.draft (destination_of s value)
    = c.in_ok-push_spaced.ensures.ok ∙ ap (λ (d : Draft). c.loop-value.text.items ++ spaced_register d c.register_after.result) drafts
    ∙ ap (λ (r : Option Register). c.loop-value.text.items ++ spaced_register s.problem.draft r) register in
    record {
      within = omega arith;
      own = λ more. next.here (omega arith);
      pushed = writes-more s op value c.next-value.result c.args.text.now.items c.loop-value.text.items c.push_spaced.new.text.items own c.loop-value.invariant.pushed pushed next;
    }

pub loop-value-smaller : goal.loop-value-smaller
loop-value-smaller c =
    let s = c.args.solution.now in
    let values = s.problem.draft.values.items in
    let same : c.as_slice-values.result.now ≡ values
    = c.as_slice-values.ensures.value ∙ ap (λ (d : Draft). d.values.items) (c.draft-draft.ensures.value ∙ ap (λ (p : ProblemData). p.draft) c.problem.ensures.value) in
    let long : length c.as_slice-values.result.now ≡ length values = ap length same in
    let count : length (makers_of values) ≡ length values = length-map values (λ (v : Value). v.maker) in
    let lt : c.loop-value.value < length c.as_slice-values.result.now = c.loop-value-test.true in
    let next : IsNext (makers_of values) (slice_index (makers_of values) c.loop-value.value) (c.loop-value.value + 1) (slice_index c.args.of_makers.nexts.now c.loop-value.value)
    = c.requires.chained.next c.loop-value.value (omega arith) (omega arith) in
    let low : c.loop-value.value + 1 ≤ slice_index c.args.of_makers.nexts.now c.loop-value.value = next.low in
    let e : c.next-value.result ≡ slice_index c.args.of_makers.nexts.now c.loop-value.value = c.next-value.ensures in
    omega arith
