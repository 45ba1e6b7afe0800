use Rattle.std.proofs.Common.{◌≡◌, ℕ, ◌++◌, length, Option, ap, ◌∙◌, arith}
use Rattle.std.specs.Prelude.{slice_index, unwrap_or}
use Rattle.std.specs.List.{flat_map, range_with_len}
use Rattle.lower_bounds.proofs.Texts.{numbered-more}
use Rattle.loop_schedules.specs.Problems.{ProblemData}
use Rattle.schedule_lines.specs.ScheduleTexts.{op_line}
use Rattle.schedule_lines.proofs.operations.push_operations.Goals as goal

pub loop-op-preserved : goal.loop-op-preserved
loop-op-preserved c =
    let machine = c.args.machine.now in
    let schedule = c.args.schedule.now in
    let slacks = c.args.slacks.now in
    let op : ℕ = c.loop-op.op in
    let slack : c.unwrap_or-slack.result ≡ slice_index slacks op
    = c.unwrap_or-slack.ensures ∙ ap (λ (o : Option ℕ). unwrap_or o 0) c.copied.ensures ∙ c.get.ensures.lookup.4 (omega arith) 0 in
    numbered-more (λ i. op_line machine schedule (slice_index slacks i) i) c.args.text.now.items c.loop-op.text.items c.push_operation.new.text.items op c.loop-op.invariant
    (c.in_ok-push_operation.ensures.ok ∙ ap (λ n. c.loop-op.text.items ++ op_line machine schedule n op) slack)

pub returns : goal.returns
returns c =
    let machine = c.args.machine.now in
    let schedule = c.args.schedule.now in
    let slacks = c.args.slacks.now in
    let all : c.operations-op-end.result ≡ length schedule.problem.operations
    = c.operations-op-end.ensures.value ∙ ap (λ (p : ProblemData). length p.operations) c.prepared.ensures.value in
    let e : c.loop-op.op ≡ length schedule.problem.operations = omega (arith, c.loop-op-test.false) in
    record { ok = c.loop-op.invariant ∙ ap (λ n. c.args.text.now.items ++ flat_map (λ i. op_line machine schedule (slice_index slacks i) i) (range_with_len 0 n)) e }
