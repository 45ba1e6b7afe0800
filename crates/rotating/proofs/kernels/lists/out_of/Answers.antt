use Rattle.std.proofs.Common.{◌≡◌, ◌<◌, ◌+◌, ◌-◌, ◌%◌, ap, ◌∙◌, arith}
use Rattle.loop_data.specs.Loops.{LoopData}
use Rattle.loop_schedules.specs.Problems.{ProblemData}
use Rattle.loop_schedules.specs.Schedules.{stages_of}
use Rattle.overlap.specs.Allotments.{allotted_number}
use Rattle.overlap.specs.Emission.{name_of, name_of_value}
use Rattle.loop_data.proofs.Instances.{slice_get-within}
use Rattle.rotating.proofs.emitted.Ranks.{number-below}
use Rattle.rotating.proofs.kernels.lists.out_of.Goals as goal

pub register_name-requires-clause-number : goal.register_name-requires-clause-number
register_name-requires-clause-number c =
    let loop = c.args.schedule.now.problem.loop in
    let n = c.requires.numbers.each c.args.value (slice_get-within loop.statements c.args.value c.requires.value.0 c.requires.value.1) in
    let b : allotted_number loop c.args.allotment.now c.args.value < c.args.allotment.now.registers = number-below c.args.allotment.now c.registers.ensures.well_formed _ in
    let r = c.registers.ensures.value in
    omega arith

pub returns : goal.returns
returns c =
    let s = c.args.schedule.now in
    let a = c.args.allotment.now in
    let loop = s.problem.loop in
    let v = c.args.value in
    let n = c.requires.numbers.each v (slice_get-within loop.statements v c.requires.value.0 c.requires.value.1) in
    let name : c.value_name.result ≡ name_of_value loop v = c.value_name.ensures ∙ ap (λ (l : LoopData). name_of_value l v) (c.innermost.ensures.value ∙ ap (λ (p : ProblemData). p.loop) c.prepared.ensures.value) in
    let register : c.register_name.result ≡ name_of s a v 0 (stages_of s - 1)
    = c.register_name.ensures.value ∙ ap (λ m. (m + 0 + (c.stages-last.result - 1)) % c.registers.result) n
    ∙ ap (λ k. (allotted_number loop a v + 0 + (k - 1)) % c.registers.result) c.stages-last.ensures.value
    ∙ ap (λ r. (allotted_number loop a v + 0 + (stages_of s - 1)) % r) c.registers.ensures.value in
    ap (λ n. record { name = n; register = c.register_name.result }) name ∙ ap (λ r. record { name = name_of_value loop v; register = r }) register
