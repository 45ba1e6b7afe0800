use Rattle.std.proofs.Common.{◌≡◌, ◌<◌, length, get_or, sym, ap, ◌∙◌, subst}
use Rattle.std.specs.List.{All}
use Rattle.loop_data.specs.Loops.{LoopData}
use Rattle.lower_bounds.proofs.Texts.{numbered-more}
use Rattle.loop_schedules.specs.Problems.{ProblemData}
use Rattle.registers.specs.declared.lifetime.Lifetime.{Lifetime}
use Rattle.rotating.specs.Crowds.{nobody}
use Rattle.schedule_lines.specs.ScheduleTexts.{value_line}
use Rattle.schedule_lines.proofs.Lives.{lives-within}
use Rattle.schedule_lines.proofs.values.push_values.Goals as goal

pub push_value-requires : goal.push_value-requires
push_value-requires c =
    let schedule = c.args.schedule.now in
    let same : c.innermost-innermost.result.now ≡ schedule.problem.loop
    = c.innermost-innermost.ensures.value ∙ ap (λ (p : ProblemData). p.loop) c.prepared.ensures.value in
    let all : All (λ (life : Lifetime). life.operation < length schedule.problem.loop.statements) c.args.lives.now
    = subst (All (λ (life : Lifetime). life.operation < length schedule.problem.loop.statements)) (sym c.requires.lives) (lives-within schedule) in
    subst (λ (loop : LoopData). (get_or c.args.lives.now c.loop-k.k nobody).operation < length loop.statements) (sym same) (all c.loop-k.k nobody c.loop-k-test.true)

pub loop-k-preserved : goal.loop-k-preserved
loop-k-preserved c =
    numbered-more (λ i. value_line c.innermost-innermost.result.now (get_or c.args.lives.now i nobody) (get_or c.args.numbers.now i 0)) c.args.text.now.items c.loop-k.text.items
    c.push_value.new.text.items c.loop-k.k c.loop-k.invariant c.in_ok-push_value.ensures.ok
