use Rattle.std.proofs.Common.{◌-◌, ℕ, List, ◌++◌, ap, ◌∙◌}
use Rattle.std.proofs.lemmas.Result.{on_ok_weaker}
use Rattle.loop_schedules.specs.Schedules.{stages_of}
use Rattle.schedule_lines.specs.ScheduleTexts.{iteration_line, op_lines, turns_line}
use Rattle.schedule_lines.proofs.Joined.{joined}
use Rattle.schedule_lines.proofs.schedule.push_start.Goals as goal

pub returns : goal.returns
returns c =
    let machine = c.args.machine.now in
    let schedule = c.args.schedule.now in
    let old : List ℕ = c.args.text.now.items in
    let iteration : List ℕ = iteration_line c.args.figures.now.cycles in
    let slacks : List ℕ = c.as_slice.result.now in
    record {
      ok = on_ok_weaker c.push_operations.result
          (λ e. joined old iteration (turns_line (c.stages.result - 1)) (op_lines machine schedule slacks)
          c.push_iteration.new.text.items c.push_turns.new.text.items c.push_operations.new.text.items
          c.in_ok-push_iteration.ensures.ok c.in_ok-push_turns.ensures.ok e
          ∙ ap (λ n. old ++ (iteration ++ (turns_line (n - 1) ++ op_lines machine schedule slacks))) c.stages.ensures.value
          ∙ ap (λ xs. old ++ (iteration ++ (turns_line (stages_of schedule - 1) ++ op_lines machine schedule xs))) c.as_slice.ensures.value)
          c.push_operations.ensures.ok;
    }
