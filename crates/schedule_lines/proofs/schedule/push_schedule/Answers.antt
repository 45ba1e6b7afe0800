use Rattle.std.proofs.Common.{◌≡◌, ◌-◌, ℕ, List, ◌++◌, ap, ◌∙◌}
use Rattle.loop_data.specs.Loops.{LoopData}
use Rattle.machine_data.specs.Machines.{MachineData}
use Rattle.loop_schedules.specs.Schedules.{ScheduleData, stages_of}
use Rattle.registers.specs.declared.lifetime.Lifetime.{Lifetime}
use Rattle.overlap.specs.Allotments.{AllotmentData}
use Rattle.overlap.specs.Lifetimes.{lifetimes_of}
use Rattle.figures.specs.declared.figures.Figures.{Figures}
use Rattle.schedule_lines.specs.ScheduleTexts.{iteration_line, need_line, op_lines, schedule_text, turns_line, value_lines}
use Rattle.schedule_lines.specs.inner.Grids.{table_text}
use Rattle.schedule_lines.proofs.Joined.{regrouped}
use Rattle.schedule_lines.proofs.schedule.push_schedule.Goals as goal

text-is : (machine : MachineData) (schedule : ScheduleData) (allotment : AllotmentData) (figures : Figures) (old one two three four : List ℕ) (lives : List Lifetime) (numbers : List ℕ)
    → lives ≡ lifetimes_of schedule → numbers ≡ allotment.numbers
    → one ≡ old ++ (iteration_line figures.cycles ++ (turns_line (stages_of schedule - 1) ++ op_lines machine schedule figures.slacks.items))
    → two ≡ one ++ value_lines schedule.problem.loop lives numbers → three ≡ two ++ need_line figures.need
    → four ≡ three ++ table_text machine schedule
    → four ≡ old ++ schedule_text machine schedule allotment figures
unfolding schedule_text
text-is machine schedule allotment figures old one two three four lives numbers l n p q r s =
    let loop : LoopData = schedule.problem.loop in
    let iteration : List ℕ = iteration_line figures.cycles in
    let turns : List ℕ = turns_line (stages_of schedule - 1) in
    let operations : List ℕ = op_lines machine schedule figures.slacks.items in
    let values : List ℕ = value_lines loop lives numbers in
    let need : List ℕ = need_line figures.need in
    let table : List ℕ = table_text machine schedule in
    let same : values ≡ value_lines loop (lifetimes_of schedule) allotment.numbers
    = ap (λ (ls : List Lifetime). value_lines loop ls numbers) l ∙ ap (value_lines loop (lifetimes_of schedule)) n in
    s ∙ ap (λ t. t ++ table) (r ∙ ap (λ t. t ++ need) (q ∙ ap (λ t. t ++ values) p))
    ∙ regrouped old iteration turns operations values need table
    ∙ ap (λ t. old ++ (iteration ++ (turns ++ (operations ++ (t ++ (need ++ table)))))) same

pub returns : goal.returns
returns c = record {
  ok = text-is c.args.machine.now c.args.schedule.now c.args.allotment.now c.args.figures.now c.args.text.now.items
      c.push_start.new.text.items c.push_values.new.text.items c.push_need_line.new.text.items c.push_table.new.text.items
      c.as_slice-listed.result.now c.numbers.result.now
      (c.as_slice-listed.ensures.value ∙ c.in_ok-lives.ensures.exact) c.numbers.ensures.value
      c.in_ok-push_start.ensures.ok c.in_ok-push_values.ensures.ok c.in_ok-push_need_line.ensures.ok (c.in_ok-push_table.ensures.ok ∙ ap (λ s. c.push_need_line.new.text.items ++ table_text c.args.machine.now s) c.in_ok-grid.ensures.schedule);
}
