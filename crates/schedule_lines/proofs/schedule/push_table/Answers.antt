use Rattle.std.proofs.Common.{◌≡◌, ◌-◌, ℕ, List, ◌++◌, length, ap, ◌∙◌, arith}
use Rattle.std.proofs.lemmas.List.{length-map}
use Rattle.std.proofs.lemmas.Result.{on_ok_weaker}
use Rattle.figures.specs.Slots.{used_units}
use Rattle.schedule_lines.specs.ScheduleTexts.{grid_text, idle_line, use_line}
use Rattle.schedule_lines.specs.inner.Grids.{column_of}
use Rattle.schedule_lines.proofs.Joined.{joined}
use Rattle.schedule_lines.proofs.Lines.{units-few}
use Rattle.schedule_lines.proofs.schedule.push_table.Goals as goal

pub overflow_sub-idle : goal.overflow_sub-idle
overflow_sub-idle c =
    let machine = c.args.machine.now in
    let grid = c.args.grid.now in
    let columns = ap length c.requires.columns ∙ length-map (used_units machine grid.slots) (column_of machine grid.slots) in
    let few = units-few machine grid.slots in
    let all = ap length c.units.ensures.value in
    omega (arith, grid.columns.ok.0)

pub returns : goal.returns
returns c =
    let machine = c.args.machine.now in
    let grid = c.args.grid.now in
    let old : List ℕ = c.args.text.now.items in
    let rows : List ℕ = grid_text machine grid.slots in
    let uses : List ℕ = use_line machine grid.slots in
    let columns = ap length c.requires.columns ∙ length-map (used_units machine grid.slots) (column_of machine grid.slots) in
    let all = ap length c.units.ensures.value in
    let idle : length c.units.result.now - c.len.result ≡ length machine.units - length (used_units machine grid.slots) = omega (arith, grid.columns.ok.0, c.len.ensures) in
    record {
      ok = on_ok_weaker c.push_idle.result
          (λ e. joined old rows uses (idle_line (length c.units.result.now - c.len.result)) c.push_grid.new.text.items c.push_use.new.text.items c.push_idle.new.text.items
          c.in_ok-push_grid.ensures.ok c.in_ok-push_use.ensures.ok e
          ∙ ap (λ n. old ++ (rows ++ (uses ++ idle_line n))) idle)
          c.push_idle.ensures.ok;
    }
