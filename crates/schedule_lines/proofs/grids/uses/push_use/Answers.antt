use Rattle.std.proofs.Common.{◌++◌, ℕ, List, ap, ◌∙◌}
use Rattle.std.specs.Prelude.{codes}
use Rattle.std.proofs.lemmas.Result.{on_ok_weaker}
use Rattle.schedule_lines.specs.declared.grids.columns.Column.{Column}
use Rattle.schedule_lines.specs.ScheduleTexts.{use_text}
use Rattle.schedule_lines.specs.inner.Grids.{uses_in}
use Rattle.schedule_lines.proofs.Joined.{joined}
use Rattle.schedule_lines.proofs.Lines.{in-columns}
use Rattle.schedule_lines.proofs.grids.uses.push_use.Goals as goal

pub returns : goal.returns
returns c =
    let machine = c.args.machine.now in
    let grid = c.args.grid.now in
    let old : List ℕ = c.args.text.now.items in
    let told : List ℕ = uses_in machine c.takers.result.now c.as_slice.result.now in
    let same = in-columns (λ (column : Column). use_text machine grid.slots column.unit) machine grid.slots grid.columns.items c.requires.columns in
    record {
      ok = on_ok_weaker c.push_piece-2.result
          (λ e. joined old (codes "use") told (codes "\n") c.push_piece.new.self.items c.push_percents.new.text.items c.push_piece-2.new.self.items
          c.in_ok-push_piece.ensures.ok c.in_ok-push_percents.ensures.ok e
          ∙ ap (λ t. old ++ (codes "use" ++ (t ++ codes "\n"))) (ap (uses_in machine c.takers.result.now) c.as_slice.ensures.value ∙ ap (λ s. uses_in machine s grid.columns.items) c.takers.ensures ∙ same))
          c.push_piece-2.ensures.ok;
    }
