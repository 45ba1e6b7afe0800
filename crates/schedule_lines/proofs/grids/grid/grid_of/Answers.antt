use Rattle.std.proofs.Common.{◌∷◌, ℕ, List, map, sym, ap, ◌∙◌}
use Rattle.std.specs.Prelude.{codes, decimal}
use Rattle.std.specs.List.{range_with_len}
use Rattle.unit_bound.specs.Units.{greatest_of}
use Rattle.loop_schedules.specs.Schedules.{ScheduleData}
use Rattle.figures.specs.LiveCounts.{live_counts}
use Rattle.schedule_lines.specs.Columns.{live_width, row_width, width_of}
use Rattle.schedule_lines.proofs.grids.grid.grid_of.Goals as goal

pub returns : goal.returns
unfolding live_width row_width
returns c =
    let same = sym c.in_ok-slots.ensures in
    let counts = c.in_ok-counts.ensures ∙ ap live_counts same in
    let listed = c.as_slice-listed.ensures.value ∙ counts in
    record {
      grid = record {
        columns = c.in_ok-columns.ensures.columns;
        few = c.in_ok-columns.ensures.few;
        counts = counts;
        greatest = c.greatest_of-greatest.ensures ∙ ap greatest_of listed;
        row_width = c.row_width-row_width.ensures ∙ ap (λ n. width_of (codes "row" ∷ map decimal (range_with_len 0 n))) (c.ii.ensures.value ∙ ap (λ (s : ScheduleData). s.ii) same);
        live_width = c.live_width-live_width.ensures ∙ ap (λ (ns : List ℕ). width_of (codes "live" ∷ map decimal ns)) listed;
      };
      schedule = c.in_ok-slots.ensures;
    }
