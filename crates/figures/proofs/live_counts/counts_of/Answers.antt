use Rattle.std.proofs.Common.{◌≡◌, ℕ, [], ◌∷◌, ◌++◌, List, length, map, sym, ap, ◌∙◌, arith}
use Rattle.std.specs.List.{range_with_len}
use Rattle.std.proofs.lemmas.List.FromFn.{map-range_with_len_more}
use Rattle.loop_schedules.specs.Schedules.{ScheduleData}
use Rattle.registers.specs.declared.lifetime.Lifetime.{Lifetime}
use Rattle.overlap.specs.Lifetimes.{lifetimes_of}
use Rattle.rotating.specs.Crowds.{crowd_in}
use Rattle.figures.specs.LiveCounts.{live_count}
use Rattle.figures.proofs.live_counts.counts_of.Goals as goal

live-is : (schedule : ScheduleData) (lives : List Lifetime) (row : ℕ) → lives ≡ lifetimes_of schedule → crowd_in schedule.ii row lives (length lives) ≡ live_count schedule row
unfolding live_count
live-is schedule lives row e = ap (λ (ls : List Lifetime). crowd_in schedule.ii row ls (length ls)) e

pub loop-row-preserved : goal.loop-row-preserved
loop-row-preserved c =
    let schedule = c.args.schedule.now in
    let f = live_count schedule in
    let row = c.loop-row.row in
    let value : c.live_in.result ≡ live_count schedule row = c.live_in.ensures.value ∙ live-is schedule c.args.lives.now row c.requires in
    c.in_ok-push.ensures.items ∙ ap (λ (ns : List ℕ). ns ++ c.live_in.result ∷ []) c.loop-row.invariant ∙ ap (λ n. map f (range_with_len 0 row) ++ n ∷ []) value
    ∙ sym (map-range_with_len_more f 0 row row (omega arith))
