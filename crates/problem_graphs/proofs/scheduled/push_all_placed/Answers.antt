use Rattle.std.proofs.Common.{◌++◌, ℕ, List, ap₂, ◌∙◌}
use Rattle.std.specs.Prelude.{slice_index}
use Rattle.lower_bounds.proofs.Texts.{numbered-more}
use Rattle.problem_graphs.specs.Scheduled.{placed_line}
use Rattle.problem_graphs.proofs.scheduled.push_all_placed.Goals as goal

pub loop-op-preserved : goal.loop-op-preserved
loop-op-preserved c =
    let draft = c.args.draft.now in
    let s = c.args.solution.now in
    let op : ℕ = c.loop-op.op in
    let before : List ℕ = c.loop-op.text.items in
    numbered-more (λ n. placed_line draft s.ii (slice_index s.times n) n) c.args.text.now.items before c.push_placed.new.text.items op c.loop-op.invariant
    (c.in_ok-push_placed.ensures.ok ∙ ap₂ (λ (ii time : ℕ). before ++ placed_line draft ii time op) c.ii.ensures.value c.time.ensures.value)
