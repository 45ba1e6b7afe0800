use Rattle.std.proofs.Common.{◌≡◌, ◌++◌, ℕ, List, ap, ap₂, ◌∙◌}
use Rattle.std.specs.Prelude.{slice_index}
use Rattle.lower_bounds.proofs.Texts.{numbered-more}
use Rattle.loop_data.specs.Loops.{LoopData}
use Rattle.loop_schedules.specs.Problems.{ProblemData}
use Rattle.scheduled_graphs.specs.Nodes.{placed_line}
use Rattle.scheduled_graphs.proofs.nodes.push_all_placed.Goals as goal

pub loop-number-preserved : goal.loop-number-preserved
loop-number-preserved c =
    let s = c.args.schedule.now in
    let number : ℕ = c.loop-number.number in
    let before : List ℕ = c.loop-number.text.items in
    let loop : c.innermost-innermost.result.now ≡ s.problem.loop = c.innermost-innermost.ensures.value ∙ ap (λ (p : ProblemData). p.loop) c.prepared.ensures.value in
    numbered-more (λ n. placed_line s.problem.loop s.ii (slice_index s.times n) n) c.args.text.now.items before c.push_placed.new.text.items number c.loop-number.invariant
    (c.in_ok-push_placed.ensures.ok ∙ ap (λ (l : LoopData). before ++ placed_line l c.ii.result c.time.result number) loop
    ∙ ap₂ (λ (ii time : ℕ). before ++ placed_line s.problem.loop ii time number) c.ii.ensures.value c.time.ensures.value)
