use Rattle.std.proofs.Common.{◌≡◌, ◌<◌, ℕ, List, length, sym, ap, ◌∙◌, subst, arith}
use Rattle.std.specs.List.{slice_index_or}
use Rattle.std.proofs.lemmas.List.Elements.{All-get_or}
use Rattle.loop_data.specs.Loops.{LoopData, GivesValue, HasInitial}
use Rattle.loop_schedules.specs.Problems.{ProblemData}
use Rattle.rotating.proofs.kernels.lists.push_outs.Goals as goal

pub out_of-requires-clause-value : goal.out_of-requires-clause-value
out_of-requires-clause-value c =
    let loop = c.args.schedule.now.problem.loop in
    let k = c.loop-value.value-index in
    let same : c.outs-value-items.result.now ≡ loop.outs
    = c.outs-value-items.ensures.value ∙ ap (λ (l : LoopData). l.outs) (c.innermost.ensures.value ∙ ap (λ (p : ProblemData). p.loop) c.prepared.ensures.value) in
    let t : k < length c.outs-value-items.result.now = omega arith in
    let lt : k < length loop.outs = subst (λ (xs : List ℕ). k < length xs) same t in
    let is = c.prepared.ensures.well_formed.problem.loop in
    subst (λ (xs : List ℕ). GivesValue loop (slice_index_or xs k 0)) (sym same) (All-get_or (λ o. GivesValue loop o × HasInitial loop o 1) loop.outs k 0 lt is.outs).0
