use Rattle.std.proofs.Common.{◌<◌, ◌++◌, ℕ, List, length, get_or, take, sym, ap, ◌∙◌}
use Rattle.std.specs.List.{flat_map}
use Rattle.std.proofs.lemmas.List.{flat_map_more, take_more}
use Rattle.explain.specs.Reasons.{named}
use Rattle.explain.proofs.intervals.reason_texts.push_all_named.Goals as goal

pub loop-op-preserved : goal.loop-op-preserved
loop-op-preserved c =
    let ops : List ℕ = c.args.ops.now in
    let i : ℕ = c.loop-op.op-index in
    let old : List ℕ = c.args.text.now.items in
    let f : ℕ → List ℕ = named c.args.innermost.now in
    let within : i < length ops = c.loop-op-test.true in
    c.in_ok-push_named.ensures.ok ∙ ap (λ t. t ++ f (get_or ops i 0)) c.loop-op.invariant ∙ flat_map_more f old (take i ops) (get_or ops i 0)
    ∙ ap (λ ns. old ++ flat_map f ns) (sym (take_more ops i 0 within))
