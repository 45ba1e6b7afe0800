use Rattle.std.proofs.Common.{rules, arith, ◌≡◌, ◌≤◌, Vec, ℕ, Global, length, take, ap, ◌∙◌}
use Rattle.std.proofs.lemmas.Result.{IfOk-weaker}
use Rattle.walks.proofs.Settling.{items-are_heights}
use Rattle.walks.proofs.height.heights.Goals as goal

pub returns-clause-range : goal.returns-clause-range
returns-clause-range c =
    let long : length c.relax.new.numbers ≡ 128 = search rules in
    let few : length c.args.edges.now.latencies ≤ 128 = c.operations.ensures.well_formed.few in
    IfOk-weaker c.from_slice.result _ _
    (λ (v : Vec ℕ Global) is. (items-are_heights c.args.edges.now c.args.ii c.relax.new.numbers v.items c.relax.ensures.well_formed c.requires.fits
    c.in-Heights.ensures.exact.0 (omega arith) (is ∙ ap (λ n. take n c.relax.new.numbers) c.operations.ensures.value)).2)
    c.from_slice.ensures.items
