use Rattle.std.proofs.Common.{◌<◌, List, [], length, map, ap, ◌∙◌, arith}
use Rattle.serde_json.specs.Data.{Data, array}
use Rattle.serde_json.specs.View.{items_of, view}
use Rattle.serde_json.proofs.Views.{view-Array}
use Rattle.variants.specs.inner.Told.{found_object}
use Rattle.variants.proofs.Zipped.{zipped-all, zipped-next}
use Rattle.variants.proofs.told.values.told_variants.Goals as goal

pub loop-index-preserved : goal.loop-index-preserved
loop-index-preserved c =
    let vs = c.args.variants.now in
    let i = c.loop-index.index in
    let low : i < length vs = omega arith in
    zipped-next (found_object c.args.machine.now c.args.standing) vs c.args.findings.now i _ _ [] (map view c.loop-index.values.items) (map view c.push_variant.new.values.items) c.requires.long low
    c.loop-index.invariant c.in-Ok.ensures

pub returns : goal.returns
returns c =
    view-Array c.loop-index.values
    ∙ ap (λ (ds : List Data). array (items_of ds))
    (zipped-all (found_object c.args.machine.now c.args.standing) c.args.variants.now c.args.findings.now c.loop-index.index [] (map view c.loop-index.values.items) (omega arith)
    c.loop-index.invariant)
