use Rattle.std.proofs.Common.{◌<◌, List, [], ◌∷◌, length, map, ap, ◌∙◌, arith}
use Rattle.std.specs.List.{zip}
use Rattle.std.proofs.lemmas.List.Concat.{flat_map_single}
use Rattle.serde_json.specs.Data.{Data, array}
use Rattle.serde_json.specs.View.{items_of, view}
use Rattle.serde_json.proofs.Views.{view-Array}
use Rattle.loop_schedules.specs.Problems.{ProblemData}
use Rattle.variants.specs.declared.found.finding.LoopFindings.{LoopFindings}
use Rattle.variants.specs.inner.Told.{part_object}
use Rattle.variants.proofs.Zipped.{zipped-all, zipped-more}
use Rattle.variants.proofs.told.document.told_loops.Goals as goal

pub loop-index-preserved : goal.loop-index-preserved
loop-index-preserved c =
    let ps = c.args.prepared.now in
    let i = c.loop-index.index in
    let low : i < length ps = omega arith in
    let told : ProblemData → LoopFindings → List Data = λ p found. part_object c.args.machine.now c.args.variants.now p found ∷ [] in
    zipped-more told ps c.args.loops.now i c.index-prepared-index.result c.index-loops-index.result [] (map view c.loop-index.values.items) (map view c.push_loop.new.values.items) c.requires.same low
    c.index-prepared-index.is c.index-loops-index.is c.loop-index.invariant c.in-Ok.ensures

pub returns : goal.returns
returns c =
    let told : ProblemData → LoopFindings → List Data = λ p found. part_object c.args.machine.now c.args.variants.now p found ∷ [] in
    let one : ProblemData × LoopFindings → Data = λ both. part_object c.args.machine.now c.args.variants.now both.0 both.1 in
    view-Array c.loop-index.values
    ∙ ap (λ (ds : List Data). array (items_of ds))
    (zipped-all told c.args.prepared.now c.args.loops.now c.loop-index.index [] (map view c.loop-index.values.items) (omega arith) c.loop-index.invariant
    ∙ flat_map_single one (zip c.args.prepared.now c.args.loops.now))
