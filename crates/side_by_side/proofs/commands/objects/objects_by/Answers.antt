use Rattle.std.proofs.Common.{◌≡◌, List, length, subst, ap, arith}
use Rattle.std.specs.List.{AllZip}
use Rattle.graph.specs.Units.{first_lacking}
use Rattle.file_faults.proofs.Answering.{on_none, on_ok}
use Rattle.loop_schedules.specs.Problems.{ProblemData}
use Rattle.candidates.specs.Files.{Prepares}
use Rattle.candidates.proofs.Listed.{prepared_long}
use Rattle.explain_printouts.specs.ExplainDocuments.{AreObjects, IsObjectOf}
use Rattle.side_by_side.proofs.commands.objects.objects_by.Goals as goal

pub made_by-requires-clause-each : goal.made_by-requires-clause-each
made_by-requires-clause-each g c κs within =
    let m = c.args.machine.now in
    let r = c.args.settings.now.ratio in
    let k = c.args.settings.now.ceiling in
    let ls = c.args.loops.items in
    let ps = c.in_ok-prepared.prepared.items in
    let are = on_ok (Prepares r k m ls) (first_lacking m ls) c.in_ok-prepared.prepared c.in_ok-prepared.ensures.exact in
    let long = prepared_long m r k ls ps are.1 in
    let same : length c.as_slice.result.now ≡ length ps = ap (λ (xs : List ProblemData). length xs) c.as_slice.ensures.value in
    omega (arith, long, same, c.args.loops.ok.0, c.requires.each)

pub made_by-requires-clause-within : goal.made_by-requires-clause-within
made_by-requires-clause-within g c κs within k d h =
    let each = made_by-requires-clause-each g c κs within in
    omega (arith, each, c.requires.each, c.requires.within k d h)

pub returns : goal.returns
returns g c =
    let m = c.args.machine.now in
    let r = c.args.settings.now.ratio in
    let k = c.args.settings.now.ceiling in
    let ls = c.args.loops.items in
    let prepared = c.in_ok-prepared.prepared in
    let objects = c.in_ok-objects.objects in
    let are = on_ok (Prepares r k m ls) (first_lacking m ls) prepared c.in_ok-prepared.ensures.exact in
    on_none (AreObjects r k m ls) (first_lacking m ls) objects are.0 (record {
      problems = prepared.items;
      each_problem = are.1;
      each_object = subst (λ (ps : List ProblemData). AllZip (IsObjectOf m) ps objects.items) c.as_slice.ensures.value c.in_ok-objects.ensures;
    })
