use Rattle.std.proofs.Common.{List, subst}
use Rattle.std.specs.List.{AllZip}
use Rattle.graph.specs.Units.{first_lacking}
use Rattle.loop_schedules.specs.Problems.{ProblemData}
use Rattle.file_faults.proofs.Answering.{on_none, on_ok}
use Rattle.candidates.specs.Files.{Prepares}
use Rattle.explain_printouts.specs.ExplainDocuments.{AreObjects, IsObjectOf}
use Rattle.explain_printouts.proofs.explaining.explain_objects.Goals as goal

pub returns : goal.returns
returns c =
    let r = c.args.settings.now.ratio in
    let k = c.args.settings.now.ceiling in
    let m = c.args.machine.now in
    let ls = c.args.loops.items in
    let prepared = c.in_ok-prepared.prepared in
    let objects = c.in_ok-objects_of.field-0 in
    let are = on_ok (Prepares r k m ls) (first_lacking m ls) prepared c.in_ok-prepared.ensures.exact in
    on_none (AreObjects r k m ls) (first_lacking m ls) objects are.0 (record {
      problems = prepared.items;
      each_problem = are.1;
      each_object = subst (λ (ps : List ProblemData). AllZip (IsObjectOf m) ps objects.items) c.as_slice.ensures.value c.in_ok-objects_of.ensures;
    })
