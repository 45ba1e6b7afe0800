use Rattle.std.proofs.Common.{List, sym, subst}
use Rattle.std.specs.List.{All, AllZip}
use Rattle.graph.specs.Units.{first_lacking}
use Rattle.loop_schedules.specs.Problems.{ProblemData}
use Rattle.file_faults.proofs.Answering.{on_none, on_ok}
use Rattle.candidates.specs.Files.{Prepares}
use Rattle.variants.specs.Findings.{AreFindings, AreFound, IsOn}
use Rattle.variants.proofs.On.{all-on}
use Rattle.variants.proofs.found.files.find_all.Goals as goal

pub find_each-requires : goal.find_each-requires
find_each-requires c =
    let r = c.args.settings.now.ratio in
    let k = c.args.settings.now.ceiling in
    let m = c.args.machine.now in
    let ls = c.args.loops.items in
    let prepared = c.in_ok-prepared.prepared in
    let are = on_ok (Prepares r k m ls) (first_lacking m ls) prepared c.in_ok-prepared.ensures.exact in
    subst (λ (ps : List ProblemData). All (IsOn m) ps) (sym c.as_slice.ensures.value) (all-on m r k ls prepared.items are.1 are.0)

pub returns : goal.returns
returns c =
    let r = c.args.settings.now.ratio in
    let k = c.args.settings.now.ceiling in
    let m = c.args.machine.now in
    let ls = c.args.loops.items in
    let prepared = c.in_ok-prepared.prepared in
    let loops = c.in_ok-loops.loops in
    let are = on_ok (Prepares r k m ls) (first_lacking m ls) prepared c.in_ok-prepared.ensures.exact in
    on_none (AreFound r k m ls) (first_lacking m ls) (record { prepared = prepared; loops = loops }) are.0
    (are.1, subst (λ (ps : List ProblemData). AllZip (AreFindings m) ps loops.items) c.as_slice.ensures.value c.in_ok-loops.ensures)
