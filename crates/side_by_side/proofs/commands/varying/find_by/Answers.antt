use Rattle.std.proofs.Common.{◌≡◌, List, length, sym, subst, ap, arith}
use Rattle.std.specs.List.{All, AllZip}
use Rattle.graph.specs.Units.{first_lacking}
use Rattle.file_faults.proofs.Answering.{on_none, on_ok}
use Rattle.loop_schedules.specs.Problems.{ProblemData}
use Rattle.candidates.specs.Files.{Prepares}
use Rattle.candidates.proofs.Listed.{prepared_long}
use Rattle.variants.specs.Findings.{AreFindings, AreFound, IsOn}
use Rattle.variants.proofs.On.{all-on}
use Rattle.side_by_side.proofs.commands.varying.find_by.Goals as goal

pub found_by-requires-clause-on : goal.found_by-requires-clause-on
found_by-requires-clause-on g c κs within =
    let m = c.args.machine.now in
    let r = c.args.settings.now.ratio in
    let k = c.args.settings.now.ceiling in
    let ls = c.args.loops.items in
    let are = on_ok (Prepares r k m ls) (first_lacking m ls) c.in_ok-prepared.prepared c.in_ok-prepared.ensures.exact in
    subst (λ (ps : List ProblemData). All (IsOn m) ps) (sym c.as_slice.ensures.value) (all-on m r k ls c.in_ok-prepared.prepared.items are.1 are.0)

pub found_by-requires-clause-each : goal.found_by-requires-clause-each
found_by-requires-clause-each g c κs within =
    let m = c.args.machine.now in
    let r = c.args.settings.now.ratio in
    let k = c.args.settings.now.ceiling in
    let ls = c.args.loops.items in
    let ps = c.in_ok-prepared.prepared.items in
    let are = on_ok (Prepares r k m ls) (first_lacking m ls) c.in_ok-prepared.prepared c.in_ok-prepared.ensures.exact in
    let long = prepared_long m r k ls ps are.1 in
    let same : length c.as_slice.result.now ≡ length ps = ap (λ (xs : List ProblemData). length xs) c.as_slice.ensures.value in
    omega (arith, long, same, c.args.loops.ok.0, c.requires.each)

pub found_by-requires-clause-within : goal.found_by-requires-clause-within
found_by-requires-clause-within g c κs within k d h =
    let each = found_by-requires-clause-each g c κs within in
    omega (arith, each, c.requires.each, c.requires.within k d h)

pub returns : goal.returns
returns g c =
    let m = c.args.machine.now in
    let r = c.args.settings.now.ratio in
    let k = c.args.settings.now.ceiling in
    let ls = c.args.loops.items in
    let prepared = c.in_ok-prepared.prepared in
    let loops = c.in_ok-loops.loops in
    let are = on_ok (Prepares r k m ls) (first_lacking m ls) prepared c.in_ok-prepared.ensures.exact in
    on_none (AreFound r k m ls) (first_lacking m ls) (record { prepared = prepared; loops = loops }) are.0
    (are.1, subst (λ (ps : List ProblemData). AllZip (AreFindings m) ps loops.items) c.as_slice.ensures.value c.in_ok-loops.ensures)
