use Rattle.std.proofs.Common.{◌≡◌, List, length, sym, subst, ap, arith}
use Rattle.graph.specs.Units.{first_lacking}
use Rattle.file_faults.proofs.Answering.{on_more, on_ok}
use Rattle.loop_schedules.specs.Problems.{ProblemData}
use Rattle.candidates.specs.Files.{ArePrepared, Prepares}
use Rattle.candidates.proofs.Listed.{prepared_long}
use Rattle.scheduled_printouts.specs.Graphs.{AreScheduledGraphs}
use Rattle.side_by_side.proofs.commands.scheduling.scheduled_by.Goals as goal

pub drawn_by-requires-clause-each : goal.drawn_by-requires-clause-each
drawn_by-requires-clause-each g c κs within =
    let m = c.args.machine.now in
    let r = c.args.settings.now.ratio in
    let k = c.args.settings.now.ceiling in
    let ls = c.args.loops.items in
    let ps = c.in_ok-prepared.prepared.items in
    let are = on_ok (Prepares r k m ls) (first_lacking m ls) c.in_ok-prepared.prepared c.in_ok-prepared.ensures.exact in
    let long = prepared_long m r k ls ps are.1 in
    let same : length c.as_slice.result.now ≡ length ps = ap (λ (xs : List ProblemData). length xs) c.as_slice.ensures.value in
    omega (arith, long, same, c.args.loops.ok.0, c.requires.each)

pub drawn_by-requires-clause-within : goal.drawn_by-requires-clause-within
drawn_by-requires-clause-within g c κs within k d h =
    let each = drawn_by-requires-clause-each g c κs within in
    omega (arith, each, c.requires.each, c.requires.within k d h)

pub returns : goal.returns
returns g c =
    let m = c.args.machine.now in
    let r = c.args.settings.now.ratio in
    let k = c.args.settings.now.ceiling in
    let ls = c.args.loops.items in
    on_more (Prepares r k m ls) (AreScheduledGraphs r k m ls) (first_lacking m ls) c.in_ok-prepared.prepared c.in_ok-printout.printout
    (λ are. c.in_ok-printout.ensures r k m ls (subst (λ ps. ArePrepared m r k ls ps) (sym c.as_slice.ensures.value) are)) c.in_ok-prepared.ensures.exact
