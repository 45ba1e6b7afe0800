use Rattle.std.proofs.Common.{arith}
use Rattle.graph.specs.Units.{first_lacking}
use Rattle.file_faults.proofs.Answering.{on_none, on_ok}
use Rattle.candidates.proofs.Listed.{prepared_long}
use Rattle.variants.specs.Totals.{IsVaryTotal}
use Rattle.variants.specs.Findings.{AreFound}
use Rattle.side_by_side.proofs.commands.varying.vary_total_on.Goals as goal

pub findings_total-requires : goal.findings_total-requires
findings_total-requires g c =
    let r = c.args.settings.now.ratio in
    let k = c.args.settings.now.ceiling in
    let m = c.args.machine.now in
    let ls = c.args.loops.items in
    let found = c.in_ok-found.found in
    let are = on_ok (AreFound r k m ls) (first_lacking m ls) found c.in_ok-found.ensures in
    let long = prepared_long m r k ls found.prepared.items are.1.0 in
    record { few = omega (arith, long, c.args.loops.ok.0, c.requires.few); found = are.1.1 }

pub returns : goal.returns
returns g c =
    let r = c.args.settings.now.ratio in
    let k = c.args.settings.now.ceiling in
    let m = c.args.machine.now in
    let ls = c.args.loops.items in
    let found = c.in_ok-found.found in
    let are = on_ok (AreFound r k m ls) (first_lacking m ls) found c.in_ok-found.ensures in
    record {
      exact = on_none (IsVaryTotal r k m ls) (first_lacking m ls) c.in_ok-findings_total.field-0 are.0
          (record { problems = found.prepared.items; each_problem = are.1.0; is_total_of = c.in_ok-findings_total.ensures });
    }
