use Rattle.graph.specs.Units.{first_lacking}
use Rattle.file_faults.proofs.Answering.{on_none, on_ok}
use Rattle.variants.specs.Texts.{IsVaryText}
use Rattle.variants.specs.Findings.{AreFound}
use Rattle.side_by_side.proofs.commands.varying.vary_text_on.Goals as goal

pub findings_text-requires : goal.findings_text-requires
findings_text-requires g c =
    let m = c.args.machine.now in
    let ls = c.args.loops.items in
    (on_ok (AreFound c.args.settings.now.ratio c.args.settings.now.ceiling m ls) (first_lacking m ls) c.in_ok-found.found c.in_ok-found.ensures).1.1

pub returns : goal.returns
returns g c =
    let r = c.args.settings.now.ratio in
    let k = c.args.settings.now.ceiling in
    let m = c.args.machine.now in
    let ls = c.args.loops.items in
    let found = c.in_ok-found.found in
    let are = on_ok (AreFound r k m ls) (first_lacking m ls) found c.in_ok-found.ensures in
    on_none (IsVaryText r k m ls) (first_lacking m ls) c.in_ok-findings_text.field-0 are.0
    (record { problems = found.prepared.items; each_problem = are.1.0; is_text_of = c.in_ok-findings_text.ensures })
