use Rattle.graph.specs.Units.{first_lacking}
use Rattle.file_faults.proofs.Answering.{on_none, on_ok}
use Rattle.variants.specs.Documents.{IsVaryDocument}
use Rattle.variants.specs.Findings.{AreFound}
use Rattle.side_by_side.proofs.commands.varying.vary_document_on.Goals as goal

pub findings_document-requires : goal.findings_document-requires
findings_document-requires g c =
    let m = c.args.machine.now in
    let ls = c.args.loops.items in
    (on_ok (AreFound c.args.settings.now.ratio c.args.settings.now.ceiling m ls) (first_lacking m ls) c.in_ok-found.found c.in_ok-found.ensures).1.1

pub returns : goal.returns
returns g c =
    let r = c.args.settings.now.ratio in
    let k = c.args.settings.now.ceiling in
    let m = c.args.machine.now in
    let ls = c.args.loops.items in
    let found = c.in_ok-found.found in
    let are = on_ok (AreFound r k m ls) (first_lacking m ls) found c.in_ok-found.ensures in
    on_none (IsVaryDocument r k m ls) (first_lacking m ls) c.in_ok-findings_document.field-0 are.0
    (record { problems = found.prepared.items; each_problem = are.1.0; is_document_of = c.in_ok-findings_document.ensures })
