use Rattle.std.proofs.Common.{List, refl, sym, subst}
use Rattle.std.specs.Prelude.{◌==◌}
use Rattle.graph.specs.Units.{first_lacking}
use Rattle.file_faults.proofs.Answering.{on_none, on_ok}
use Rattle.explain_printouts.specs.declared.objects.Object.{Object}
use Rattle.explain_printouts.specs.ExplainDocuments.{AreObjects, AreObjectsOf, IsExplainPage, document_text, number_failed}
use Rattle.side_by_side.proofs.commands.objects.explain_page_on.Goals as goal

pub returns : goal.returns
returns g c =
    let r = c.args.settings.now.ratio in
    let k = c.args.settings.now.ceiling in
    let m = c.args.machine.now in
    let ls = c.args.loops.items in
    let objects = c.in_ok-objects.objects in
    let listed = c.as_slice.result.now in
    let are = on_ok (AreObjects r k m ls) (first_lacking m ls) objects c.in_ok-objects.ensures in
    on_none (IsExplainPage r k m ls) (first_lacking m ls) c.in_ok-objects_page.field-0 are.0 (record {
      document = record { text = document_text listed; all_met = number_failed listed == 0 };
      is_document = record { objects = listed; are_objects = subst (λ (os : List Object). AreObjectsOf r k m ls os) (sym c.as_slice.ensures.value) are.1; is_text = refl; met = refl };
      is_text = c.in_ok-objects_page.ensures.text;
      met = c.in_ok-objects_page.ensures.met;
    })
