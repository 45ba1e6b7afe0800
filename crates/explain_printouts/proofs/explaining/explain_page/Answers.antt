use Rattle.std.proofs.Common.{◌∙◌, List, ap, refl}
use Rattle.std.specs.Prelude.{◌==◌}
use Rattle.graph.specs.Units.{first_lacking}
use Rattle.file_faults.proofs.Answering.{on_none, on_ok}
use Rattle.report_page.specs.Pages.{page_of}
use Rattle.explain_printouts.specs.declared.objects.Object.{Object}
use Rattle.explain_printouts.specs.ExplainDocuments.{AreObjects, IsExplainPage, document_text, number_failed}
use Rattle.explain_printouts.proofs.explaining.explain_page.Goals as goal

pub returns : goal.returns
returns c =
    let r = c.args.settings.now.ratio in
    let k = c.args.settings.now.ceiling in
    let m = c.args.machine.now in
    let ls = c.args.loops.items in
    let objects = c.in_ok-objects.objects in
    let are = on_ok (AreObjects r k m ls) (first_lacking m ls) objects c.in_ok-objects.ensures in
    on_none (IsExplainPage r k m ls) (first_lacking m ls) c.in_ok-objects_page.field-0 are.0 (record {
      document = record { text = document_text objects.items; all_met = number_failed objects.items == 0 };
      is_document = record { objects = objects.items; are_objects = are.1; is_text = refl; met = refl };
      is_text = c.in_ok-objects_page.ensures.text ∙ ap (λ (os : List Object). page_of (document_text os)) c.as_slice.ensures.value;
      met = c.in_ok-objects_page.ensures.met ∙ ap (λ (os : List Object). number_failed os == 0) c.as_slice.ensures.value;
    })
