use Rattle.std.proofs.Common.{◌∙◌, List, ap}
use Rattle.std.specs.Prelude.{◌==◌}
use Rattle.graph.specs.Units.{first_lacking}
use Rattle.file_faults.proofs.Answering.{on_none, on_ok}
use Rattle.explain_printouts.specs.declared.objects.Object.{Object}
use Rattle.explain_printouts.specs.ExplainDocuments.{AreObjects, IsExplainDocument, document_text, number_failed}
use Rattle.side_by_side.proofs.commands.objects.explain_document_on.Goals as goal

pub returns : goal.returns
returns g c =
    let r = c.args.settings.now.ratio in
    let k = c.args.settings.now.ceiling in
    let m = c.args.machine.now in
    let ls = c.args.loops.items in
    let objects = c.in_ok-objects.objects in
    let are = on_ok (AreObjects r k m ls) (first_lacking m ls) objects c.in_ok-objects.ensures in
    on_none (IsExplainDocument r k m ls) (first_lacking m ls) c.in_ok-objects_document.field-0 are.0 (record {
      objects = objects.items;
      are_objects = are.1;
      is_text = c.in_ok-objects_document.ensures.text ∙ ap document_text c.as_slice.ensures.value;
      met = c.in_ok-objects_document.ensures.met ∙ ap (λ (os : List Object). number_failed os == 0) c.as_slice.ensures.value;
    })
