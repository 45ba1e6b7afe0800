use Rattle.std.proofs.Common.{◌∙◌, ℕ, List, ◌++◌, ap}
use Rattle.json_objects.specs.Documents.{head_text}
use Rattle.explain_printouts.proofs.Documents.{document-joined}
use Rattle.explain_printouts.proofs.objects.document_text.Goals as goal

pub returns : goal.returns
returns c =
    document-joined c.args.objects.now c.number_failed.result c.number_met.result c.push_head.new.text.items c.push_objects.new.text.items c.push_tail.new.text.items c.number_failed.ensures c.number_met.ensures
    (c.in_ok-push_head.ensures.ok ∙ ap (λ (t : List ℕ). t ++ head_text c.number_failed.result) c.new-text.ensures.items) c.in_ok-push_objects.ensures.ok c.in_ok-push_tail.ensures.ok
