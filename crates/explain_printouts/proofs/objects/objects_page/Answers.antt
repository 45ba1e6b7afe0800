use Rattle.std.proofs.Common.{◌∙◌, ℕ, List, ◌++◌, ap}
use Rattle.report_page.specs.Pages.{page_of}
use Rattle.explain_printouts.proofs.objects.objects_page.Goals as goal

pub returns-clause-text : goal.returns-clause-text
returns-clause-text c =
    c.new.ensures.text ∙ (c.in_ok-push_page.ensures.ok ∙ ap (λ (t : List ℕ). t ++ page_of c.as_slice.result.now) c.new-page.ensures.items)
    ∙ ap (λ (t : List ℕ). page_of t) (c.as_slice.ensures.value ∙ c.in_ok-document.ensures)
