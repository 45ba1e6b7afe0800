use Rattle.std.proofs.Common.{◌≡◌, ◌∙◌, get_or, sym, ap, subst}
use Rattle.problems.specs.declared.draft.Draft.{Draft}
use Rattle.problems.specs.Problems.{ProblemData}
use Rattle.solution_text.proofs.Places.{file-is}
use Rattle.solution_json.proofs.values.file_of.Goals as goal

pub returns : goal.returns
returns c =
    let s = c.args.solution.now in
    let value = c.args.value in
    let v = c.index.result.now in
    let here : c.draft-draft.result.now ≡ s.problem.draft = c.draft-draft.ensures.value ∙ ap (λ (p : ProblemData). p.draft) c.problem.ensures.value in
    sym (file-is s.problem.draft.values.items value v c.requires (subst (λ (d : Draft). v ≡ get_or d.values.items value v) here c.index.ensures))
