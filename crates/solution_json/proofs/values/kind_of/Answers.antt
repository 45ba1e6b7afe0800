use Rattle.std.proofs.Common.{◌≡◌, ◌∙◌, ap}
use Rattle.std.specs.Prelude.{slice_get}
use Rattle.problems.specs.Problems.{ProblemData}
use Rattle.solution_text.proofs.Places.{kind-at}
use Rattle.solution_json.proofs.values.kind_of.Goals as goal

pub returns : goal.returns
returns c =
    let s = c.args.solution.now in
    let here : c.draft-draft.result.now ≡ s.problem.draft = c.draft-draft.ensures.value ∙ ap (λ (p : ProblemData). p.draft) c.problem.ensures.value in
    let at = kind-at s c.draft-draft.result.now c.args.value c.index.result.now c.index-2.result.now c.problem.ensures.well_formed here c.requires c.index.ensures c.index-2.ensures in
    ap (slice_get s.problem.draft.files.items) at.is_file ∙ at.is_kind
