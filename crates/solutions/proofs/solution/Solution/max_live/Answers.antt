use Rattle.std.proofs.Common.{◌≡◌, ap, ◌∙◌, subst, sym}
use Rattle.std.specs.List.{All}
use Rattle.problems.specs.declared.draft.Draft.{Draft}
use Rattle.problems.specs.declared.draft.Value.{Value}
use Rattle.problems.specs.Problems.{ProblemData}
use Rattle.registers.specs.Residues.{IsLifeSpan}
use Rattle.solutions.proofs.Copying.{few-lives, max_live-all, spans-of}
use Rattle.solutions.proofs.solution.Solution.max_live.Goals as goal

pub greatest_crowd-requires-clause-lives : goal.greatest_crowd-requires-clause-lives
greatest_crowd-requires-clause-lives c = subst (All IsLifeSpan) (sym c.lives.ensures.value) (spans-of c.args.self.now c.ii-ii.ensures.well_formed)

pub greatest_crowd-requires-clause-few_lives : goal.greatest_crowd-requires-clause-few_lives
greatest_crowd-requires-clause-few_lives c = few-lives c.args.self.now c.lives.result.now c.ii-ii.ensures.well_formed c.lives.ensures.value

pub returns-then-are_all_in-clause-value : goal.returns-then-are_all_in-clause-value
returns-then-are_all_in-clause-value c =
    let all : All (λ (v : Value). v.file ≡ c.args.file) c.as_slice-values.result.now = c.are_all_in.ensures c.if-are_all_in.true in
    let same : c.as_slice-values.result.now ≡ c.args.self.now.problem.draft.values.items
    = c.as_slice-values.ensures.value ∙ ap (λ (x : Draft). x.values.items) (c.draft.ensures.value ∙ ap (λ (p : ProblemData). p.draft) c.problem.ensures.value) in
    c.greatest_crowd.ensures
    ∙ max_live-all c.args.self.now c.ii-ii.result c.args.file c.lives.result.now c.ii-ii.ensures.value c.lives.ensures.value (subst (All (λ (v : Value). v.file ≡ c.args.file)) same all)
