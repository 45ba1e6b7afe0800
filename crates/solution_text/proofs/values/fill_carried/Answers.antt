use Rattle.std.proofs.Common.{◌≡◌, List, ap, map, ◌∙◌, subst}
use Rattle.problems.specs.declared.draft.Draft.{Draft}
use Rattle.problems.specs.declared.draft.Value.{Value}
use Rattle.problems.specs.Problems.{ProblemData}
use Rattle.registers.specs.declared.value.Read.{Read}
use Rattle.solution_text.specs.inner.Carried.{IsRaised, out_of}
use Rattle.solution_text.proofs.Raising.{carried-all}
use Rattle.solution_text.proofs.values.fill_carried.Goals as goal

pub returns : goal.returns
returns c =
    let s = c.args.solution.now in
    let drafts : c.draft-draft.result.now ≡ s.problem.draft = c.draft-draft.ensures.value ∙ ap (λ (p : ProblemData). p.draft) c.problem.ensures.value in
    let values : c.as_slice.result.now ≡ s.problem.draft.values.items = c.as_slice.ensures.value ∙ ap (λ (d : Draft). d.values.items) drafts in
    let reads : c.as_slice-2.result.now ≡ s.problem.draft.reads.items = c.as_slice-2.ensures.value ∙ ap (λ (d : Draft). d.reads.items) drafts in
    carried-all s c.fill_outs.new.iterations c.raise_to_reads.new.iterations c.problem.ensures.well_formed
    (c.fill_outs.ensures ∙ ap (λ (vs : List Value). map out_of vs) values)
    (subst (λ (rs : List Read). IsRaised rs c.fill_outs.new.iterations c.raise_to_reads.new.iterations) reads c.raise_to_reads.ensures)
