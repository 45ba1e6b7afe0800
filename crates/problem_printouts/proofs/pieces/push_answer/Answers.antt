use Rattle.std.proofs.Common.{◌≡◌, ◌∙◌, refl, subst, sym}
use Rattle.problem_tables.specs.Data.{FileData}
use Rattle.problem_reader.specs.Files.{machine_at, problem_at, IsDraftOf}
use Rattle.problem_printouts.specs.Problems.{IsProblemIn}
use Rattle.problem_printouts.specs.Solving.{IsOutcomeIn}
use Rattle.problem_printouts.proofs.pieces.push_answer.Goals as goal

-- the draft that is given back is that of the problem
pub give_back-requires-clause-draft : goal.give_back-requires-clause-draft
give_back-requires-clause-draft c =
    let file : FileData = c.args.drafts.now in
    let is = c.in_ok-problem.ensures.made in
    let same : c.into_draft.result ≡ is.draft = c.into_draft.ensures ∙ is.is_made.same_draft in
    subst (λ (f : FileData). IsDraftOf (machine_at f (problem_at f c.args.number).machine) (problem_at f c.args.number) c.into_draft.result) (sym c.in_ok-problem.ensures.same)
    (subst (IsDraftOf (machine_at file (problem_at file c.args.number).machine) (problem_at file c.args.number)) (sym same) is.is_draft)

pub returns-clause-answer : goal.returns-clause-answer
returns-clause-answer c =
    let made = c.in_ok-problem.problem in
    let told = c.in_ok-met.ensures.told in
    record {
      answer = record { text = told.0; met = c.in_ok-met.met };
      is = record {
        made = made;
        is_made = subst (λ (f : FileData). IsProblemIn f c.args.settings.now.ratio c.args.settings.now.ceiling (problem_at f c.args.number) made) c.requires.drafts c.in_ok-problem.ensures.made;
        is_text = subst (λ name. IsOutcomeIn c.args.format name made c.in_ok-met.met told.0) (c.as_str.ensures.value ∙ c.name.ensures) told.2;
      };
      is_text = told.1;
      same_met = refl;
    }
