use Rattle.std.proofs.Common.{◌≡◌, ◌+◌, ◌∙◌, ℕ, List, ap, ap₂, subst}
use Rattle.std.specs.Prelude.{codes, IfOk}
use Rattle.std.specs.Option.{option_copied}
use Rattle.serde_json.specs.Data.{object, put, string}
use Rattle.serde_json.specs.View.{view}
use Rattle.schedules.specs.Problems.{ProblemData as SchedulingData, mii_of}
use Rattle.problems.specs.declared.draft.Draft.{Draft}
use Rattle.solutions.specs.Outcomes.{last_of}
use Rattle.solution_json.specs.Failures.{culprit_value}
use Rattle.solution_text.specs.Causes.{cause_word}
use Rattle.solution_json.specs.Outcomes.{failed_object, head_members}
use Rattle.solution_json.specs.Parts.{count_value}
use Rattle.solution_json.proofs.outcome.told_failed.Goals as goal

pub returns : goal.returns
unfolding failed_object
returns c =
    let p = c.args.problem.now in
    let last : c.mii.result + c.ceiling.result ≡ last_of p
    = ap₂ (λ (m n : ℕ). m + n) c.mii.ensures.value c.ceiling.ensures.value ∙ ap (λ (q : SchedulingData). mii_of q + q.ceiling) c.scheduling-scheduling.ensures.value in
    let word = cause_word c.args.cause in
    let cause : IfOk c.to_value.result (λ v. view v ≡ string word)
    = subst (λ (t : List ℕ). IfOk c.to_value.result (λ v. view v ≡ string t)) c.cause_word.ensures c.to_value.ensures in
    let found = culprit_value p.draft c.args.cause (option_copied c.args.culprit) in
    let culprit : IfOk c.told_evidence-culprit.result (λ v. view v ≡ found)
    = subst (λ (d : Draft). IfOk c.told_evidence-culprit.result (λ v. view v ≡ culprit_value d c.args.cause (option_copied c.args.culprit))) c.draft.ensures.value c.told_evidence-culprit.ensures in
    let head = head_members c.args.name.now p c.args.circuit.now c.args.units.now in
    let one = put (codes "failed_to") (count_value (c.mii.result + c.ceiling.result)) head in
    let two = put (codes "cause") (string word) one in
    subst (λ (n : ℕ). IfOk c.object_of.result (λ v. view v ≡ object (put (codes "culprit") found (put (codes "cause") (string word) (put (codes "failed_to") (count_value n) head))))) last
    (c.object_of.ensures (put (codes "culprit") found two)
    (c.with.ensures two found
    (c.with-members.ensures one (string word) (c.with_count-members.ensures head c.head_of-members.ensures) cause) culprit))
