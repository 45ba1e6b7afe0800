use Rattle.std.proofs.Common.{Result, Ok, Err, sym, subst}
use Rattle.std.specs.Prelude.{IfOk}
use Rattle.std.specs.Option.{option_copied}
use Rattle.serde_json.specs.View.{view}
use Rattle.solutions.specs.declared.solving.outcome.Outcome.{Outcome}
use Rattle.solutions.specs.Told.{IsLastEvidence}
use Rattle.solution_json.specs.Outcomes.{IsObjectOf}
use Rattle.solution_json.proofs.outcome.told_outcome.Goals as goal

weaker : {X E : Type 0} (P Q : X → Type 0) (r : Result X E) → ((x : X) → P x → Q x) → IfOk r P → IfOk r Q
weaker P Q (Ok x) f h = f x h
weaker P Q (Err e) f h = tt

pub returns-in-Failed : goal.returns-in-Failed
returns-in-Failed c =
    let p = c.args.problem.now in
    let evidence = subst (λ (o : Outcome). IsLastEvidence p o (option_copied c.args.culprit)) c.in-Failed.is c.requires.evidence in
    subst (λ (o : Outcome). IfOk c.told_failed.result (λ v. IsObjectOf c.args.name.now p c.args.circuit.now c.args.units.now o (view v))) (sym c.in-Failed.is)
    (weaker _ _ c.told_failed.result (λ v told. (option_copied c.args.culprit, evidence, told)) c.told_failed.ensures)
