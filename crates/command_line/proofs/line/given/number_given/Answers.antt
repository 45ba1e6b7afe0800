use Rattle.std.proofs.Common.{◌≡◌, ◌∙◌, ◌<◌, ℕ, Option, Some, None, IfSome, IfNone, subst}
use Rattle.clap.specs.Words.{Text, found_of, first_of, rows_of}
use Rattle.clap.proofs.WalkLemmas.{first_value-rows}
use Rattle.command_line.specs.Lines.{SaysNumber}
use Rattle.command_line.proofs.line.given.number_given.Goals as goal

pub returns-clause-says : goal.returns-clause-says
returns-clause-says c =
    let word : Some c.in_ok-get_str.field-0.now ≡ first_of c.args.id.now (rows_of (found_of c.args.values.now)) =
    c.in_ok-get_str.ensures ∙ first_value-rows (found_of c.args.values.now) c.args.id.now in
    subst (λ (o : Option Text). IfSome c.number_of.result (λ n. SaysNumber o n)) word c.number_of.ensures.says

pub returns-clause-none : goal.returns-clause-none
returns-clause-none c =
    let word : Some c.in_ok-get_str.field-0.now ≡ first_of c.args.id.now (rows_of (found_of c.args.values.now)) =
    c.in_ok-get_str.ensures ∙ first_value-rows (found_of c.args.values.now) c.args.id.now in
    subst (λ (o : Option Text). IfNone c.number_of.result ((n : ℕ) → SaysNumber o n → ¬ (n < 18446744073709551616))) word c.number_of.ensures.none

pub returns-in_err-get_str-clause-none : goal.returns-in_err-get_str-clause-none
returns-in_err-get_str-clause-none c =
    let none : None ≡ first_of c.args.id.now (rows_of (found_of c.args.values.now)) =
    c.in_err-get_str.ensures ∙ first_value-rows (found_of c.args.values.now) c.args.id.now in
    let never : (n : ℕ) → SaysNumber (first_of c.args.id.now (rows_of (found_of c.args.values.now))) n → ¬ (n < 18446744073709551616) =
    λ n h. absurd (subst (λ (o : Option Text). SaysNumber o n → ⊥) none (λ e. e) h) in
    elim c.from_residual.result as (λ (o : Option ℕ). IfNone o ((n : ℕ) → SaysNumber (first_of c.args.id.now (rows_of (found_of c.args.values.now))) n → ¬ (n < 18446744073709551616))) [ None ↦ never | Some n ↦ tt ]
