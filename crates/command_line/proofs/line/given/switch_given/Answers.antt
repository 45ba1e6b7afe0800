use Rattle.std.proofs.Common.{◌≡◌, ◌∙◌, Bool, Option, Some, None, IfSome, IfNone, subst}
use Rattle.clap.specs.Words.{Text, found_of, first_of, rows_of}
use Rattle.clap.proofs.WalkLemmas.{first_value-rows}
use Rattle.command_line.specs.Lines.{SaysSwitch, switch_word}
use Rattle.command_line.proofs.LineLemmas.{none-says, some-says}
use Rattle.command_line.proofs.line.given.switch_given.Goals as goal

pub returns-clause-says : goal.returns-clause-says
returns-clause-says c =
    let word : Some c.in_ok-get_str.field-0.now ≡ first_of c.args.id.now (rows_of (found_of c.args.values.now)) =
    c.in_ok-get_str.ensures ∙ first_value-rows (found_of c.args.values.now) c.args.id.now in
    subst (λ (o : Option Text). IfSome c.switch_of.result (λ f. SaysSwitch o f)) word (some-says switch_word c.switch_of.result c.in_ok-get_str.field-0.now c.switch_of.ensures.says)

pub returns-clause-none : goal.returns-clause-none
returns-clause-none c =
    let word : Some c.in_ok-get_str.field-0.now ≡ first_of c.args.id.now (rows_of (found_of c.args.values.now)) =
    c.in_ok-get_str.ensures ∙ first_value-rows (found_of c.args.values.now) c.args.id.now in
    subst (λ (o : Option Text). IfNone c.switch_of.result ((f : Bool) → ¬ SaysSwitch o f)) word (none-says switch_word c.switch_of.result c.in_ok-get_str.field-0.now c.switch_of.ensures.none)

pub returns-in_err-get_str-clause-none : goal.returns-in_err-get_str-clause-none
returns-in_err-get_str-clause-none c =
    let none : None ≡ first_of c.args.id.now (rows_of (found_of c.args.values.now)) =
    c.in_err-get_str.ensures ∙ first_value-rows (found_of c.args.values.now) c.args.id.now in
    let never : (f : Bool) → ¬ SaysSwitch (first_of c.args.id.now (rows_of (found_of c.args.values.now))) f =
    λ f h. let there : None ≡ Some (switch_word f) = none ∙ h in absurd (cc) in
    elim c.from_residual.result as (λ (o : Option Bool). IfNone o ((f : Bool) → ¬ SaysSwitch (first_of c.args.id.now (rows_of (found_of c.args.values.now))) f)) [ None ↦ never | Some f ↦ tt ]
