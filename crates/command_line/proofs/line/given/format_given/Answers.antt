use Rattle.std.proofs.Common.{◌≡◌, ◌∙◌, codes, Option, Some, None, IfSome, IfNone, subst}
use Rattle.clap.specs.Words.{Text, found_of, first_of, rows_of}
use Rattle.clap.proofs.WalkLemmas.{first_value-rows}
use Rattle.settings.specs.declared.format.Format.{Format}
use Rattle.command_line.specs.Lines.{SaysFormat}
use Rattle.settings.specs.Formats.{format_word}
use Rattle.command_line.proofs.LineLemmas.{none-says, some-says}
use Rattle.command_line.proofs.line.given.format_given.Goals as goal

pub returns-clause-says : goal.returns-clause-says
returns-clause-says c =
    let word : Some c.in_ok-get_str.field-0.now ≡ first_of (codes "format") (rows_of (found_of c.args.values.now)) =
    c.in_ok-get_str.ensures ∙ first_value-rows (found_of c.args.values.now) (codes "format") in
    subst (λ (o : Option Text). IfSome c.named.result (λ f. SaysFormat o f)) word (some-says format_word c.named.result c.in_ok-get_str.field-0.now c.named.ensures.says)

pub returns-clause-none : goal.returns-clause-none
returns-clause-none c =
    let word : Some c.in_ok-get_str.field-0.now ≡ first_of (codes "format") (rows_of (found_of c.args.values.now)) =
    c.in_ok-get_str.ensures ∙ first_value-rows (found_of c.args.values.now) (codes "format") in
    subst (λ (o : Option Text). IfNone c.named.result ((f : Format) → ¬ SaysFormat o f)) word (none-says format_word c.named.result c.in_ok-get_str.field-0.now c.named.ensures.none)

pub returns-in_err-get_str-clause-none : goal.returns-in_err-get_str-clause-none
returns-in_err-get_str-clause-none c =
    let none : None ≡ first_of (codes "format") (rows_of (found_of c.args.values.now)) =
    c.in_err-get_str.ensures ∙ first_value-rows (found_of c.args.values.now) (codes "format") in
    let never : (f : Format) → ¬ SaysFormat (first_of (codes "format") (rows_of (found_of c.args.values.now))) f =
    λ f h. let there : None ≡ Some (format_word f) = none ∙ h in absurd (cc) in
    elim c.from_residual.result as (λ (o : Option Format). IfNone o ((f : Format) → ¬ SaysFormat (first_of (codes "format") (rows_of (found_of c.args.values.now))) f)) [ None ↦ never | Some f ↦ tt ]
