use Rattle.std.proofs.Common.{◌≡◌, ◌∙◌, Option, Some, None, IfNone, ap, codes, refl, sym, true, false}
use Rattle.std.specs.Str.{bytes_eq}
use Rattle.std.proofs.lemmas.Slice.Eq.{bytes_eq-Decides}
use Rattle.clap.specs.Words.{Text, found_of, first_of, rows_of}
use Rattle.clap.proofs.WalkLemmas.{first_value-rows}
use Rattle.settings.specs.declared.format.Format.{Format}
use Rattle.settings.specs.Formats.{format_word}
use Rattle.command_line.specs.declared.command.Search.{Search}
use Rattle.command_line.specs.Lines.{IsSearchGiven, SaysFormat}
use Rattle.command_line.proofs.LineLemmas.{explain-searches}
use Rattle.command_line.proofs.line.given.explain_given.Goals as goal

pub returns-in_err-word-clause-none : goal.returns-in_err-word-clause-none
returns-in_err-word-clause-none c =
    let none : None ≡ first_of (codes "format") (rows_of (found_of c.args.values.now)) =
    c.in_err-word.ensures ∙ first_value-rows (found_of c.args.values.now) (codes "format") in
    let formats : (f : Format) → ¬ SaysFormat (first_of (codes "format") (rows_of (found_of c.args.values.now))) f =
    λ f h. let there : None ≡ Some (format_word f) = none ∙ h in absurd (cc) in
    let page : ¬ (first_of (codes "format") (rows_of (found_of c.args.values.now)) ≡ Some (codes "html")) =
    λ h. let there : None ≡ Some (codes "html") = none ∙ h in absurd (cc) in
    let never = explain-searches (rows_of (found_of c.args.values.now)) formats page in
    elim c.from_residual.result as (λ (o : Option Search). IfNone o ((s : Search) → ¬ IsSearchGiven s (codes "explain") (rows_of (found_of c.args.values.now)))) [ None ↦ never | Some s ↦ tt ]

pub returns-then-eq-clause-meant : goal.returns-then-eq-clause-meant
returns-then-eq-clause-meant c =
    let word : Some c.in_ok-word.word.now ≡ first_of (codes "format") (rows_of (found_of c.args.values.now)) =
    c.in_ok-word.ensures ∙ first_value-rows (found_of c.args.values.now) (codes "format") in
    let page : c.in_ok-word.word.now ≡ codes "html" = (bytes_eq-Decides c.in_ok-word.word.now (codes "html")).0 (sym c.if-eq.ensures) in
    (refl, sym word ∙ ap (λ (t : Text). Some t) page)

pub returns-in-Some-clause-meant : goal.returns-in-Some-clause-meant
returns-in-Some-clause-meant c =
    let word : Some c.in_ok-word.word.now ≡ first_of (codes "format") (rows_of (found_of c.args.values.now)) =
    c.in_ok-word.ensures ∙ first_value-rows (found_of c.args.values.now) (codes "format") in
    (refl, sym word ∙ ap (λ (t : Text). Some t) c.in-Some.ensures.says)

pub returns-in-None-clause-none : goal.returns-in-None-clause-none
returns-in-None-clause-none c =
    let word : Some c.in_ok-word.word.now ≡ first_of (codes "format") (rows_of (found_of c.args.values.now)) =
    c.in_ok-word.ensures ∙ first_value-rows (found_of c.args.values.now) (codes "format") in
    let formats : (f : Format) → ¬ SaysFormat (first_of (codes "format") (rows_of (found_of c.args.values.now))) f =
    λ f h. let there : Some c.in_ok-word.word.now ≡ Some (format_word f) = word ∙ h in let same : c.in_ok-word.word.now ≡ format_word f = cc in c.in-None.ensures.none f same in
    let page : ¬ (first_of (codes "format") (rows_of (found_of c.args.values.now)) ≡ Some (codes "html")) =
    λ h. let there : Some c.in_ok-word.word.now ≡ Some (codes "html") = word ∙ h in
    let same : c.in_ok-word.word.now ≡ codes "html" = cc in
    let is : bytes_eq c.in_ok-word.word.now (codes "html") ≡ true = (bytes_eq-Decides c.in_ok-word.word.now (codes "html")).1 same in
    let apart : false ≡ true = c.if-eq.ensures ∙ is in absurd (cc) in
    explain-searches (rows_of (found_of c.args.values.now)) formats page
