use Rattle.std.proofs.Common.{◌≡◌, ◌∙◌, sym, codes, Some, None}
use Rattle.std.proofs.lemmas.Result.{IfOk-weaker}
use Rattle.clap.specs.Words.{found_of, first_of, rows_of}
use Rattle.clap.proofs.WalkLemmas.{first_value-rows}
use Rattle.command_line.proofs.LineLemmas.{loops-none, no-loops, no-problems, none-weaker}
use Rattle.command_line.proofs.line.given.other_given.Goals as goal

pub returns-in-Some-clause-none : goal.returns-in-Some-clause-none
returns-in-Some-clause-none c solve check lint =
    let there : Some c.in-Some.field-0.now ≡ first_of (codes "loops") (rows_of (found_of c.args.values.now)) =
    c.in-Some.ensures ∙ first_value-rows (found_of c.args.values.now) (codes "loops") in
    IfOk-weaker c.loops_given.result _ _
    (λ found. none-weaker found _ _ (λ none. loops-none (rows_of (found_of c.args.values.now)) c.args.name.now solve check lint none (no-problems _ c.args.name.now _ there)))
    c.loops_given.ensures.none

pub returns-in-None-clause-meant : goal.returns-in-None-clause-meant
returns-in-None-clause-meant c = c.problems_given.ensures.meant (sym (c.in-None.ensures ∙ first_value-rows (found_of c.args.values.now) (codes "loops")))

pub returns-in-None-clause-none : goal.returns-in-None-clause-none
returns-in-None-clause-none c solve check lint =
    let missing : first_of (codes "loops") (rows_of (found_of c.args.values.now)) ≡ None =
    sym (c.in-None.ensures ∙ first_value-rows (found_of c.args.values.now) (codes "loops")) in
    IfOk-weaker c.problems_given.result _ _
    (λ found. none-weaker found _ _ (λ none. loops-none (rows_of (found_of c.args.values.now)) c.args.name.now solve check lint (no-loops _ c.args.name.now missing) none))
    c.problems_given.ensures.none
