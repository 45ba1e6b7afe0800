use Rattle.std.proofs.Common.{◌≡◌, ◌∙◌, ap, refl, sym, inl, inr, codes, List, ℕ, Some}
use Rattle.clap.specs.Words.{found_of, first_of, rows_of}
use Rattle.clap.proofs.WalkLemmas.{first_value-rows}
use Rattle.command_line.proofs.LineLemmas.{solve-formless, solve-none}
use Rattle.command_line.proofs.line.given.solve_given.Goals as goal
use Rattle.command_line.proofs.line.given.solve_given.Goals.{in_default-2-via-in-Some+in_default, in_default-2-via-in_default}

pub returns-in_ok-from_str-in-Some-Some-clause-meant : goal.returns-in_ok-from_str-in-Some-Some-clause-meant
returns-in_ok-from_str-in-Some-Some-clause-meant c =
    let problems : Some c.in-Some-Some.problems.now ≡ first_of (codes "problems") (rows_of (found_of c.args.values.now)) =
    c.in-Some-Some.ensures ∙ first_value-rows (found_of c.args.values.now) (codes "problems") in (
      refl,
      sym problems ∙ ap (λ (text : List ℕ). Some text) (sym c.in_ok-from_str-in-Some-Some.ensures.ok),
      c.in-Some-Some.ensures'.say,
      c.in-Some.ensures.says,
    )

pub returns-in_default-clause-none : goal.returns-in_default-clause-none
returns-in_default-clause-none c = solve-formless (rows_of (found_of c.args.values.now)) c.in_default.ensures.none

pub returns-in_default-2-clause-none : goal.returns-in_default-2-clause-none
returns-in_default-2-clause-none c =
    solve-none (rows_of (found_of c.args.values.now))
    (elim c.in_default-2.branch [
      | in_default-2-via-in-Some+in_default w ↦ inr w.in_default-2.ensures'.none
      | in_default-2-via-in_default w ↦ inl (sym (w.in_default-2.ensures ∙ first_value-rows (found_of c.args.values.now) (codes "problems")))
    ])
