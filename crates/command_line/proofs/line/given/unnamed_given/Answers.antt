use Rattle.std.proofs.Common.{◌≡◌, ◌∙◌, ap, sym, inl, inr, codes, List, ℕ, Some}
use Rattle.clap.specs.Words.{found_of, first_of, rows_of}
use Rattle.clap.proofs.WalkLemmas.{first_value-rows}
use Rattle.command_line.proofs.LineLemmas.{problems-none}
use Rattle.command_line.proofs.line.given.unnamed_given.Goals as goal
use Rattle.command_line.proofs.line.given.unnamed_given.Goals.{in_default-via-in-Some+in_default, in_default-via-in_default}

pub returns-in_ok-from_str-in-Some-Some-clause-meant : goal.returns-in_ok-from_str-in-Some-Some-clause-meant
returns-in_ok-from_str-in-Some-Some-clause-meant c alone unnamed =
    let problems : Some c.in-Some-Some.problems.now ≡ first_of (codes "machine") (rows_of (found_of c.args.values.now)) =
    c.in-Some-Some.ensures ∙ first_value-rows (found_of c.args.values.now) (codes "machine") in (
      sym problems ∙ ap (λ (text : List ℕ). Some text) (sym c.in_ok-from_str-in-Some-Some.ensures.ok),
      alone,
      unnamed,
      c.in-Some-Some.ensures'.meant,
    )

pub returns-in_default-clause-none : goal.returns-in_default-clause-none
returns-in_default-clause-none c =
    problems-none (rows_of (found_of c.args.values.now)) c.args.name.now
    (elim c.in_default.branch [
      | in_default-via-in-Some+in_default w ↦ inr w.in_default.ensures'.none
      | in_default-via-in_default w ↦ inl (sym (w.in_default.ensures ∙ first_value-rows (found_of c.args.values.now) (codes "machine")))
    ])
