use Rattle.std.proofs.Common.{◌≡◌, ◌∙◌, ap, sym, codes, List, ℕ, Option, Some, None, IfSome, subst}
use Rattle.clap.specs.Words.{found_of, first_of, rows_of}
use Rattle.clap.proofs.WalkLemmas.{first_value-rows}
use Rattle.command_line.specs.declared.command.Work.{Work}
use Rattle.command_line.specs.Lines.{IsWorkGiven}
use Rattle.command_line.proofs.line.given.loops_given.Goals as goal

pub returns-in_ok-names_given-in-Some-get_str-clause-meant : goal.returns-in_ok-names_given-in-Some-get_str-clause-meant
returns-in_ok-names_given-in-Some-get_str-clause-meant c =
    let loops : Some c.in-Some-get_str.loops.now ≡ first_of (codes "loops") (rows_of (found_of c.args.values.now)) =
    c.in-Some-get_str.ensures ∙ first_value-rows (found_of c.args.values.now) (codes "loops") in (
      sym loops ∙ ap (λ (text : List ℕ). Some text) (sym c.in_ok-from_str-in-Some-get_str.ensures.ok),
      sym c.in_ok-names_given-in-Some-get_str.ensures,
      subst (λ (o : Option Work). IfSome o (λ w. IsWorkGiven w c.args.name.now (rows_of (found_of c.args.values.now)))) c.in-Some.is c.in_ok-work.ensures.meant,
    )

pub returns-in-None-clause-none : goal.returns-in-None-clause-none
returns-in-None-clause-none c path names work h =
    let none : None ≡ first_of (codes "loops") (rows_of (found_of c.args.values.now)) =
    c.in-None.ensures ∙ first_value-rows (found_of c.args.values.now) (codes "loops") in
    let there = h.0 in absurd (cc)
