use Rattle.std.proofs.Common.{◌≡◌, ◌∙◌, ap, sym, false, rules, Some}
use Rattle.problem_lines.specs.SolutionParsed.{solution_form_seen}
use Rattle.solution_reader.specs.declared.fault.Told.{Told}
use Rattle.problem_faults.specs.declared.refused_solutions.Wrong.{Wrong}
use Rattle.problem_faults.specs.declared.refused_solutions.Wrong.TheVariants as wrong
use Rattle.solution_reader.specs.inner.Steps.{may_stand}
use Rattle.solution_reader.specs.inner.Taken.{sofar_seen}
use Rattle.solution_reader.proofs.sofar.Sofar.take_line.Goals as goal

pub returns-then-not-may_stand-clause-fault : goal.returns-then-not-may_stand-clause-fault
returns-then-not-may_stand-clause-fault c =
    let no : c.may_stand.result ≡ false = search rules in
    let outside : may_stand (sofar_seen c.args.self.now).begun.head (solution_form_seen c.args.line.form) ≡ false = sym c.may_stand.ensures ∙ no in
    rw outside (sym (ap Some (c.told.ensures ∙ ap (λ (f : Wrong → Told). f wrong.Place) c.of_line-at.ensures)))
