use Rattle.std.proofs.Common.{◌≡◌, ◌∙◌, ap, sym, subst, Option, Some, IfOk}
use Rattle.loop_lines.specs.Columns.{Placed}
use Rattle.solution_reader.specs.Data.{number_of_name}
use Rattle.solution_reader.specs.Resolved.{solution_at}
use Rattle.problem_faults.specs.declared.refused_solutions.SolutionFault.{SolutionFault}
use Rattle.problem_printouts.specs.Judging.{problem_names}
use Rattle.problem_printouts.proofs.Named.{known-below}
use Rattle.problem_printouts.proofs.Strangers.{unknown-by-draft}
use Rattle.problem_printouts.proofs.unknown.unknown_of.Goals as goal

pub draft-requires : goal.draft-requires
draft-requires c = known-below c.args.file.now c.args.numbers.now c.name-name.result.bytes.now c.in-Some.problem.now c.requires.known (sym c.in-Some.ensures.value)

pub returns-in_ok-draft-in-Some : goal.returns-in_ok-draft-in-Some
returns-in_ok-draft-in-Some c =
    let file = c.args.file.now in
    let s = solution_at c.args.list.now c.args.number in
    let number = c.in-Some.problem.now in
    let word : c.name-name.result.bytes.now ≡ s.head.name.bytes = ap (λ (p : Placed). p.bytes) c.name-name.ensures in
    let found : number_of_name (problem_names file) s.head.name.bytes ≡ Some number =
    ap (number_of_name (problem_names file)) (sym word) ∙ sym (c.requires.known.each c.name-name.result.bytes.now) ∙ sym c.in-Some.ensures.value in
    subst (λ (o : Option SolutionFault). IfOk c.unknown.result (λ fault. fault ≡ o)) (unknown-by-draft file s number c.in_ok-draft-in-Some.draft c.in_ok-draft-in-Some.ensures.exact found) c.unknown.ensures
