-- What the faults of texts are for a command over problems, and what is told of them.
use Rattle.std.specs.Prelude.{ℕ, codes, List, ◌++◌}
use Rattle.problem_faults.specs.declared.refused_problems.TextFault.{TextFault}
use Rattle.problem_faults.specs.ProblemTexts.{fault_text as problem_fault_text}
use Rattle.problem_faults.specs.declared.refused_problems.Wrong.{Wrong as ProblemWrong}
use Rattle.problem_faults.specs.declared.refused_problems.Wrong.TheVariants as problem_wrong
use Rattle.problem_faults.specs.declared.refused_solutions.SolutionFault.{SolutionFault}
use Rattle.problem_faults.specs.declared.refused_solutions.Wrong.{Wrong as SolutionWrong}
use Rattle.problem_faults.specs.declared.refused_solutions.Wrong.TheVariants as solution_wrong
use Rattle.problem_faults.specs.SolutionTexts.{fault_text as solution_fault_text}
use Rattle.problem_faults.specs.declared.fault.ProblemsFault.{ProblemsFault}
use Rattle.problem_faults.specs.declared.fault.ProblemsFault.TheVariants.{Problems, Solutions, Memory}

-- what a fault of the reader of problems is for a command, and one of the reader of solutions

abbrev pub of_problem_wrong : ProblemWrong → TextFault → ProblemsFault
of_problem_wrong problem_wrong.Memory fault = Memory
of_problem_wrong what fault = Problems fault

abbrev pub of_problems : TextFault → ProblemsFault
of_problems fault = of_problem_wrong fault.what fault

abbrev pub of_solution_wrong : SolutionWrong → SolutionFault → ProblemsFault
of_solution_wrong solution_wrong.Memory fault = Memory
of_solution_wrong what fault = Solutions fault

abbrev pub of_solutions : SolutionFault → ProblemsFault
of_solutions fault = of_solution_wrong fault.what fault

-- what is told of a fault
abbrev pub told_of : ProblemsFault → List ℕ
told_of (Problems fault) = codes "problems: " ++ problem_fault_text fault
told_of (Solutions fault) = codes "solutions: " ++ solution_fault_text fault
told_of Memory = codes "out of memory"
