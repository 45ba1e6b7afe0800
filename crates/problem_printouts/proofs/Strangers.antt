-- Names that are unknown.
use Rattle.std.proofs.Common.{◌≡◌, ◌≢◌, ℕ, ◌+◌, ◌<◌, Bool, true, false, List, [], ◌∷◌, length, drop, Option, Some, None, sym, ◌∙◌, ap, option_map}
use Rattle.std.specs.Option.{option_or}
use Rattle.std.proofs.lemmas.List.{at_drop_more}
use Rattle.problems.specs.declared.draft.Draft.{Draft}
use Rattle.problem_tables.specs.Data.{FileData}
use Rattle.problem_reader.specs.Files.{IsDraftOf, machine_at, problem_at}
use Rattle.solution_reader.specs.Data.{OpData, ValueData, SolutionData as TextSolution, has_name, number_of_name}
use Rattle.solution_reader.specs.Resolved.{earlier, first_op_failing, first_value_failing, no_solution, solution_at, unknown_at, unknown_in}
use Rattle.problem_faults.specs.declared.refused_solutions.Part.{Part}
use Rattle.problem_faults.specs.declared.refused_solutions.SolutionFault.{SolutionFault}
use Rattle.problem_faults.specs.declared.refused_solutions.Wrong.TheVariants as wrong
use Rattle.std.specs.Prelude.{nat_lt, if◌then◌else◌}
use Rattle.problem_printouts.specs.Judging.{first_unknown, problem_names, unknown_by, unknown_of}

-- no such fault is `Memory`

-- a fault that is told, if one is, is not `Memory`
abbrev NoMemory : Option SolutionFault → Type 0
NoMemory told = (fault : SolutionFault) → told ≡ Some fault → fault.what ≢ wrong.Memory

unknown-one : (line : ℕ) (name : _) (what : Part) → NoMemory (Some (unknown_at line name what))
unknown-one line name what fault is bad =
    let same : unknown_at line name what ≡ fault = cc in
    let never : wrong.Unknown what ≡ wrong.Memory = ap (λ (f : SolutionFault). f.what) same ∙ bad in
    cc

none-told : NoMemory None
none-told fault is = absurd (cc)

op-one : (o : Option OpData) (what : Part) → NoMemory (option_map (λ (o : OpData). unknown_at o.line o.name what) o)
op-one None what = none-told
op-one (Some o) what = unknown-one o.line o.name what

value-one : (o : Option ValueData) (what : Part) → NoMemory (option_map (λ (o : ValueData). unknown_at o.line o.name what) o)
value-one None what = none-told
value-one (Some o) what = unknown-one o.line o.name what

which-one : (b : Bool) (one other : Option SolutionFault) → NoMemory one → NoMemory other → NoMemory (if b then other else one)
which-one true one other a b = b
which-one false one other a b = a

earlier-one : (one other : Option SolutionFault) → NoMemory one → NoMemory other → NoMemory (earlier one other)
earlier-one None other a b = b
earlier-one (Some one) None a b = a
earlier-one (Some one) (Some other) a b = which-one (nat_lt other.line one.line) (Some one) (Some other) a b

or-one : (one other : Option SolutionFault) → NoMemory one → NoMemory other → NoMemory (option_or one other)
or-one None other a b = b
or-one (Some one) other a b = a

by-one : (file : FileData) (s : TextSolution) (number : Option ℕ) → NoMemory (unknown_by file s number)
by-one file s None = unknown-one s.head.line s.head.name _
by-one file s (Some number) = earlier-one (first_op_failing (has_name (problem_at file number).operation_names) s.ops) (first_value_failing (has_name (problem_at file number).value_names) s.values)
    (op-one _ _) (value-one _ _)

first-one : (file : FileData) (list : List TextSolution) → NoMemory (first_unknown file list)
first-one file [] = none-told
first-one file (s ∷ list) = or-one (unknown_of file s) (first_unknown file list) (by-one file s (number_of_name (problem_names file) s.head.name.bytes)) (first-one file list)

pub unknown-is-no-memory : (file : FileData) (list : List TextSolution) (fault : SolutionFault) → first_unknown file list ≡ Some fault → fault.what ≢ wrong.Memory
unknown-is-no-memory file list fault is = first-one file list fault is

-- the first of all solutions

-- those before this number have no unknown name
pub record ArePast (file : FileData) (list : List TextSolution) (number : ℕ) : Type 0 where
  pub same : first_unknown file (drop number list) ≡ first_unknown file list

past-here : (file : FileData) (list : List TextSolution) (number : ℕ) → number < length list → ArePast file list number
    → option_or (unknown_of file (solution_at list number)) (first_unknown file (drop (number + 1) list)) ≡ first_unknown file list
past-here file list number low past = sym (at_drop_more (first_unknown file) list number no_solution low) ∙ past.same

pub past-more : (file : FileData) (list : List TextSolution) (number : ℕ) → number < length list → ArePast file list number → None ≡ unknown_of file (solution_at list number) → ArePast file list (number + 1)
past-more file list number low past none = record {
  same = ap (λ o. option_or o (first_unknown file (drop (number + 1) list))) none ∙ past-here file list number low past;
}

pub past-found : (file : FileData) (list : List TextSolution) (number : ℕ) (fault : SolutionFault) → number < length list → ArePast file list number → Some fault ≡ unknown_of file (solution_at list number)
    → Some fault ≡ first_unknown file list
past-found file list number fault low past some =
    ap (λ o. option_or o (first_unknown file (drop (number + 1) list))) some ∙ past-here file list number low past

-- by the draft of a problem
pub unknown-by-draft : (file : FileData) (s : TextSolution) (number : ℕ) (draft : Draft) → IsDraftOf (machine_at file (problem_at file number).machine) (problem_at file number) draft
    → number_of_name (problem_names file) s.head.name.bytes ≡ Some number → unknown_in s draft ≡ unknown_of file s
unknown-by-draft file s number draft is found =
    ap (λ ns. earlier (first_op_failing (has_name ns) s.ops) (first_value_failing (has_name draft.names.values.items) s.values)) is.operation_names
    ∙ ap (λ ns. earlier (first_op_failing (has_name (problem_at file number).operation_names) s.ops) (first_value_failing (has_name ns) s.values)) is.value_names
    ∙ sym (ap (unknown_by file s) found)
