-- What is told of a problem has whole numbers alone.
use Rattle.std.proofs.Common.{◌≡◌, ℕ, ◌+◌, ℤ, pos, negsuc, Bool, true, false, ◌||◌, List, [], ◌∷◌, ◌++◌, length, map, Option, Some, None, refl, ap₂, ap, ◌∙◌}
use Rattle.std.specs.Prelude.{if◌then◌else◌, option_map, slice_get, slice_index}
use Rattle.std.specs.List.{cons_option, filter_map, flat_map, list_any, range_with_len}
use Rattle.serde_json.specs.Data.{Data, null, number, string}
use Rattle.serde_json.specs.Find.{of_integer}
use Rattle.serde_json.specs.View.{items_of}
use Rattle.serde_json.specs.Written.{has_float, items_have_float}
use Rattle.edges.specs.Edges.{EdgeData}
use Rattle.walks.specs.Walks.{delay_of}
use Rattle.mrt.specs.Placements.{rows_of}
use Rattle.modulo.specs.declared.outcome.attempts.Culprit.{Culprit}
use Rattle.modulo.specs.declared.outcome.attempts.Culprit.TheVariants.{Blocked, Unplaced, Late}
use Rattle.problems.specs.declared.draft.Draft.{Draft}
use Rattle.problems.specs.declared.draft.File.{File}
use Rattle.problems.specs.declared.draft.File.TheVariants.{Rotating, Unallotted}
use Rattle.problems.specs.Problems.{ProblemData}
use Rattle.instances.specs.Runs.{carried_by}
use Rattle.solutions.specs.Copies.{unroll_of}
use Rattle.solutions.specs.Runs.{run_of}
use Rattle.solutions.specs.Solutions.{SolutionData}
use Rattle.solutions.specs.declared.solving.outcome.Cause.{Cause}
use Rattle.solutions.specs.declared.solving.outcome.Cause.TheVariants.{Table, Budget, Stages, Registers}
use Rattle.solutions.specs.declared.solving.outcome.Outcome.{Outcome}
use Rattle.solutions.specs.declared.solving.outcome.Outcome.TheVariants.{Met, Failed}
use Rattle.solution_text.specs.declared.named.Register.{Register}
use Rattle.outcome_text.specs.Notes.{stops_of}
use Rattle.solution_text.specs.Files.{is_free}
use Rattle.solution_text.specs.Names.{op_name, unit_name}
use Rattle.solution_text.specs.Registers.{opening_of}
use Rattle.solution_text.specs.Values.{file_of}
use Rattle.solution_json.specs.Bounds.{circuit_value}
use Rattle.solution_json.specs.Failures.{culprit_object, culprit_value, found_value}
use Rattle.solution_json.specs.Operations.{hold_object, operation_object, registers_read, registers_written}
use Rattle.solution_json.specs.Outcomes.{IsObjectOf, failed_object, head_members, met_object}
use Rattle.solution_json.specs.Parts.{array_of, count_value, op_names, register_object, unit_names}
use Rattle.solution_json.specs.Solutions.{solution_object}
use Rattle.solution_json.specs.Values.{copies_value, file_object, initial_at, initial_object, initials, initials_of, number_value, size_value, value_object}

-- a value, or each of some, has whole numbers alone
abbrev IsWhole : Data → Type 0
IsWhole d = has_float d ≡ false

abbrev AreWhole : List Data → Type 0
AreWhole [] = Unit {0}
AreWhole (d ∷ ds) = IsWhole d × AreWhole ds

neither : (a b : Bool) → a ≡ false → b ≡ false → (a || b) ≡ false
neither a b p q = ap₂ (λ (x y : Bool). x || y) p q

items-whole : (ds : List Data) → AreWhole ds → items_have_float (items_of ds) ≡ false
items-whole [] each = refl
items-whole (d ∷ ds) each = neither _ _ each.0 (items-whole ds each.1)

each-whole : {A : Type 0} (value : A → Data) (list : List A) → ((x : A) → IsWhole (value x)) → AreWhole (map value list)
each-whole value [] each = tt
each-whole value (x ∷ xs) each = (each x, each-whole value xs each)

array-whole : {A : Type 0} (value : A → Data) (list : List A) → ((x : A) → IsWhole (value x)) → IsWhole (array_of value list)
array-whole value list each = items-whole (map value list) (each-whole value list each)

integer-whole : (z : ℤ) → IsWhole (number (of_integer z))
integer-whole (pos n) = refl
integer-whole (negsuc n) = refl

op_names-whole : (draft : Draft) (ops : List ℕ) → IsWhole (op_names draft ops)
op_names-whole draft ops = array-whole (λ op. string (op_name draft op)) ops (λ _. refl)

registers-whole : (draft : Draft) (registers : List Register) → IsWhole (array_of (register_object draft) registers)
registers-whole draft registers = array-whole (register_object draft) registers (λ _. refl)

operation-whole : (s : SolutionData) (op : ℕ) → IsWhole (operation_object s op)
unfolding operation_object
operation-whole s op =
    neither _ _ (array-whole (hold_object s.problem.draft) (rows_of s.problem.scheduling.operations op (slice_index s.choices op)) (λ _. refl))
    (neither _ _ (registers-whole s.problem.draft (registers_read s op)) (neither _ _ (registers-whole s.problem.draft (registers_written s op)) refl))

copies-whole : (s : SolutionData) (value : ℕ) (kind : Option File) → IsWhole (copies_value s value kind)
copies-whole s value None = refl
copies-whole s value (Some (Rotating registers)) = refl
copies-whole s value (Some Unallotted) = refl

number-whole : (s : SolutionData) (value : ℕ) (kind : Option File) → IsWhole (number_value s value kind)
number-whole s value None = refl
number-whole s value (Some (Rotating registers)) = refl
number-whole s value (Some Unallotted) = refl

value-whole : (s : SolutionData) (value : ℕ) → IsWhole (value_object s value)
unfolding value_object
value-whole s value =
    let kind : Option File = slice_get s.problem.draft.files.items (file_of s value) in
    neither _ _ (copies-whole s value kind) (neither _ _ (number-whole s value kind) refl)

option-whole : (draft : Draft) (value iterations : ℕ) (register : Option Register) (ds : List Data) → AreWhole ds
    → AreWhole (cons_option (option_map (initial_object draft value iterations) register) ds)
option-whole draft value iterations None ds each = each
option-whole draft value iterations (Some register) ds each = (refl, each)

chosen-whole : (s : SolutionData) (value : ℕ) (ks : List ℕ) → AreWhole (filter_map (λ k. initial_at s value (k + 1)) ks)
unfolding initial_at
chosen-whole s value [] = tt
chosen-whole s value (k ∷ ks) = option-whole s.problem.draft value (k + 1) (opening_of s value (k + 1)) _ (chosen-whole s value ks)

append-whole : (ds es : List Data) → AreWhole ds → AreWhole es → AreWhole (ds ++ es)
append-whole [] es p q = q
append-whole (d ∷ ds) es p q = (p.0, append-whole ds es p.1 q)

several-whole : (s : SolutionData) (values : List ℕ) → AreWhole (flat_map (initials_of s) values)
unfolding initials_of
several-whole s [] = tt
several-whole s (value ∷ values) =
    append-whole _ _ (chosen-whole s value (range_with_len 0 (carried_by (run_of s) value))) (several-whole s values)

size-whole : (kind : Option File) → IsWhole (size_value kind)
size-whole None = refl
size-whole (Some (Rotating registers)) = refl
size-whole (Some Unallotted) = refl

file-whole : (s : SolutionData) (file : ℕ) → IsWhole (file_object s file)
unfolding file_object
file-whole s file = neither _ _ (size-whole (slice_get s.problem.draft.files.items file)) refl

unroll-whole : (some : Bool) (n : ℕ) → IsWhole (if some then count_value n else null)
unroll-whole true n = refl
unroll-whole false n = refl

solution-whole : (s : SolutionData) → IsWhole (solution_object s)
unfolding solution_object
solution-whole s =
    neither _ _ (array-whole (file_object s) (range_with_len 0 (length s.problem.draft.files.items)) (file-whole s))
    (neither _ _ (items-whole (initials s) (several-whole s (range_with_len 0 (length s.problem.draft.values.items))))
    (neither _ _ (array-whole (operation_object s) (range_with_len 0 (length s.problem.scheduling.operations)) (operation-whole s))
    (neither _ _ (unroll-whole (list_any is_free s.problem.draft.files.items) (unroll_of s))
    (neither _ _ (array-whole (value_object s) (range_with_len 0 (length s.problem.draft.values.items)) (value-whole s)) refl))))

circuit-whole : (draft : Draft) (circuit : List EdgeData) → IsWhole (circuit_value draft circuit)
circuit-whole draft [] = refl
circuit-whole draft (e ∷ circuit) =
    neither _ _ (integer-whole (delay_of (e ∷ circuit))) (neither _ _ (op_names-whole draft (stops_of (e ∷ circuit))) refl)

culprit_object-whole : (draft : Draft) (culprit : Culprit) → IsWhole (culprit_object draft culprit)
culprit_object-whole draft (Blocked op) = refl
culprit_object-whole draft (Unplaced ops) = neither _ _ (op_names-whole draft ops.items) refl
culprit_object-whole draft (Late op time) = refl

found-whole : (draft : Draft) (found : Option Culprit) → IsWhole (found_value draft found)
found-whole draft None = refl
found-whole draft (Some culprit) = culprit_object-whole draft culprit

culprit-whole : (draft : Draft) (cause : Cause) (found : Option Culprit) → IsWhole (culprit_value draft cause found)
culprit-whole draft Table found = found-whole draft found
culprit-whole draft Budget found = found-whole draft found
culprit-whole draft Stages found = found-whole draft found
culprit-whole draft (Registers file value) found = refl

unit_names-whole : (draft : Draft) (units : List ℕ) → IsWhole (unit_names draft units)
unit_names-whole draft units = array-whole (λ unit. string (unit_name draft unit)) units (λ _. refl)

met-whole : (name : List ℕ) (problem : ProblemData) (circuit : List EdgeData) (units : List ℕ) (s : SolutionData) → IsWhole (met_object name problem circuit units s)
unfolding met_object head_members
met-whole name problem circuit units s =
    neither _ _ (circuit-whole problem.draft circuit) (neither _ _ (unit_names-whole problem.draft units) (neither _ _ (solution-whole s) refl))

failed-whole : (name : List ℕ) (problem : ProblemData) (circuit : List EdgeData) (units : List ℕ) (cause : Cause) (found : Option Culprit)
    → IsWhole (failed_object name problem circuit units cause found)
unfolding failed_object head_members
failed-whole name problem circuit units cause found =
    neither _ _ (circuit-whole problem.draft circuit) (neither _ _ (culprit-whole problem.draft cause found) (neither _ _ (unit_names-whole problem.draft units) refl))

pub object-whole : (name : List ℕ) (problem : ProblemData) (circuit : List EdgeData) (units : List ℕ) (outcome : Outcome) (told : Data)
    → IsObjectOf name problem circuit units outcome told → has_float told ≡ false
object-whole name problem circuit units (Met s) told is = ap has_float is ∙ met-whole name problem circuit units s
object-whole name problem circuit units (Failed cause) told is = ap has_float is.2 ∙ failed-whole name problem circuit units cause is.0
