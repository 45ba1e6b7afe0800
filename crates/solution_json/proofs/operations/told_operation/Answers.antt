use Rattle.std.proofs.Common.{◌≡◌, ◌%◌, ◌∙◌, ℕ, List, ap, refl, subst}
use Rattle.std.specs.Prelude.{codes, IfOk, slice_index}
use Rattle.serde_json.specs.Data.{Data, no_members, object, put, string}
use Rattle.serde_json.specs.View.{members_view, view}
use Rattle.schedules.specs.Schedules.{stage_of}
use Rattle.problems.specs.declared.draft.Draft.{Draft}
use Rattle.problems.specs.Problems.{ProblemData}
use Rattle.solutions.specs.Solutions.{SolutionData, schedule_of}
use Rattle.solution_text.specs.Names.{name_in, op_name}
use Rattle.solution_json.specs.Operations.{holds_array, operation_object, registers_read, registers_written}
use Rattle.solution_json.specs.Parts.{array_of, count_value, register_object}
use Rattle.solution_json.proofs.operations.told_operation.Goals as goal

-- the object, by its counts as they were found
abbrev told : SolutionData → ℕ → ℕ → ℕ → ℕ → ℕ → Data
told s op time alternative row stage =
    object (put (codes "writes") (array_of (register_object s.problem.draft) (registers_written s op))
    (put (codes "reads") (array_of (register_object s.problem.draft) (registers_read s op))
    (put (codes "holds") (holds_array s op)
    (put (codes "stage") (count_value stage)
    (put (codes "row") (count_value row)
    (put (codes "alternative") (count_value alternative)
    (put (codes "time") (count_value time)
    (put (codes "name") (string (op_name s.problem.draft op)) no_members))))))))

same : (s : SolutionData) (op time alternative ii stage : ℕ) → time ≡ slice_index s.times op → alternative ≡ slice_index s.choices op → ii ≡ s.ii
    → stage ≡ stage_of (schedule_of s) op → told s op time alternative (time % ii) stage ≡ operation_object s op
unfolding operation_object
same s op time alternative ii stage a b d e = rw (a, b, d, e) refl

pub returns : goal.returns
returns c =
    let s = c.args.solution.now in
    let op : ℕ = c.args.op in
    let names : c.as_slice-names.result.now ≡ s.problem.draft.names.operations.items
    = c.as_slice-names.ensures.value ∙ ap (λ (d : Draft). d.names.operations.items) (c.draft.ensures.value ∙ ap (λ (p : ProblemData). p.draft) c.problem.ensures.value) in
    let name : IfOk c.told_name-name.result (λ v. view v ≡ string (op_name s.problem.draft op))
    = subst (λ (ns : List (List ℕ)). IfOk c.told_name-name.result (λ v. view v ≡ string (name_in ns op))) names c.told_name-name.ensures in
    let reads = array_of (register_object s.problem.draft) (registers_read s op) in
    let writes = array_of (register_object s.problem.draft) (registers_written s op) in
    let one = put (codes "name") (string (op_name s.problem.draft op)) no_members in
    let two = put (codes "time") (count_value c.time-time.result) one in
    let three = put (codes "alternative") (count_value c.alternative.result) two in
    let four = put (codes "row") (count_value (c.time-time.result % c.ii.result)) three in
    let five = put (codes "stage") (count_value c.stage_of-stage.result) four in
    let six = put (codes "holds") (holds_array s op) five in
    let seven = put (codes "reads") reads six in
    subst (λ (d : Data). IfOk c.object_of.result (λ v. view v ≡ d))
    (same s op c.time-time.result c.alternative.result c.ii.result c.stage_of-stage.result c.time-time.ensures.value c.alternative.ensures.value c.ii.ensures.value
    c.stage_of-stage.ensures.value)
    (c.object_of.ensures (put (codes "writes") writes seven)
    (c.with.ensures seven writes
    (c.with-members-3.ensures six reads
    (c.with-members-2.ensures five (holds_array s op)
    (c.with_count-members-4.ensures four
    (c.with_count-members-3.ensures three
    (c.with_count-members-2.ensures two
    (c.with_count-members.ensures one
    (c.with-members.ensures no_members (string (op_name s.problem.draft op)) (ap members_view c.new.ensures.empty) name)))))
    c.told_holds-holds.ensures) c.told_reads-reads.ensures) c.told_writes-writes.ensures))
