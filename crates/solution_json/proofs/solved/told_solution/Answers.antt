use Rattle.std.proofs.Common.{◌≡◌, ℕ, ap, length, subst}
use Rattle.std.specs.Prelude.{codes, IfOk}
use Rattle.std.specs.List.{range_with_len}
use Rattle.serde_json.specs.Data.{array, no_members, object, put}
use Rattle.serde_json.specs.View.{items_of, members_view, view}
use Rattle.solution_json.specs.Operations.{operation_object}
use Rattle.solution_json.specs.Parts.{array_of, count_value}
use Rattle.solution_json.specs.Solutions.{solution_object, unroll_value}
use Rattle.solution_json.specs.Values.{file_object, initials, value_object}
use Rattle.solution_json.proofs.solved.told_solution.Goals as goal

pub returns : goal.returns
unfolding solution_object
returns c =
    let s = c.args.solution.now in
    let draft = s.problem.draft in
    let operations = array_of (operation_object s) (range_with_len 0 (length s.problem.scheduling.operations)) in
    let values = array_of (value_object s) (range_with_len 0 (length draft.values.items)) in
    let first = array (items_of (initials s)) in
    let files = array_of (file_object s) (range_with_len 0 (length draft.files.items)) in
    let one = put (codes "ii") (count_value c.ii.result) no_members in
    let two = put (codes "stages") (count_value c.stages.result) one in
    let three = put (codes "operations") operations two in
    let four = put (codes "values") values three in
    let five = put (codes "initials") first four in
    let six = put (codes "files") files five in
    subst (λ (stages : ℕ). IfOk c.object_of.result (λ v. view v ≡ object (put (codes "unroll") (unroll_value s) (put (codes "files") files (put (codes "initials") first
    (put (codes "values") values (put (codes "operations") operations (put (codes "stages") (count_value stages) (put (codes "ii") (count_value s.ii) no_members)))))))))
    c.stages.ensures.value
    (subst (λ (ii : ℕ). IfOk c.object_of.result (λ v. view v ≡ object (put (codes "unroll") (unroll_value s) (put (codes "files") files (put (codes "initials") first
    (put (codes "values") values (put (codes "operations") operations (put (codes "stages") (count_value c.stages.result) (put (codes "ii") (count_value ii) no_members)))))))))
    c.ii.ensures.value
    (c.object_of.ensures (put (codes "unroll") (unroll_value s) six)
    (c.with.ensures six (unroll_value s)
    (c.with-members-4.ensures five files
    (c.with-members-3.ensures four first
    (c.with-members-2.ensures three values
    (c.with-members.ensures two operations
    (c.with_count-members-2.ensures one (c.with_count-members.ensures no_members (ap members_view c.new.ensures.empty)))
    c.told_operations-operations.ensures) c.told_values-values.ensures) c.told_initials-initials.ensures) c.told_files-files.ensures) c.told_unroll-unroll.ensures)))
