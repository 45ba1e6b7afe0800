-- A solution as JSON.
use Rattle.std.specs.Prelude.{if◌then◌else◌, codes, length}
use Rattle.std.specs.List.{list_any, range_with_len}
use Rattle.serde_json.specs.Data.{Data, null, array, object, member, no_members}
use Rattle.serde_json.specs.View.{items_of}
use Rattle.schedules.specs.Schedules.{stages_of}
use Rattle.solutions.specs.Copies.{unroll_of}
use Rattle.solutions.specs.Solutions.{SolutionData, schedule_of}
use Rattle.solution_text.specs.Files.{is_free}
use Rattle.solution_json.specs.Operations.{operation_object}
use Rattle.solution_json.specs.Parts.{array_of, count_value}
use Rattle.solution_json.specs.Values.{file_object, initials, value_object}

-- how often the body of a loop is repeated, so that each instance has a name of its own; `null` where no file is unallotted
abbrev pub unroll_value : SolutionData → Data
unroll_value s = if list_any is_free s.problem.draft.files.items then count_value (unroll_of s) else null

-- the interval and the stages of a solution, and all its operations, values, initial values and files, in order
unfoldable pub solution_object : SolutionData → Data
solution_object s =
    object (member (codes "files") (array_of (file_object s) (range_with_len 0 (length s.problem.draft.files.items)))
    (member (codes "ii") (count_value s.ii)
    (member (codes "initials") (array (items_of (initials s)))
    (member (codes "operations") (array_of (operation_object s) (range_with_len 0 (length s.problem.scheduling.operations)))
    (member (codes "stages") (count_value (stages_of (schedule_of s)))
    (member (codes "unroll") (unroll_value s)
    (member (codes "values") (array_of (value_object s) (range_with_len 0 (length s.problem.draft.values.items))) no_members)))))))
