-- What a table stands for, and how operations, their alternatives and their placements are kept.
use Rattle.std.specs.Prelude.{◌≡◌, ℕ, ◌%◌, ◌<◌, ◌≤◌, List, [], length, map, Option, Some, option_map, slice_get}
use Rattle.std.specs.List.{All, slice_index_or, slice_range}
use Rattle.machine_data.specs.declared.alternative.Row.{Row}
use Rattle.mrt.specs.declared.rosters.kinds.Kind.{Kind}
use Rattle.mrt.specs.declared.rosters.roster.Group.{Group}
use Rattle.mrt.specs.declared.rosters.roster.Issue.{Issue}
use Rattle.mrt.specs.Placements.{OperationAlternatives, Placements, Placement, alternatives_of}

-- what a table stands for: an interval, the alternatives of some operations, and their placements
pub record Table : Type 0 where
  pub interval : ℕ
  pub operations : OperationAlternatives
  pub placed : Placements

-- the placement that is kept
abbrev pub placement : Issue → Placement
placement issue = record { time = issue.time; alternative = issue.alternative }

-- the alternatives of a group
abbrev pub group_of : List (List Row) → Group → List (List Row)
group_of alternatives group = slice_range alternatives group.first group.end

-- what the fields stand for
abbrev pub table_of : ℕ → List (List Row) → List Group → List (Option Issue) → Table
table_of ii alternatives groups issues = record { interval = ii; operations = map (group_of alternatives) groups; placed = map (option_map placement) issues }

-- the group is a part of the alternatives
pub record IsGroup (count : ℕ) (group : Group) : Type 0 where
  pub order : group.first ≤ group.end
  pub within : group.end ≤ count

-- the first row of the first alternative
abbrev pub first_row : List (List Row) → Row
first_row alternatives = slice_index_or (slice_index_or alternatives 0 []) 0 (record { unit = 0; offset = 0 })

-- the kind is that of one of the operations
pub record IsKind (operations : OperationAlternatives) (kind : Kind) : Type 0 where
  pub there : kind.operation < length operations
  pub first : kind.first ≡ first_row (slice_index_or operations kind.operation [])

-- what is read after the end of a list of kinds
abbrev pub no_kind : Kind
no_kind = record { operation = 0; first = record { unit = 0; offset = 0 } }

-- the time's residue is kept beside it, and the operation has the alternative
pub record IsIssue (ii : ℕ) (operations : OperationAlternatives) (op : ℕ) (issue : Issue) : Type 0 where
  pub base : issue.base ≡ issue.time % ii
  pub there : issue.alternative < length (alternatives_of operations op)

-- what is kept of operations and their placements
pub record IsRoster (ii : ℕ) (alternatives : List (List Row)) (groups : List Group) (issues : List (Option Issue)) : Type 0 where
  pub whole : length issues ≡ length groups
  pub each_group : All (IsGroup (length alternatives)) groups
  pub each_issue : (op : ℕ) (issue : Issue) → slice_get issues op ≡ Some (Some issue) → IsIssue ii (map (group_of alternatives) groups) op issue
