-- The numbers of a line as it is read: they are at most 16 where they are told.
use Rattle.std.specs.Prelude.{◌≡◌, ℕ, ◌≤◌, true, Option, Some, None}
use Rattle.std.specs.List.{AllByRecursion}
use Rattle.loop_data.specs.Names.{is_name}
use Rattle.loop_lines.specs.Forms.{Form, LoopLine, InitLine, StatementLine, Use, At}
use Rattle.loop_lines.specs.Parsed.{use_seen}
use Rattle.loop_lines.specs.declared.form.Use as code

-- a distance, or the number of an initial value, of at most 16
abbrev pub IsNear : Option ℕ → Type 0
IsNear None = Unit {0}
IsNear (Some n) = n ≤ 16

abbrev pub IsNearUse : Use → Type 0
IsNearUse (At name distance) = IsNear distance
IsNearUse _ = Unit {0}

-- numbers of a line that are near, and the name of a line that opens a block
abbrev pub IsNearForm : Form → Type 0
IsNearForm (LoopLine name) = is_name name ≡ true
IsNearForm (InitLine name number value) = IsNear number
IsNearForm (StatementLine source) = AllByRecursion IsNearUse source.uses
IsNearForm _ = Unit {0}

abbrev pub IsNearRead : Option code.Use → Type 0
IsNearRead None = Unit {0}
IsNearRead (Some u) = IsNearUse (use_seen u)
