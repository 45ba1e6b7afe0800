-- What a line of a problem text says.
use Rattle.std.specs.Prelude.{◌+◌, Bool, if◌then◌else◌, List, length, Option, Some, None}
use Rattle.std.specs.List.{list_any, before_first, after_first}
use Rattle.problem_lines.specs.Names.{is_at}
use Rattle.loop_lines.specs.Columns.{Placed}
use Rattle.problem_lines.specs.Numbers.{number_of}
use Rattle.problem_lines.specs.declared.number.Number.{Number}
use Rattle.problem_lines.specs.declared.number.Integer.{Integer}
use Rattle.problem_lines.specs.declared.number.Storage.{Storage}

-- a unit's name, and how many cycles after the issue it is held where the text says so
pub record HoldForm : Type 0 where
  pub unit : Placed
  pub offset : Option Number

-- what `UNIT` or `UNIT@NUM` says
abbrev pub hold_of : Placed → HoldForm
hold_of w =
    if list_any is_at w.bytes
    then record {
      unit = record { bytes = before_first is_at w.bytes; column = w.column };
      offset = Some (number_of (record { bytes = after_first is_at w.bytes; column = w.column + length (before_first is_at w.bytes) + 1 }));
    }
    else record { unit = w; offset = None }

pub data Form : Type 0 where
  MachineLine : Placed → Form
  UnitsLine : List Placed → Form
  FileLine : Placed → Storage → Form
  KindLine : Placed → Number → List (List HoldForm) → Form
  ProblemLine : Placed → Form
  -- its name and its kind
  OpLine : Placed → Placed → Form
  -- its name, what makes it, when it lands, its file, and whether it is live at the end
  ValueLine : Placed → Placed → Number → Placed → Bool → Form
  -- the reader and the value, and where they are told the distance and the offset
  ReadLine : Placed → Placed → Option Number → Option Number → Form
  -- from, to, the delay and the distance
  EdgeLine : Placed → Placed → Integer → Number → Form
  EndLine : Form
