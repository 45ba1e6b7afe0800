-- Numbers where they stand in a line.
use Rattle.std.specs.Prelude.{◌-◌, ◌^◌, min, length, unwrap_or}
use Rattle.std.specs.Str.Parse.{digits_value}
use Rattle.loop_lines.specs.Forms.{int_of}
use Rattle.loop_lines.specs.Columns.{Placed}
use Rattle.problem_lines.specs.declared.number.Number.{Number}
use Rattle.problem_lines.specs.declared.number.Integer.{Integer}
use Rattle.std.specs.Prelude.{None}

-- the number that a word of digits is, or 2 ^ 64 - 1 where that is above
abbrev pub number_of : Placed → Number
number_of w = record { value = min (digits_value 10 w.bytes) (2 ^ 64 - 1); column = w.column; width = length w.bytes }

-- the integer that a word of digits, or of `-` and digits, is; none where it does not fit 64 bits
abbrev pub integer_of : Placed → Integer
integer_of w = record { value = unwrap_or (int_of w.bytes) None; column = w.column; width = length w.bytes }
