-- What the operations of a schedule are stated to be.
use Rattle.std.proofs.Common.{◌≡◌, ℕ, ◌<◌, ◌≤◌, List, [], length, Some, ap, arith}
use Rattle.std.specs.Prelude.{slice_get}
use Rattle.std.specs.List.{All, slice_index_or}
use Rattle.std.proofs.lemmas.List.Elements.{All-get_or}
use Rattle.machine_data.specs.declared.alternative.Row.{Row}
use Rattle.machine_data.specs.declared.opcode.Opcode.{Opcode}
use Rattle.machine_data.specs.declared.opcode.Opcode.TheVariants.{Load, Store, Sel, Mov}
use Rattle.machine_data.specs.Alternative.{AreAlternatives}
use Rattle.loop_data.specs.declared.language.statement.Statement.{Statement}
use Rattle.loop_data.specs.Arithmetic.{operands_of}
use Rattle.loop_data.specs.Loops.{LoopData, HasShape, IsLoop, MayRead}

operands-few : (opcode : Opcode) → operands_of opcode ≤ 3
operands-few Load = omega arith
operands-few Store = omega arith
operands-few Sel = omega arith
operands-few Mov = omega arith
operands-few opcode = omega arith

-- a statement has at most three operands
few-operands : (opcode : Opcode) (s : Statement) → HasShape opcode s → length s.operands ≤ 3
few-operands Load s h = let e = ap length h.2 in omega arith
few-operands Store s h = let e = h.3 in omega arith
few-operands opcode s h = let e = h.2 in let f = operands-few opcode in omega arith

pub operands-limited : (loop : LoopData) → IsLoop loop → (q : ℕ) (s : Statement) → slice_get loop.statements q ≡ Some s → length s.operands ≤ 3
operands-limited loop is q s there = few-operands s.opcode s (is.each q s there).shape

pub operands-may : (loop : LoopData) → IsLoop loop → (q : ℕ) (s : Statement) → slice_get loop.statements q ≡ Some s → (reader : ℕ) × All (MayRead loop reader) s.operands
operands-may loop is q s there = (q, (is.each q s there).operands)

-- an operation has at most 16 alternatives
pub alternatives-few : (operations : List (List (List Row))) → All AreAlternatives operations → (op : ℕ) → op < length operations → length (slice_index_or operations op []) ≤ 16
alternatives-few operations all op lt = (All-get_or AreAlternatives operations op [] lt all).few
