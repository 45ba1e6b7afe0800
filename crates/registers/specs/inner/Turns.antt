-- Cycles and lifetimes told by turns. A cycle is told as a point: its turns, the whole intervals before it, and the cycles beyond them, in one
-- number. No interval is longer than 16,384 cycles, so each turn has 16,384 points.
use Rattle.std.specs.Prelude.{ℕ, ◌+◌, ◌-◌, ◌*◌, ◌/◌, ◌%◌}
use Rattle.machine_data.specs.declared.limits.TheConstants.{MAX_INTERVAL}
use Rattle.registers.specs.declared.lifetime.Lifetime.{Lifetime}
use Rattle.registers.specs.declared.values.turns.Arc.{Arc}

abbrev pub point_of : ℕ → ℕ → ℕ
point_of ii cycle = (cycle / ii) * MAX_INTERVAL + cycle % ii

-- how far a value begins after the origin, with the number 0; there are 2^33 turns more for each register, so that this is never below 0
abbrev pub begin_of : ℕ → ℕ → ℕ → Lifetime → ℕ
begin_of ii registers origin life = point_of ii life.first + (registers * 140737488355328 - origin)

-- where a value lies around the registers
abbrev pub arc_of : ℕ → ℕ → ℕ → Lifetime → Arc
arc_of ii registers origin life = record {
  turn = (begin_of ii registers origin life / MAX_INTERVAL) % registers;
  phase = begin_of ii registers origin life % MAX_INTERVAL;
  length = point_of ii life.last - point_of ii life.first;
}
