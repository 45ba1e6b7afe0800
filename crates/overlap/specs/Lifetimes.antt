-- How long the values of a scheduled loop live, in cycles.
use Rattle.std.specs.Prelude.{ℕ, ◌+◌, ◌*◌, ◌==◌, min, max, Bool, if◌then◌else◌, is_some, List, [], ◌∷◌, ◌++◌, length, map, take, zip, Option, Some, None, filter_map, slice_index}
use Rattle.std.specs.List.{list_any}
use Rattle.loop_data.specs.declared.language.statement.Operand.{Operand}
use Rattle.loop_data.specs.declared.language.statement.Operand.TheVariants.{Value}
use Rattle.loop_data.specs.declared.language.statement.Statement.{Statement}
use Rattle.loop_data.specs.Loops.{LoopData}
use Rattle.unit_bound.specs.Units.{greatest_of}
use Rattle.registers.specs.declared.lifetime.Lifetime.{Lifetime}
pub use Rattle.registers.specs.Lifetimes.{IsLiveIn}
use Rattle.loop_schedules.specs.Schedules.{ScheduleData, stages_of}

-- values and their uses

-- the statements from this number on that give a value, by their numbers
abbrev pub values_from : ℕ → List Statement → List ℕ
values_from number [] = []
values_from number (s ∷ statements) = if is_some s.name then number ∷ values_from (number + 1) statements else values_from (number + 1) statements

-- the statements that give a value, in text order
abbrev pub values_of : LoopData → List ℕ
values_of loop = values_from 0 loop.statements

-- the place of a statement's value among the values: how many there are before it
abbrev pub rank_of : LoopData → ℕ → ℕ
rank_of loop statement = length (values_from 0 (take statement loop.statements))

-- the statement `reader` reads the value as it was `distance` iterations ago
pub record Use : Type 0 where
  pub reader : ℕ
  pub distance : ℕ

-- how many iterations ago the value was that an operand reads
abbrev pub distance_to : ℕ → Operand → Option ℕ
distance_to value (Value statement distance) = if statement == value then Some distance else None
distance_to value _ = None

abbrev pub uses_from : ℕ → ℕ → List Statement → List Use
uses_from value reader [] = []
uses_from value reader (s ∷ statements) =
    map (λ distance. record { reader = reader; distance = distance }) (filter_map (distance_to value) s.operands) ++ uses_from value (reader + 1) statements

-- the uses of a value, by their readers; a guard is a use
abbrev pub uses_of : LoopData → ℕ → List Use
uses_of loop value = uses_from value 0 loop.statements

-- the value is live at the end
abbrev pub is_out : LoopData → ℕ → Bool
is_out loop value = list_any (λ o. o == value) loop.outs

-- how many iterations a value is carried on: the greatest distance of its uses, and at least 1 where it is live at the end.
-- It is also how many initial values stand in registers before the first turn
abbrev pub carried : LoopData → ℕ → ℕ
carried loop value = max (greatest_of (map (λ (u : Use). u.distance) (uses_of loop value))) (if is_out loop value then 1 else 0)

-- lifetimes

-- the cycle in which the value of iteration 0 lands
abbrev pub landing_of : ScheduleData → ℕ → ℕ
landing_of schedule op = slice_index schedule.times op + slice_index schedule.problem.graph.latencies op

-- the cycle in which a use reads the value of iteration 0
abbrev pub read_at : ScheduleData → Use → ℕ
read_at schedule reading = slice_index schedule.times reading.reader + schedule.ii * reading.distance

-- the last of the cycles in which a value is read, or the one in which it lands where it never is
abbrev pub last_read : ℕ → List ℕ → ℕ
last_read landing [] = landing
last_read landing (read ∷ reads) = greatest_of (read ∷ reads)

-- the cycle in which the last operation of iteration 0 has landed, stores too
abbrev pub last_landing : ScheduleData → ℕ
last_landing schedule = greatest_of (map (λ (p : ℕ × ℕ). p.0 + p.1) (zip schedule.times schedule.problem.graph.latencies))

-- the first cycle: that of the landing; of a value that is carried on at the latest the interval, since the instance before
-- the first iteration stands in its register from the first cycle on
abbrev pub first_cycle : ScheduleData → ℕ → ℕ
first_cycle schedule value =
    if carried schedule.problem.loop value == 0 then landing_of schedule value else min (landing_of schedule value) schedule.ii

-- the last cycle: that of the last use; of a value that is live at the end at least the end of the last stage and the last landing
abbrev pub last_cycle : ScheduleData → ℕ → ℕ
last_cycle schedule value =
    max (last_read (landing_of schedule value) (map (read_at schedule) (uses_of schedule.problem.loop value)))
    (if is_out schedule.problem.loop value then max (schedule.ii * stages_of schedule) (last_landing schedule) else 0)

abbrev pub lifetime_of : ScheduleData → ℕ → Lifetime
lifetime_of schedule value = record { operation = value; first = first_cycle schedule value; last = last_cycle schedule value }

-- the lifetimes in iteration 0, in text order
unfoldable pub lifetimes_of : ScheduleData → List Lifetime
lifetimes_of schedule = map (lifetime_of schedule) (values_of schedule.problem.loop)
