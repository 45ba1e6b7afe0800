-- Why an interval failed, by name.
use Rattle.std.specs.Prelude.{ℕ, codes, List, ◌++◌, Option}
use Rattle.std.specs.List.{flat_map}
use Rattle.loop_data.specs.Loops.{LoopData}
use Rattle.graph_text.specs.Names.{op_name}
use Rattle.modulo.specs.declared.outcome.attempts.Culprit.{Culprit}
use Rattle.modulo.specs.declared.outcome.attempts.Culprit.TheVariants.{Blocked, Unplaced, Late}
use Rattle.registers.specs.declared.lifetime.Lifetime.{Lifetime}
use Rattle.schedule_lines.specs.ScheduleTexts.{need_word}
use Rattle.told_choices.specs.declared.why.Why.{Why}
use Rattle.told_choices.specs.declared.why.Why.TheVariants.{Attempt, Register, Need}
use Rattle.writing.specs.Words.{told}

-- the name of an operation after a blank
abbrev pub named : LoopData → ℕ → List ℕ
named loop op = codes " " ++ op_name loop op

-- ` OP` for an operation that has no alternative, ` OP OP ..` for all that are not placed, ` OP at TIME` for one that is too late
abbrev pub culprit_text : LoopData → Culprit → List ℕ
culprit_text loop (Blocked op) = named loop op
culprit_text loop (Unplaced ops) = flat_map (named loop) ops.items
culprit_text loop (Late op time) = named loop op ++ told (codes " at ") time

-- ` VALUE lives FIRST to LAST`: in cycles
abbrev pub life_text : LoopData → Lifetime → List ℕ
life_text loop life = (named loop life.operation ++ told (codes " lives ") life.first) ++ told (codes " to ") life.last

-- `, all need N`: how many registers
abbrev pub need_text : Option ℕ → List ℕ
need_text need = codes ", all need " ++ need_word need

abbrev pub reason_text : LoopData → Why → List ℕ
reason_text loop (Attempt culprit) = culprit_text loop culprit
reason_text loop (Register life) = life_text loop life
reason_text loop (Need life need) = life_text loop life ++ need_text need
