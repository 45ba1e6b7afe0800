use Rattle.std.proofs.Common.{◌≡◌, ◌∷◌, ◌++◌, take, string_bytes}
use Rattle.std.specs.List.{flat_map}
use Rattle.loop_data.specs.declared.language.statement.Operand.{Operand}
use Rattle.loops.specs.Text.{operand_word}
use Rattle.loops.proofs.write.write_operands.Given as goal

abbrev pub invariant-loop-operand : goal.invariant-loop-operand
invariant-loop-operand l = string_bytes l.text ≡ string_bytes l.initial.text ++ flat_map (λ (o : Operand). 32 ∷ operand_word l.innermost o) (take l.operand-index l.operands)
