use Rattle.std.proofs.Common.{◌≡◌, drop, find}
use Rattle.machine_data.specs.Opcodes.{word_of, same_word}
use Rattle.machine_data.proofs.opcode.among.Given as goal

-- what is found among the opcodes that are left is what is found among all
abbrev pub invariant-loop-opcode : goal.invariant-loop-opcode
invariant-loop-opcode l = find (λ opcode. same_word (word_of opcode) l.word) (drop l.opcode-index l.opcodes) ≡ find (λ opcode. same_word (word_of opcode) l.word) l.opcodes
