use Rattle.std.proofs.Common.{string_bytes, arith}
use Rattle.loops.specs.Text.{operand_word}
use Rattle.loops.proofs.Texts.{pieces_following}
use Rattle.loops.proofs.write.write_operands.Goals as goal

pub returns : goal.returns
returns c = pieces_following (operand_word c.args.innermost.now) (string_bytes c.args.text.now) (string_bytes c.loop-operand.text) c.args.operands.now c.loop-operand.operand-index (omega arith) c.loop-operand.invariant
