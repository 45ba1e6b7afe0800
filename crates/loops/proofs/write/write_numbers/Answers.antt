use Rattle.std.proofs.Common.{string_bytes, arith}
use Rattle.std.specs.Fmt.{signed_decimal}
use Rattle.loops.proofs.Texts.{pieces_following}
use Rattle.loops.proofs.write.write_numbers.Goals as goal

pub returns : goal.returns
returns c = pieces_following signed_decimal (string_bytes c.args.text.now) (string_bytes c.loop-number.text) c.args.numbers.now c.loop-number.number-index (omega arith) c.loop-number.invariant
