use Rattle.loop_lines.proofs.Ends.{named_within}
use Rattle.loop_lines.proofs.operand.named_use_of.Goals as goal

pub split_at-requires : goal.split_at-requires
split_at-requires c = named_within c.args.word.bytes.now c.args.word.named c.args.word.counted
