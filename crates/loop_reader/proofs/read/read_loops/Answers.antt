use Rattle.std.proofs.Common.{arith}
use Rattle.loop_reader.proofs.blocks.OpeningLines.{too-long, handed-on}
use Rattle.loop_reader.proofs.read.read_loops.Goals as goal

pub returns-then-text-gt-MAX_TEXT-clause-exact : goal.returns-then-text-gt-MAX_TEXT-clause-exact
returns-then-text-gt-MAX_TEXT-clause-exact c = too-long c.args.text.now (omega arith)

pub returns-in_err-read_all-clause-exact : goal.returns-in_err-read_all-clause-exact
returns-in_err-read_all-clause-exact c =
    handed-on c.from_residual-in_err-read_all.result c.in_err-read_all.field-0.0 _ c.from_residual-in_err-read_all.ensures.1 c.in_err-read_all.ensures
