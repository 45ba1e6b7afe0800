use Rattle.std.proofs.Common.{sym, rules}
use Rattle.std.proofs.Output.{has_written_append, has_written_of_eq}
use Rattle.reader_faults.proofs.Printed.{printed_last}
use Rattle.reader_faults.proofs.machine.KeyDisplay.fmt.Goals as goal

pub loop-c-preserved : goal.loop-c-preserved
loop-c-preserved g c = λ plain.
    has_written_of_eq _ _ _ _ _ (sym (printed_last c.loop-c.yielded c.in-Some.c)) (has_written_append _ _ _ _ _ _ (c.loop-c.invariant plain) (search rules))
