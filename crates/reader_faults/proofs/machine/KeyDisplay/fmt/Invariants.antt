use Rattle.std.proofs.Common.{flat_map, encode_utf8_all}
use Rattle.std.specs.Fmt.{HasWritten, IsPlainFormatter}
use Rattle.reader_faults.specs.MachineFaults.{byte_text}
use Rattle.reader_faults.proofs.machine.KeyDisplay.fmt.Given as goal

abbrev pub invariant-loop-c : goal.invariant-loop-c
invariant-loop-c g l = IsPlainFormatter l.initial.f → HasWritten g.W.Write.write_str_gives l.initial.f (flat_map byte_text (encode_utf8_all l.yielded)) l.f
