use Rattle.std.proofs.Common.{◌≡◌, ◌++◌, length}
use Rattle.std.specs.List.{range_with_len}
use Rattle.variants.specs.inner.Columns.{total_line}
use Rattle.variants.proofs.Zipped.{zipped_to}
use Rattle.variants.proofs.told.totals.push_totals.Given as goal

abbrev pub invariant-loop-number : goal.invariant-loop-number
invariant-loop-number l = l.text.items ≡ l.initial.text.items ++ zipped_to l.number (total_line l.machine l.loops) l.variants (range_with_len 0 (length l.variants))
