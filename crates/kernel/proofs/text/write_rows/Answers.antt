use Rattle.std.proofs.Common.{◌+◌, ◌≤◌, string_bytes, refl, ap, ◌∙◌, subst, sym, arith}
use Rattle.std.specs.List.{All}
use Rattle.kernel.proofs.texts.Rows.{IsBeyond, beyond_next, kernel_row_text-empty, rows_more}
use Rattle.kernel.proofs.text.write_rows.Goals as goal
use Rattle.kernel.proofs.text.write_rows.Goals.{then-row-next+in_ok-write_empty_row, else-row-next+in_ok-write_row}

pub loop-row-preserved : goal.loop-row-preserved
loop-row-preserved c =
    let parts = c.args.parts.now in
    let at = c.loop-row in
    elim c.if-row-next.branch [
      | then-row-next+in_ok-write_empty_row w ↦ record {
        written = rows_more parts at.row (string_bytes at.text) _ _ _ (omega arith) (ap string_bytes w.text-is ∙ w.in_ok-write_empty_row.ensures) (kernel_row_text-empty parts at.row at.next w.if-row-next.true at.invariant.least) at.invariant.written;
        next = omega arith;
        least = subst (λ n. All (IsBeyond (at.row + 1) n) parts.operations) (sym w.next-is) (beyond_next parts.operations at.row at.next at.invariant.least);
      }
      | else-row-next+in_ok-write_row w ↦ record {
        written = rows_more parts at.row (string_bytes at.text) _ _ _ (omega arith) (ap string_bytes w.text-is ∙ w.in_ok-write_row.ensures) refl at.invariant.written;
        next = let h = w.next_row-next-else-row-next.ensures.bound (omega arith) in subst (λ n. at.row + 1 ≤ n) (sym w.next-is) h;
        least = subst (λ n. All (IsBeyond (at.row + 1) n) parts.operations) (sym w.next-is) (subst (All (IsBeyond (at.row + 1) _)) c.as_slice-operations.ensures w.next_row-next-else-row-next.ensures.least);
      }
    ]
