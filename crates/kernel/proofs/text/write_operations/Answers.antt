use Rattle.std.proofs.Common.{ℕ, List, ◌++◌, Bor, codes, length, string_bytes, refl, ap, ◌∙◌, subst, sym, arith}
use Rattle.std.specs.List.{All}
use Rattle.kernel.specs.Check.{IsPlaced}
use Rattle.kernel.specs.Text.{operation_text}
use Rattle.kernel.proofs.shapes.Deciding.{of_item}
use Rattle.kernel.proofs.texts.Joining.{joined_more, joined_past}
use Rattle.kernel.proofs.text.write_operations.Goals as goal
use Rattle.kernel.proofs.text.write_operations.Goals.{then-from-row+in_ok-push_str+in_ok-write_operation, else-from-row}

pub write_operation-requires-clause-placed : goal.write_operation-requires-clause-placed
write_operation-requires-clause-placed c =
    let P = IsPlaced (length c.args.parts.now.arrays) in
    of_item P c.as_slice-op-items.result.now c.loop-op.op-index _ (omega arith) c.op-item.is (subst (All P) (sym c.as_slice-op-items.ensures) c.requires.place)

pub loop-op-preserved : goal.loop-op-preserved
unfolding lib.Utf8.encode
loop-op-preserved c =
    let ops = c.as_slice-op-items.result.now in
    let parts = c.args.parts.now in
    let at = c.loop-op in
    elim c.if-from-row.branch [
      | then-from-row+in_ok-push_str+in_ok-write_operation w ↦ (
        (codes " | ", (refl, sym (ap (λ (b : Bor (List ℕ)). b.now) w.before-is))),
        joined_more parts _ ops at.op-index c.op-item.result (string_bytes at.text) _ at.before.now _ _ (omega arith) c.op-item.is (sym c.from.ensures ∙ w.if-from-row.true)
            (ap string_bytes w.text-is ∙ (w.in_ok-write_operation.ensures ∙ ap (λ t. t ++ operation_text parts c.op-item.result) w.in_ok-push_str.ensures.bytes))
            (ap (λ (b : Bor (List ℕ)). b.now) w.before-is)
            at.invariant.1,
      )
      | else-from-row w ↦ (
        (at.invariant.0.0, (at.invariant.0.1.0, at.invariant.0.1.1 ∙ sym (ap (λ (b : Bor (List ℕ)). b.now) w.before-is))),
        joined_past parts _ ops at.op-index c.op-item.result (string_bytes at.text) _ at.before.now _ _ (omega arith) c.op-item.is (λ e. w.if-from-row.false (c.from.ensures ∙ e))
            (ap string_bytes w.text-is)
            (ap (λ (b : Bor (List ℕ)). b.now) w.before-is)
            at.invariant.1,
      )
    ]
