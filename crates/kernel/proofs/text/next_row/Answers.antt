use Rattle.std.proofs.Common.{◌≡◌, ◌⊎◌, inl, inr, refl, sym, ◌∙◌, subst, arith}
use Rattle.std.specs.List.{All, Any}
use Rattle.std.proofs.lemmas.List.{take_all}
use Rattle.kernel.specs.declared.kernels.operation.Operation.{Operation}
use Rattle.kernel.proofs.texts.Rows.{IsBeyond, beyond_more}
use Rattle.kernel.proofs.text.next_row.Goals as goal
use Rattle.kernel.proofs.text.next_row.Goals.{then-from-row+then-row-next, else-from-row, else-from-row-via-then-from-row+else-row-next, else-from-row-via-else-from-row}

pub loop-op-preserved : goal.loop-op-preserved
loop-op-preserved c =
    let at = c.loop-op in
    let ops = c.args.operations.now in
    elim c.if-from-row.branch [
      | then-from-row+then-row-next w ↦ record {
        least = beyond_more ops at.op-index _ c.args.from at.next _ (omega arith) c.op-item.is (omega arith) (inr (omega arith)) at.invariant.least;
        bound = λ h. omega arith;
        there = inr (subst (λ n. Any (λ (op : Operation). op.row ≡ n) ops) (sym (w.next-is ∙ c.from-row.ensures)) (at.op-index, c.op-item.result, omega arith, sym c.op-item.is, refl));
      }
      | else-from-row w ↦ record {
        least = beyond_more ops at.op-index _ c.args.from at.next _ (omega arith) c.op-item.is (omega arith) (elim w.else-from-row.branch [ else-from-row-via-then-from-row+else-row-next v ↦ inr (omega arith) | else-from-row-via-else-from-row v ↦ inl (omega arith) ]) at.invariant.least;
        bound = λ h. omega (arith, at.invariant.bound h);
        there = subst (λ n. (n ≡ c.args.end) ⊎ Any (λ (op : Operation). op.row ≡ n) ops) (sym w.next-is) at.invariant.there;
      }
    ]

pub returns-clause-least : goal.returns-clause-least
returns-clause-least c = subst (All (IsBeyond c.args.from c.loop-op.next)) (take_all c.loop-op.op-index c.args.operations.now (omega arith)) c.loop-op.invariant.least
