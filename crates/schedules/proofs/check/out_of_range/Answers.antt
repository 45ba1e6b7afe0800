use Rattle.std.proofs.Common.{◌≡◌, length, refl, inl, inr, sym, subst, arith}
use Rattle.std.proofs.lemmas.Bool.{cases_eq}
use Rattle.schedules.specs.Breaches.{IsInRange}
use Rattle.schedules.proofs.lawfulness.Breaking.{in_range_at}
use Rattle.schedules.proofs.check.out_of_range.Goals as goal

pub loop-op-preserved : goal.loop-op-preserved
loop-op-preserved c = λ k less.
    elim (cases_eq k c.loop-op.op) [
      | inl same ↦
          let operations = c.alternatives-operations.result.now in
          let whole : length c.args.places.now ≡ length operations = c.if-places-operations.false in
          subst (IsInRange operations c.args.places.now) (sym same)
          (in_range_at operations operations c.args.places.now c.loop-op.op c.index-operations-op.result c.as_slice.result.now c.loop-op-test.true whole refl
          c.index-operations-op.is c.as_slice.ensures.value c.if-place-ge-END.false c.if-place-as_slice.false)
      | inr ne ↦ c.loop-op.invariant k (omega arith)
    ]
