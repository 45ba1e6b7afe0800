use Rattle.std.proofs.Common.{ℕ, ◌+◌, ◌<◌, ◌≤◌, length, get_or, arith, ◌∙◌, sym, ap, subst}
use Rattle.edges.specs.Edges.{EdgeData}
use Rattle.edges.specs.inner.Layout.{operation_at, IsStart}
use Rattle.edges.proofs.Slices.{starts-push}
use Rattle.std.proofs.lemmas.List.{get_or_default, length_push}
use Rattle.edges.proofs.layout.starts.starts.Goals as goal
use Rattle.edges.proofs.layout.starts.starts.Goals.{then-loop-next-test+else-of-operation, else-loop-next-test}

pub loop-operation-preserved : goal.loop-operation-preserved
loop-operation-preserved c =
    let stop : c.loop-next.next < length c.args.list.now → (d : EdgeData) → c.loop-operation.operation ≤ operation_at c.args.end (get_or c.args.list.now c.loop-next.next d)
    = λ there d. elim c.loop-next-test.branch [
      | then-loop-next-test+else-of-operation w ↦
          (let low : c.loop-operation.operation ≤ w.of.result = w.if-of-operation.false in
          subst (λ n. c.loop-operation.operation ≤ n) (w.of.ensures ∙ ap (operation_at c.args.end) (get_or_default c.args.list.now c.loop-next.next _ d there)) low)
      | else-loop-next-test w ↦ (let past : length c.args.list.now ≤ c.loop-next.next = w.loop-next-test.false in absurd (omega arith))
    ] in
    let pushed : (k : ℕ) → k < c.loop-operation.operation + 1
    → IsStart c.args.end c.args.list.now k (get_or c.push.new.self.items k 0)
    = subst (λ l. (k : ℕ) → k < c.loop-operation.operation + 1 → IsStart c.args.end c.args.list.now k (get_or l k 0)) (sym c.in_ok-push.ensures.items)
    (starts-push c.args.end c.args.list.now c.loop-operation.starts.items c.loop-operation.operation c.loop-next.next c.loop-operation.invariant.2 c.requires.sorted
    c.loop-next.invariant.0 c.loop-next.invariant.1 stop c.loop-operation.invariant.3) in (
      c.loop-next.invariant.0,
      λ i d h. (let less : operation_at c.args.end (get_or c.args.list.now i d) < c.loop-operation.operation = c.loop-next.invariant.1 i d h in omega arith),
      ap length c.in_ok-push.ensures.items ∙ length_push c.loop-operation.starts.items c.loop-next.next ∙ ap (λ n. n + 1) c.loop-operation.invariant.2,
      pushed,
    )
