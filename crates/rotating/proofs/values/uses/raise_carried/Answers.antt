use Rattle.std.proofs.Common.{◌≡◌, ◌<◌, ◌+◌, max, length, ◌∷◌, map, drop, sym, ap, ◌∙◌, arith}
use Rattle.std.specs.Prelude.{slice_index}
use Rattle.unit_bound.specs.Units.{greatest_of}
use Rattle.loop_data.specs.declared.language.statement.Statement.{Statement}
use Rattle.overlap.specs.Lifetimes.{Use, uses_from}
use Rattle.rotating.specs.inner.Uses.{greatest_in}
use Rattle.rotating.proofs.lives.Greatest.{drop-at, uses-more}
use Rattle.rotating.proofs.values.uses.raise_carried.Goals as goal

pub loop-q-preserved : goal.loop-q-preserved
loop-q-preserved c =
    let loop = c.args.innermost.now in
    let s : Statement = c.index-statements-q.result in
    let same : c.statements-statements.result.now ≡ loop.statements = c.statements-statements.ensures.value in
    let t : c.loop-q.q < length c.statements-statements.result.now = c.loop-q-test.true in
    let at : drop c.loop-q.q loop.statements ≡ s ∷ drop (c.loop-q.q + 1) loop.statements
    = ap (drop c.loop-q.q) (sym same) ∙ drop-at c.statements-statements.result.now c.loop-q.q s t c.index-statements-q.is ∙ ap (λ xs. s ∷ drop (c.loop-q.q + 1) xs) same in (
      c.raise.ensures.long,
      λ v lt. (
          let more = ap (λ xs. greatest_of (map (λ (u : Use). u.distance) (uses_from v c.loop-q.q xs))) at
          ∙ uses-more (λ (u : Use). u.distance) v 0 1 c.loop-q.q s (drop (c.loop-q.q + 1) loop.statements) (λ d. omega arith) in
          let r : slice_index c.raise.new.table v ≡ max (slice_index c.loop-q.table v) (greatest_in v 0 1 s.operands)
          = c.raise.ensures.each v lt ∙ ap (λ os. max (slice_index c.loop-q.table v) (greatest_in v 0 1 os)) (c.as_slice.ensures ∙ ap (λ (x : Statement). x.operands) (sym c.index-statements-q.is)) in
          let i = c.loop-q.invariant.1 v lt in
          omega arith),
    )
