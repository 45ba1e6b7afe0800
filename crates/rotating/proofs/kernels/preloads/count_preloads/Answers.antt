use Rattle.std.proofs.Common.{rules, ◌≡◌, ◌+◌, ◌<◌, ◌≤◌, length, get_or, true, false, sym, ap, ◌∙◌, subst, arith}
use Rattle.std.specs.Prelude.{slice_index, is_some}
use Rattle.loop_data.specs.declared.language.statement.Statement.{Statement}
use Rattle.rotating.specs.inner.Naming.{preload_count}
use Rattle.rotating.proofs.emitted.Ranks.{carried-few, values-yes, values-no}
use Rattle.rotating.proofs.kernels.preloads.count_preloads.Goals as goal
use Rattle.rotating.proofs.kernels.preloads.count_preloads.Goals.{then-is_some, else-is_some}

pub overflow_add-count : goal.overflow_add-count
overflow_add-count c =
    let loop = c.args.innermost.now in
    let q = c.loop-value.value in
    let same = ap length c.statements-statements.ensures.value in
    let t : q < length c.statements-statements.result.now = c.loop-value-test.true in
    let e = c.requires.each q (omega arith) in
    let f = carried-few loop c.statements-statements.ensures.well_formed q in
    let few = c.statements-statements.ensures.well_formed.statements_few in
    let i = c.loop-value.invariant.0 in
    let h : c.loop-value.count + slice_index c.args.carried.now q ≤ 4096 = omega arith in
    search (rules, arith)

pub loop-value-preserved : goal.loop-value-preserved
loop-value-preserved c =
    let loop = c.args.innermost.now in
    let q = c.loop-value.value in
    let s : Statement = c.index-statements-value.result in
    let same = c.statements-statements.ensures.value in
    let t : q < length c.statements-statements.result.now = c.loop-value-test.true in
    let l : q < length loop.statements = subst (λ xs. q < length xs) same t in
    let at : s ≡ get_or loop.statements q s = subst (λ xs. s ≡ get_or xs q s) same c.index-statements-value.is in
    let e = c.requires.each q l in
    let f = carried-few loop c.statements-statements.ensures.well_formed q in
    let i = c.loop-value.invariant in
    elim c.if-is_some.branch [
      | then-is_some w ↦
          let r = w.count-is in
          let named : is_some s.name ≡ true = subst (λ (x : Statement). is_some x.name ≡ true) (sym c.index-statements-value.is) (sym c.is_some.ensures ∙ w.if-is_some.true) in
          let y = ap (preload_count loop) (values-yes loop.statements q s l at named) in
          (omega arith, omega arith)
      | else-is_some w ↦
          let r = w.count-is in
          let unnamed : is_some s.name ≡ false = subst (λ (x : Statement). is_some x.name ≡ false) (sym c.index-statements-value.is) (sym c.is_some.ensures ∙ w.if-is_some.false) in
          let y = ap (preload_count loop) (values-no loop.statements q s l at unnamed) in
          (omega arith, omega arith)
    ]
