use Rattle.std.proofs.Common.{◌≡◌, ◌<◌, ◌≤◌, pos, length, get_or, take, Some, arith, sym, ap, ◌∙◌, subst, to_z, w8}
use Rattle.std.proofs.lemmas.Int.{ints}
use Rattle.std.proofs.lemmas.List.{take_all, get_or_default}
use Rattle.std.proofs.lemmas.Option.{slice_get-get_or}
use Rattle.std.specs.List.{slice_get, All}
use Rattle.loop_data.specs.declared.language.statement.Operand.TheVariants.{Constant}
use Rattle.loop_data.specs.declared.language.statement.Statement.{Statement}
use Rattle.graph.specs.Subscripts.{HasUses, ReadsBelow}
use Rattle.graph.proofs.finding.Found.{uses-pushed, HasUses-passed}
use Rattle.graph.proofs.dependence.collect.push_uses.Goals as goal
use Rattle.graph.proofs.dependence.collect.push_uses.Goals.{in-Value+in_ok-push, in_default}

pub loop-operand-preserved : goal.loop-operand-preserved
loop-operand-preserved c =
    let reader : Statement = get_or c.args.statements.now c.args.to c.index-statements-to.result in
    let at : slice_get c.args.statements.now c.args.to ≡ Some reader = slice_get-get_or c.args.statements.now c.args.to c.index-statements-to.result c.requires.to_in in
    let within : c.loop-operand.operand-index < length c.as_slice-operand-items.result.now = c.loop-operand-test.true in
    elim c.match-operand.branch [
      | in-Value+in_ok-push w ↦
          (let reads : ReadsBelow (length c.args.latencies.now) (get_or c.as_slice-operand-items.result.now c.loop-operand.operand-index (Constant (pos 0)))
          = subst (λ l. All (ReadsBelow (length c.args.latencies.now)) l) (sym c.as_slice-operand-items.ensures)
          (c.requires.reads c.args.to c.index-statements-to.result c.requires.to_in) c.loop-operand.operand-index (Constant (pos 0)) within in
          let below : w.in-Value.statement < length c.args.latencies.now = subst (ReadsBelow (length c.args.latencies.now)) w.in-Value.is reads in
          let short : get_or c.args.latencies.now w.in-Value.statement 0 ≤ 64 = (c.requires.latencies w.in-Value.statement 0 below).1 in
          let delay : to_z w8 (get_or c.args.latencies.now w.in-Value.statement 0) ≡ pos (get_or c.args.latencies.now w.in-Value.statement 0) = omega (arith, ints) in
          rw (w.list-is, w.in_ok-push.ensures.items)
          (uses-pushed c.args.statements.now c.args.latencies.now c.args.to reader c.as_slice-operand-items.result.now c.loop-operand.operand-index
          w.in-Value.statement w.in-Value.distance (to_z w8 (get_or c.args.latencies.now w.in-Value.statement 0)) c.args.list.now.items c.loop-operand.list.items
          at c.as_slice-operand-items.ensures within (Constant (pos 0)) w.in-Value.is delay c.loop-operand.invariant))
      | in_default w ↦ rw w.list-is (
        c.loop-operand.invariant.0,
        HasUses-passed c.args.latencies.now c.args.to c.as_slice-operand-items.result.now c.loop-operand.operand-index
            (get_or c.as_slice-operand-items.result.now c.loop-operand.operand-index (Constant (pos 0))) c.loop-operand.list.items within
            (get_or_default c.as_slice-operand-items.result.now c.loop-operand.operand-index (Constant (pos 0)) _ within) w.in_default.not-Value c.loop-operand.invariant.1,
      )
    ]

pub returns-clause-complete : goal.returns-clause-complete
returns-clause-complete c = λ reader at.
    let first : slice_get c.args.statements.now c.args.to ≡ Some (get_or c.args.statements.now c.args.to c.index-statements-to.result)
    = slice_get-get_or c.args.statements.now c.args.to c.index-statements-to.result c.requires.to_in in
    let both : Some reader ≡ Some (get_or c.args.statements.now c.args.to c.index-statements-to.result) = sym at ∙ first in
    let same : reader ≡ get_or c.args.statements.now c.args.to c.index-statements-to.result = cc in
    let items : take c.loop-operand.operand-index c.as_slice-operand-items.result.now ≡ reader.operands
    = take_all c.loop-operand.operand-index c.as_slice-operand-items.result.now c.loop-operand-test.false ∙ c.as_slice-operand-items.ensures
    ∙ ap (λ (s : Statement). s.operands) (sym same) in
    subst (λ l. HasUses c.args.latencies.now c.args.to l c.loop-operand.list.items) items c.loop-operand.invariant.1
