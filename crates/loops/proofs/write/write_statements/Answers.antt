use Rattle.std.proofs.Common.{◌≡◌, Some, length, refl, subst, arith}
use Rattle.std.specs.List.{slice_get}
use Rattle.std.proofs.lemmas.Option.{slice_get_read}
use Rattle.loops.proofs.write.write_statements.Goals as goal

pub write_statement-requires : goal.write_statement-requires
write_statement-requires c =
    let statements = c.statements-statement-items.result.now in
    let at = slice_get_read statements (length statements) c.loop-statement.statement-index c.statement-item.result refl (omega arith) c.statement-item.is in (
      c.loop-statement.statement-index,
      c.statements-statement-items.ensures.well_formed.each _ _ (subst (λ xs. slice_get xs c.loop-statement.statement-index ≡ Some c.statement-item.result) c.statements-statement-items.ensures.value at),
    )
