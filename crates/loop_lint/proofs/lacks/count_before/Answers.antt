use Rattle.std.proofs.Common.{arith, leb, sym}
use Rattle.std.proofs.lemmas.Bool.{le-leb}
use Rattle.std.proofs.lemmas.List.Sums.{position_or_len_is}
use Rattle.loop_lint.specs.declared.lacks.NoTable.{NoTable}
use Rattle.loop_lint.proofs.lacks.count_before.Goals as goal

abbrev none : NoTable
none = record { line = 0; column = 0; width = 0 }

pub returns-then-lack-line-clause-value : goal.returns-then-lack-line-clause-value
returns-then-lack-line-clause-value c =
    sym (position_or_len_is (λ (l : NoTable). leb c.args.line l.line) c.args.lacks.now _ none (omega arith) (λ k h. c.loop-i.invariant k none h) (λ _. le-leb _ _ c.if-lack-line.true))

pub returns-clause-value : goal.returns-clause-value
returns-clause-value c =
    sym (position_or_len_is (λ (l : NoTable). leb c.args.line l.line) c.args.lacks.now _ none (omega arith) (λ k h. c.loop-i.invariant k none (omega arith)) (λ h. absurd (omega arith)))
