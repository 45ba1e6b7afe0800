use Rattle.std.proofs.Common.{arith, sym, eq-eqb}
use Rattle.std.proofs.lemmas.List.Sums.{position_or_len_is}
use Rattle.problem_lines.specs.Names.{is_at}
use Rattle.problem_lines.proofs.names.count_unit.Goals as goal

pub returns-then-byte-eq64 : goal.returns-then-byte-eq64
returns-then-byte-eq64 c = sym (position_or_len_is is_at c.args.word.now _ 0 (omega arith) c.loop-i.invariant (λ _. eq-eqb _ _ c.if-byte-eq64.true))

pub returns : goal.returns
returns c = sym (position_or_len_is is_at c.args.word.now _ 0 (omega arith) (λ k h. c.loop-i.invariant k (omega arith)) (λ h. absurd (omega arith)))
