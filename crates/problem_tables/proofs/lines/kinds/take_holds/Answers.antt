use Rattle.std.proofs.Common.{[]}
use Rattle.problem_lines.specs.Seen.{hold_seen}
use Rattle.problem_tables.specs.inner.Holds.{hold_fault, rest_fault}
use Rattle.problem_tables.proofs.Holding.{taken-fault, taken-more}
use Rattle.problem_tables.proofs.Taking.{refuses}
use Rattle.problem_tables.proofs.lines.kinds.take_holds.Goals as goal

pub returns-in-Err-clause-fault : goal.returns-in-Err-clause-fault
returns-in-Err-clause-fault c =
    let units = c.args.units.now in
    let hold = hold_seen c.in-Some.word in
    refuses c.in-Err.refusal (hold_fault units c.args.count c.loop-word.rows.items hold) (rest_fault units c.args.count [] c.args.holds)
    (λ told some. taken-fault units c.args.count c.args.holds c.loop-word.rows.items hold c.loop-word.holds c.next_hold.new.self told c.loop-word.invariant c.in-Some.ensures.holds some)
    c.in-Err.ensures.fault

pub loop-word-preserved : goal.loop-word-preserved
loop-word-preserved c =
    taken-more c.args.units.now c.args.count c.args.holds c.loop-word.rows.items c.take_hold.new.rows.items (hold_seen c.in-Some.word) c.loop-word.holds c.next_hold.new.self
    c.loop-word.invariant c.in-Some.ensures.holds c.in_default-take_hold.ensures.fault c.in_default-take_hold.ensures.taken
