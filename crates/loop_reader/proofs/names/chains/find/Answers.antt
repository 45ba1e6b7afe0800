use Rattle.std.proofs.Common.{sym, arith, ◌-◌}
use Rattle.loop_reader.specs.inner.Chains.{name_at}
use Rattle.loop_reader.proofs.lookups.Chains.{chained-here, chained-none}
use Rattle.loop_reader.proofs.lookups.Declared.{same_word-yes}
use Rattle.loop_reader.proofs.names.chains.find.Goals as goal

pub returns-then-eq : goal.returns-then-eq
returns-then-eq c =
    let v = c.loop-at.invariant in
    let some = c.loop-at-test.true in
    let within = v.within in
    let is = same_word-yes (name_at c.args.links.now (c.loop-at.at - 1)) c.args.name.now (sym c.if-eq.ensures) in
    sym (chained-here c.args.links.now (c.loop-at.at - 1) c.args.name.now (omega (arith, within, some)) is (λ j low. v.others j (omega arith)))

pub returns : goal.returns
returns c = sym (chained-none c.args.links.now c.args.name.now (λ j high. c.loop-at.invariant.others j (omega arith) high))
