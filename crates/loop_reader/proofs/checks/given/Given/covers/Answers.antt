use Rattle.std.proofs.Common.{◌≡◌, is_some, sym, false, rules}
use Rattle.loop_reader.specs.inner.Checks.{slot}
use Rattle.loop_reader.proofs.faults.Covering.{covers-false}
use Rattle.loop_reader.proofs.checks.given.Given.covers.Goals as goal

pub returns-then-not-has : goal.returns-then-not-has
returns-then-not-has c =
    let none : is_some (slot c.args.self.now.inits c.args.value c.loop-m.m) ≡ false = search rules in
    sym (covers-false c.args.self.now.inits c.args.value c.loop-m.m c.args.distance c.loop-m-test.true none)
