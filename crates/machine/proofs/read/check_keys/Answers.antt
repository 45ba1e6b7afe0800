use Rattle.std.proofs.Common.{refl}
use Rattle.toml.specs.View.{table_view}
use Rattle.machine.proofs.checks.Keys.{keys-all, keys-fault, keys-more}
use Rattle.machine.proofs.read.check_keys.Goals as goal

pub returns-then-not-is_known : goal.returns-then-not-is_known
returns-then-not-is_known c = λ _.
    rw (c.in_ok-to_key.ensures, c.as_str-then-not-is_known.ensures.value)
    (keys-fault c.args.path.now c.args.known.now (table_view c.args.table.now) c.loop-key.key-iterator c.in-Some.key.now _ c.next.new.self _ c.in-Some.ensures.steps refl c.loop-key.invariant (rw c.as_str.ensures.value at c.if-not-is_known.ensures))

pub loop-key-preserved : goal.loop-key-preserved
loop-key-preserved c =
    keys-more c.args.path.now c.args.known.now (table_view c.args.table.now) c.loop-key.key-iterator c.in-Some.key.now _ c.next.new.self _ c.in-Some.ensures.steps c.as_str.ensures.value c.loop-key.invariant c.if-not-is_known.ensures

pub returns : goal.returns
returns c = (keys-all c.args.path.now c.args.known.now (table_view c.args.table.now) c.loop-key.key-iterator c.in-None.ensures.steps.0 c.loop-key.invariant, tt)
