use Rattle.std.proofs.Common.{◌∙◌, ◌*◌, ◌≤◌, length, ap, arith}
use Rattle.loop_reader.specs.inner.Checks.{values_taken}
use Rattle.loop_reader.proofs.faults.Taken.{none_taken}
use Rattle.loop_reader.proofs.checks.given.Table.reset.Goals as goal

pub returns : goal.returns
returns c =
    let room : 16 * c.args.rows ≤ length c.resize.new.self.items = omega (arith, c.in_ok-resize.ensures.len, c.max-room.ensures) in
    ap (λ ts. values_taken ts c.resize.new.self.items) c.in_ok-unmark-2.ensures.items ∙ none_taken (16 * c.args.rows) c.resize.new.self.items room
