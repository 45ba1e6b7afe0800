use Rattle.std.proofs.Common.{sym}
use Rattle.mrt.specs.Placements.{rows_of}
use Rattle.mrt.proofs.slots.Needing.{takes_none, needs_not}
use Rattle.mrt.proofs.rosters.roster.Roster.takes.Goals as goal

pub returns-then-unit_bits-slot-eq0 : goal.returns-then-unit_bits-slot-eq0
returns-then-unit_bits-slot-eq0 c =
    let t = c.args.self.now in
    let rows = rows_of t.operations c.args.op c.args.issue.alternative in
    let unit = c.args.slot.now.row.unit in
    sym (takes_none t.interval rows c.args.issue.time unit c.args.residue
    (needs_not c.unit_bits.result c.args.slot.now.mask unit rows c.requires.slot.mask c.unit_bits.ensures c.if-unit_bits-slot-eq0.true))
