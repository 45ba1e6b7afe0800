use Rattle.std.proofs.Common.{◌<◌, sym, ◌∙◌, arith, below_more}
use Rattle.mrt.specs.inner.Rosters.{placement}
use Rattle.mrt.proofs.searching.Taking.{placed_within, takes_not, takes_unplaced}
use Rattle.mrt.proofs.rosters.roster.Roster.taker.Goals as goal
use Rattle.mrt.proofs.rosters.roster.Roster.taker.Goals.{in-Some+else-takes, in_default}

pub loop-op-preserved : goal.loop-op-preserved
loop-op-preserved c =
    let t = c.args.self.now in
    below_more _ _ c.loop-op.invariant (elim c.match-issue.branch [
      | in-Some+else-takes w ↦
          takes_not t.interval t.operations t.placed c.args.slot.now.row.unit c.args.residue c.loop-op.op (placement w.in-Some.issue) w.in-Some.ensures.value (sym w.takes.ensures ∙ w.if-takes.false)
      | in_default w ↦ takes_unplaced t.interval t.operations t.placed c.args.slot.now.row.unit c.args.residue c.loop-op.op w.in_default.ensures.value
    ])

pub returns : goal.returns
returns c op t =
    let within = placed_within c.args.self.now.placed op t.at t.is_placed in
    let lt : op < c.loop-op.op = omega (arith, c.len-op-end.ensures.placed, c.loop-op-test.false) in
    c.loop-op.invariant op lt t
