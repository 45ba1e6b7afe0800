use Rattle.std.proofs.Common.{◌≡◌, ℕ, ◌<◌, length, ◌∙◌, subst, arith}
use Rattle.schedules.proofs.lawfulness.Breaking.{times_few, slot_found}
use Rattle.schedules.proofs.lawfulness.Checking.{ArePlaced, KeepsUnits-all, more_placed}
use Rattle.schedules.proofs.check.taken_slot_on.Goals as goal

pub clash-requires-clause-time : goal.clash-requires-clause-time
clash-requires-clause-time g c = times_few c.args.problem.now.operations c.args.places.now c.requires.places c.loop-op.op (0, 0) c.loop-op-test.true

pub returns-in-Some : goal.returns-in-Some
returns-in-Some g c =
    slot_found c.args.problem.now (g.T.ModuloTable.interval c.args.table.now) c.args.places.now (g.T.ModuloTable.placed c.loop-op.table) c.loop-op.op
    (g.T.ModuloTable.interval c.loop-op.table) c.alternatives.result.now c.in-Some.breach (omega (arith, c.requires.some)) c.requires.places c.loop-op-test.true
    c.loop-op.invariant.interval c.alternatives.ensures.value c.loop-op.invariant.are c.in-Some.ensures

pub claim-requires-clause-time : goal.claim-requires-clause-time
claim-requires-clause-time g c = times_few c.args.problem.now.operations c.args.places.now c.requires.places c.loop-op.op (0, 0) c.loop-op-test.true

pub loop-op-preserved : goal.loop-op-preserved
loop-op-preserved g c =
    let i = c.loop-op.invariant in
    let there : c.loop-op.op < length c.args.problem.now.operations = omega (arith, c.requires.places.whole) in
    record {
      are = more_placed (g.T.ModuloTable.interval c.args.table.now) c.args.problem.now.operations c.args.places.now (g.T.ModuloTable.placed c.loop-op.table) c.loop-op.op i.are there
          (g.T.ModuloTable.interval c.loop-op.table) c.alternatives.result.now (g.T.ModuloTable.placed c.claim.new.self) i.interval c.alternatives.ensures.value c.loop-op-test.true
          c.in_default.ensures c.claim.ensures.placed;
      operations = c.claim.ensures.operations ∙ i.operations;
      interval = c.claim.ensures.interval ∙ i.interval;
    }

pub returns : goal.returns
returns g c =
    let ii : ℕ = g.T.ModuloTable.interval c.args.table.now in
    let done : c.loop-op.op ≡ length c.args.problem.now.operations = omega (arith, c.requires.places.whole) in
    KeepsUnits-all ii c.args.problem.now.operations c.args.places.now (g.T.ModuloTable.placed c.loop-op.table) (omega (arith, c.requires.some))
    (subst (ArePlaced ii c.args.problem.now.operations c.args.places.now (g.T.ModuloTable.placed c.loop-op.table)) done c.loop-op.invariant.are)
