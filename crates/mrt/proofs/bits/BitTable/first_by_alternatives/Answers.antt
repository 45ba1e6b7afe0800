use Rattle.std.proofs.Common.{◌≡◌, ◌%◌, ◌<◌, ℕ, length, sym, arith}
use Rattle.mrt.specs.Placements.{alternatives_of}
use Rattle.mrt.proofs.searching.Searching.{IsBest-taken, IsBest-kept, is_free_after, first_slot_at_once, first_slot_some, first_slot_none}
use Rattle.mrt.proofs.bits.BitTable.first_by_alternatives.Goals as goal
use Rattle.mrt.proofs.bits.BitTable.first_by_alternatives.Goals.{then-cycle-first+else-cycle-eq0, else-cycle-first}

pub loop-alternative-preserved : goal.loop-alternative-preserved
loop-alternative-preserved g c =
    let t = c.args.self.now in
    let F = is_free_after t.interval t.operations t.placed c.args.op c.args.start in
    let k = c.loop-alternative.alternative in
    let cycle = c.first_cycle-cycle.result in
    let so_far = c.loop-alternative.invariant in
    let base : c.args.start % t.interval ≡ c.residue-base.result = rw (← c.self.view_is) (sym c.residue-base.ensures.value) in
    let none : (sooner : ℕ) → sooner < cycle → F sooner k → ⊥ = λ sooner lt. c.first_cycle-cycle.ensures.none_sooner c.args.start sooner base lt in
    elim c.if-cycle-first.branch [
      | then-cycle-first+else-cycle-eq0 w ↦ rw (w.first-is, w.best-is) (IsBest-taken F t.interval c.loop-alternative.first c.loop-alternative.best k cycle so_far w.if-cycle-first.true none (c.first_cycle-cycle.ensures.free c.args.start base w.if-cycle-first.true))
      | else-cycle-first w ↦ rw (w.first-is, w.best-is) (IsBest-kept F t.interval c.loop-alternative.first c.loop-alternative.best k cycle so_far w.if-cycle-first.false none)
    ]

pub returns-then-cycle-eq0 : goal.returns-then-cycle-eq0
returns-then-cycle-eq0 g c =
    let t = c.args.self.now in
    let k = c.loop-alternative.alternative in
    let base : c.args.start % t.interval ≡ c.residue-base.result = rw (← c.self.view_is) (sym c.residue-base.ensures.value) in
    let free = c.first_cycle-cycle.ensures.free c.args.start base c.if-cycle-first.true in
    let now = rw c.if-cycle-eq0.true at free in
    first_slot_at_once t.interval t.operations t.placed c.args.op c.args.start c.loop-alternative.first c.loop-alternative.best k c.loop-alternative.invariant (omega (arith, c.if-cycle-first.true)) now

pub returns-then-first-cycles : goal.returns-then-first-cycles
returns-then-first-cycles g c =
    let t = c.args.self.now in
    let k = c.loop-alternative.alternative in
    let count : c.count-alternative-end.result ≡ length (alternatives_of t.operations c.args.op) = rw (← c.self.view_is) c.count-alternative-end.ensures in
    let ii : c.ii-cycles.result ≡ t.interval = rw (← c.self.view_is) c.ii-cycles.ensures.value in
    first_slot_some t.interval t.operations t.placed c.args.op c.args.start c.loop-alternative.first c.loop-alternative.best k c.loop-alternative.invariant (omega arith) (omega (arith, ii, c.if-first-cycles.true))

pub returns-else-first-cycles : goal.returns-else-first-cycles
returns-else-first-cycles g c =
    let t = c.args.self.now in
    let k = c.loop-alternative.alternative in
    let count : c.count-alternative-end.result ≡ length (alternatives_of t.operations c.args.op) = rw (← c.self.view_is) c.count-alternative-end.ensures in
    let ii : c.ii-cycles.result ≡ t.interval = rw (← c.self.view_is) c.ii-cycles.ensures.value in
    first_slot_none t.interval t.operations t.placed c.args.op c.args.start c.loop-alternative.first c.loop-alternative.best k c.loop-alternative.invariant (omega arith) (omega (arith, ii, c.if-first-cycles.false))
