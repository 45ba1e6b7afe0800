use Rattle.std.proofs.Common.{◌≡◌, ℕ, ◌+◌, ◌<◌, Option, None, sym, ap, ◌∙◌, subst, arith}
use Rattle.mrt.specs.Placements.{OperationAlternatives, Placements, IsFirstSlot}
use Rattle.modulo.specs.Scheduling.{IsEarliest, forced_time}
use Rattle.modulo.proofs.states.Forced.{last_below, forced_below}
use Rattle.modulo.proofs.stepping.settle.settle.Goals as goal

pub clear-requires-clause-time : goal.clear-requires-clause-time
clear-requires-clause-time g c =
    let short : forced_time c.last.result c.earliest-start.result < 2147483648 + 64 + 1 = forced_below c.last.result c.earliest-start.result 2147483648
    (λ t is. last_below c.args.progress.now.state 2147483648 c.args.op t c.requires.times (sym c.last.ensures ∙ is))
    (c.earliest-start.ensures.below 2147483648 c.requires.times) in
    let same : c.forced-time.result ≡ forced_time c.last.result c.earliest-start.result = c.forced-time.ensures in
    omega arith

pub returns-clause-place : goal.returns-clause-place
returns-clause-place g c =
    let ii : ℕ = g.T.ModuloTable.interval c.args.table.now in
    let start : ℕ = c.earliest-start.result in
    let none : Option (ℕ × ℕ) = None in
    let slot : IsFirstSlot ii c.args.problem.now.operations c.args.progress.now.state.placed c.args.op start none
    = subst (λ (p : Placements). IsFirstSlot ii c.args.problem.now.operations p c.args.op start none) c.requires.tied
    (subst (λ (os : OperationAlternatives). IsFirstSlot ii os (g.T.ModuloTable.placed c.args.table.now) c.args.op start none) c.requires.operations c.in_default.ensures) in
    record {
      earliest = start;
      is_earliest = subst (λ i. IsEarliest c.args.problem.now i c.args.progress.now.state c.args.op start) c.ii.ensures c.earliest-start.ensures.exact;
      slot = none;
      is_slot = slot;
      chosen = record { time = c.forced-time.ensures ∙ ap (λ l. forced_time l start) c.last.ensures; choice = c.requires.sound };
    }

pub returns-clause-below : goal.returns-clause-below
returns-clause-below g c =
    let short : forced_time c.last.result c.earliest-start.result < 2147483648 + 64 + 1 = forced_below c.last.result c.earliest-start.result 2147483648
    (λ t is. last_below c.args.progress.now.state 2147483648 c.args.op t c.requires.times (sym c.last.ensures ∙ is))
    (c.earliest-start.ensures.below 2147483648 c.requires.times) in
    let same : c.forced-time.result ≡ forced_time c.last.result c.earliest-start.result = c.forced-time.ensures in
    omega arith

pub returns-clause-grown : goal.returns-clause-grown
returns-clause-grown g c = λ limit times.
    let short : forced_time c.last.result c.earliest-start.result < limit + 64 + 1 = forced_below c.last.result c.earliest-start.result limit
    (λ t is. last_below c.args.progress.now.state limit c.args.op t times (sym c.last.ensures ∙ is))
    (c.earliest-start.ensures.below limit times) in
    let same : c.forced-time.result ≡ forced_time c.last.result c.earliest-start.result = c.forced-time.ensures in
    omega arith
