use Rattle.std.proofs.Common.{◌≡◌, ◌+◌, ◌-◌, ◌<◌, ◌≤◌, length, subst, inl, inr, refl, arith}
use Rattle.edges.specs.Graphs.{IsGraph}
use Rattle.walks.specs.inner.Reaches.{IsRise}
use Rattle.walks.specs.Walks.{Exceeds}
use Rattle.walks.proofs.Sweeps.{heights-from_kept, fits-from_kept_numbers, exceeds-from_rise, vias-none}
use Rattle.walks.proofs.relaxation.relax.Goals as goal

pub loop-made-init : goal.loop-made-init
loop-made-init c = record {
  reaches = c.set_first.ensures;
  via = vias-none c.args.edges.now 128;
  risen = inl refl;
}

pub returns-in_default-clause-exact : goal.returns-in_default-clause-exact
returns-in_default-clause-exact c = (
  heights-from_kept c.args.edges.now c.args.interval _ _ c.sweep.new.numbers c.operations-made-end.ensures.well_formed c.sweep.ensures.reaches (c.sweep.ensures.stays c.in_default.is),
  fits-from_kept_numbers c.args.edges.now c.args.interval c.sweep.new.numbers (c.sweep.ensures.stays c.in_default.is),
)

pub circuit-requires-clause-there : goal.circuit-requires-clause-there
circuit-requires-clause-there c = (c.sweep.ensures.rises c.in-Some.operation c.in-Some.is).there

pub loop-made-preserved : goal.loop-made-preserved
loop-made-preserved c = record {
  reaches = c.sweep.ensures.reaches;
  via = c.sweep.ensures.via;
  risen = inr (
    c.in-Some.operation,
    (let same : c.loop-made.made ≡ (c.loop-made.made + 1) - 1 = omega arith in
        subst (λ k. IsRise c.args.edges.now c.args.interval k c.in-Some.operation) same (c.sweep.ensures.rises c.in-Some.operation c.in-Some.is)),
  );
}

pub returns-clause-exact : goal.returns-clause-exact
returns-clause-exact c =
    let g : IsGraph c.args.edges.now = c.operations-made-end.ensures.well_formed in
    let some : 0 < length c.args.edges.now.latencies = g.some in
    let all : c.operations-made-end.result ≡ length c.args.edges.now.latencies = c.operations-made-end.ensures.value in
    let past : c.operations-made-end.result ≤ c.loop-made.made = c.loop-made-test.false in
    let same : c.args.interval ≡ (c.args.interval + 1) - 1 = omega arith in (
      omega arith,
      subst (Exceeds c.args.edges.now.edges) same (elim c.loop-made.invariant.risen [
        | inl none ↦ absurd (let zero : c.loop-made.made ≡ 0 = none in omega arith)
        | inr r ↦ exceeds-from_rise c.args.edges.now c.args.interval (c.loop-made.made - 1) r.0 g (omega arith) r.1
      ]),
    )
