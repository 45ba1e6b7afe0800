use Rattle.std.proofs.Common.{◌≡◌, ℕ, ◌+◌, ◌-◌, ◌<◌, ◌≤◌, List, [], ◌∷◌, ◌++◌, length, sym, ap, ◌∙◌, subst, arith, MatchOption}
use Rattle.std.specs.List.{slice_index}
use Rattle.std.proofs.lemmas.List.{length-append}
use Rattle.edges.specs.Edges.{EdgeData}
use Rattle.edges.specs.Graphs.{IsGraph}
use Rattle.circuits.specs.declared.layer.Layer.{Layer}
use Rattle.circuits.specs.Circuits.{IsCircuitAbove}
use Rattle.circuits.specs.inner.Layers.{IsReturn}
use Rattle.circuits.proofs.Returns.{GoesOnOnce}
use Rattle.circuits.proofs.Tables.{fits-from_same, on_way-none}
use Rattle.circuits.proofs.Growth.{IsGrown, IsWalked, IsLongWalk, grown-more, edge-on, walked-more, walked-kept, whole-walk, long-returns, long-circuit}
use Rattle.circuits.proofs.above.circuit_by_layers.Goals as goal

pub returns-in_default : goal.returns-in_default
returns-in_default c =
    let next : Layer = c.longer_walks-longer.result.layer in
    let before : List ℕ = c.index.result.now.lengths in
    record {
      exact = fits-from_same c.args.edges.now c.args.ii before next.lengths next.first c.longer_walks-longer.ensures.well_formed c.longer_walks-longer.ensures.layer
          (subst (λ v. MatchOption v ((p : ℕ) → p < length c.args.edges.now.latencies → slice_index next.lengths p ≡ slice_index before p)
          (λ p. (p < length c.args.edges.now.latencies) × (slice_index before p < slice_index next.lengths p))) c.in_default.is c.longer_walks-longer.ensures.at);
    }

pub loop-made-preserved : goal.loop-made-preserved
loop-made-preserved c =
    let next : Layer = c.longer_walks-longer.result.layer in
    let before : List ℕ = c.index.result.now.lengths in
    let rise = subst (λ v. MatchOption v ((p : ℕ) → p < length c.args.edges.now.latencies → slice_index next.lengths p ≡ slice_index before p)
    (λ p. (p < length c.args.edges.now.latencies) × (slice_index before p < slice_index next.lengths p))) c.in-Some.is c.longer_walks-longer.ensures.at in
    subst (λ l. IsGrown c.args.edges.now c.args.ii l (c.loop-made.made + 1) c.in-Some.operation) (sym c.in_ok-push-2.ensures.items)
    (grown-more c.args.edges.now c.args.ii c.loop-made.made c.loop-made.at c.in-Some.operation c.loop-made.layers.items c.index.result.now next
    c.longer_walks-longer.ensures.well_formed c.loop-made.invariant c.index.ensures c.longer_walks-longer.ensures.layer rise.0 rise.1)

pub loop-left-init : goal.loop-left-init
loop-left-init c =
    let none : c.in_ok-walk.walk.items ≡ [] = c.in_ok-walk.ensures.items in
    let size : length c.in_ok-walk.walk.items ≡ 0 = ap length none in
    let past : c.operations-most.result + 1 ≤ c.loop-made.made = c.loop-made-test.false in
    let upto : c.loop-made.made ≤ c.operations-most.result + 1 = c.loop-made.auto.made-end in
    let all : c.loop-made.made ≡ c.operations-most.result + 1 = omega arith in
    let d : Layer = record { lengths = []; first = [] } in
    let r = c.loop-made.invariant.rises (omega arith) d in
    record {
      few = omega arith;
      way = subst (λ l. IsWalked c.args.edges.now c.args.ii c.loop-made.layers.items (c.operations-most.result + 1) c.loop-made.at l c.loop-made.at (c.operations-most.result + 1)) (sym none)
          (λ f. on_way-none c.args.edges.now c.args.ii c.loop-made.at _ r.there);
    }

pub overflow_cast-at : goal.overflow_cast-at
overflow_cast-at c =
    let g : IsGraph c.args.edges.now = c.operations-most.ensures.well_formed in
    let few : length c.args.edges.now.latencies ≤ 128 = g.few in
    let some : 0 < c.loop-left.left = c.loop-left-test.true in
    let upto : c.loop-left.left ≤ c.operations-most.result + 1 = c.loop-left.auto.left in
    let past : c.operations-most.result + 1 ≤ c.loop-made.made = c.loop-made-test.false in
    let size : length c.loop-made.layers.items ≡ c.loop-made.made + 1 = c.loop-made.invariant.size in
    let d : Layer = c.index-in-loop-left.result.now in
    let f = edge-on c.args.edges.now c.args.ii c.loop-left.at c.loop-left.left c.loop-made.layers.items d d c.in-Some-first.edge g c.loop-made.invariant.table
    (c.loop-left.invariant.way d).there some (omega arith) c.index-in-loop-left.ensures c.in-Some-first.is in
    let to : c.in-Some-first.edge.to < length c.args.edges.now.latencies = f.to in
    record { fits = omega arith }

pub loop-left-preserved-in-Some-first : goal.loop-left-preserved-in-Some-first
loop-left-preserved-in-Some-first c =
    let walk : List EdgeData = c.loop-left.walk.items in
    let e : EdgeData = c.in-Some-first.edge in
    let some : 0 < c.loop-left.left = c.loop-left-test.true in
    let upto : c.loop-left.left ≤ c.operations-most.result + 1 = c.loop-left.auto.left in
    let past : c.operations-most.result + 1 ≤ c.loop-made.made = c.loop-made-test.false in
    let size : length c.loop-made.layers.items ≡ c.loop-made.made + 1 = c.loop-made.invariant.size in
    let pushed : c.push-in-Some-first.new.self.items ≡ walk ++ e ∷ [] = c.in_ok-push-3.ensures.items in
    let long : length c.push-in-Some-first.new.self.items ≡ length walk + 1 = ap length pushed ∙ length-append walk (e ∷ []) in
    let few : length walk + c.loop-left.left ≤ c.operations-most.result + 1 = c.loop-left.invariant.few in
    record {
      few = omega arith;
      way = subst (λ l. IsWalked c.args.edges.now c.args.ii c.loop-made.layers.items (c.operations-most.result + 1) c.loop-made.at l e.to (c.loop-left.left - 1)) (sym pushed)
          (walked-more c.args.edges.now c.args.ii (c.operations-most.result + 1) c.loop-made.at c.loop-left.at c.loop-left.left c.loop-made.layers.items walk
          c.index-in-loop-left.result.now e c.operations-most.ensures.well_formed c.loop-made.invariant.table some (omega arith) c.index-in-loop-left.ensures
          c.in-Some-first.is c.loop-left.invariant.way);
    }

pub loop-left-preserved : goal.loop-left-preserved
loop-left-preserved c =
    let some : 0 < c.loop-left.left = c.loop-left-test.true in
    let upto : c.loop-left.left ≤ c.operations-most.result + 1 = c.loop-left.auto.left in
    let past : c.operations-most.result + 1 ≤ c.loop-made.made = c.loop-made-test.false in
    let size : length c.loop-made.layers.items ≡ c.loop-made.made + 1 = c.loop-made.invariant.size in
    let few : length c.loop-left.walk.items + c.loop-left.left ≤ c.operations-most.result + 1 = c.loop-left.invariant.few in
    record {
      few = omega arith;
      way = walked-kept c.args.edges.now c.args.ii (c.operations-most.result + 1) c.loop-made.at c.loop-left.at c.loop-left.left c.loop-made.layers.items c.loop-left.walk.items
          c.index-in-loop-left.result.now c.loop-made.invariant.table some (omega arith) c.index-in-loop-left.ensures c.in_default-first.is c.loop-left.invariant.way;
    }

pub unwrap-part-requires : goal.unwrap-part-requires
unwrap-part-requires c =
    let past : c.operations-most.result + 1 ≤ c.loop-made.made = c.loop-made-test.false in
    let upto : c.loop-made.made ≤ c.operations-most.result + 1 = c.loop-made.auto.made-end in
    let end : c.loop-left.left ≤ 0 = c.loop-left-test.false in
    let w : IsLongWalk c.args.edges.now c.args.ii (length c.args.edges.now.latencies + 1) c.loop-made.at c.loop-left.walk.items
    = whole-walk c.args.edges.now c.args.ii c.operations-most.result c.loop-made.made c.loop-made.at c.loop-left.at c.loop-left.left c.loop-made.layers.items c.loop-left.walk.items
    c.operations-most.ensures.value (omega arith) (omega arith) c.loop-made.invariant c.loop-left.invariant.few c.loop-left.invariant.way in
    long-returns c.args.edges.now c.args.ii c.loop-made.at c.loop-left.walk.items c.first_return.result (λ part. IsReturn c.loop-left.walk.items part.now)
    c.operations-most.ensures.well_formed w
    (subst (λ l. MatchOption c.first_return.result (GoesOnOnce l) (λ part. IsReturn l part.now)) c.as_slice.ensures.value c.first_return.ensures)

pub returns : goal.returns
returns c =
    let past : c.operations-most.result + 1 ≤ c.loop-made.made = c.loop-made-test.false in
    let upto : c.loop-made.made ≤ c.operations-most.result + 1 = c.loop-made.auto.made-end in
    let end : c.loop-left.left ≤ 0 = c.loop-left-test.false in
    let w : IsLongWalk c.args.edges.now c.args.ii (length c.args.edges.now.latencies + 1) c.loop-made.at c.loop-left.walk.items
    = whole-walk c.args.edges.now c.args.ii c.operations-most.result c.loop-made.made c.loop-made.at c.loop-left.at c.loop-left.left c.loop-made.layers.items c.loop-left.walk.items
    c.operations-most.ensures.value (omega arith) (omega arith) c.loop-made.invariant c.loop-left.invariant.few c.loop-left.invariant.way in
    let r : IsReturn c.as_slice.result.now c.unwrap-part.result.now
    = subst (λ v. MatchOption v (GoesOnOnce c.as_slice.result.now) (λ part. IsReturn c.as_slice.result.now part.now)) c.unwrap-part.ensures c.first_return.ensures in
    record {
      exact = subst (IsCircuitAbove c.args.edges.now.edges c.args.ii) (sym c.in_ok-circuit.ensures.items)
          (long-circuit c.args.edges.now c.args.ii _ c.loop-made.at c.loop-left.walk.items c.unwrap-part.result.now w
          (subst (λ l. IsReturn l c.unwrap-part.result.now) c.as_slice.ensures.value r));
    }
