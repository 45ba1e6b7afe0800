-- A walk of more edges than there are operations goes round, and where it is longer than each one of fewer edges, so does a circuit
-- that does not fit.
use Rattle.std.proofs.Common.{◌≡◌, ◌≢◌, ℕ, suc, ◌+◌, ◌*◌, ◌<◌, ◌≤◌, pos, ◌+ℤ◌, true, false, List, [], ◌∷◌, ◌++◌, length, get_or, refl, sym, ap, ◌∙◌, subst, inl, inr, arith, eqb}
use Rattle.std.specs.Prelude.{◌<ℤ◌}
use Rattle.std.specs.List.{list_any, IsDistinct, AllByRecursion}
use Rattle.std.proofs.lemmas.Int.{ints}
use Rattle.std.proofs.lemmas.Bool.{eqb-true, ne_eqb, or_cases}
use Rattle.std.proofs.lemmas.List.{length-append}
use Rattle.std.proofs.lemmas.List.Elements.{All-contains}
use Rattle.std.proofs.lemmas.Map.Keys.{IsDistinct-cons}
use Rattle.std.proofs.lemmas.Map.Steps.{length-le_from_distinct_below}
use Rattle.std.proofs.Math.Nat.{mul-add}
use Rattle.edges.specs.Edges.{EdgeData}
use Rattle.edges.specs.Graphs.{GraphData, IsGraph}
use Rattle.walks.specs.Walks.{IsWalk, delay_of, distance_of}
use Rattle.walks.proofs.Circuits.{IsWalk-append, delay_of-append, distance_of-append}
use Rattle.circuits.specs.Circuits.{IsCircuitAbove}
use Rattle.circuits.specs.inner.Layers.{IsReturn}
use Rattle.circuits.proofs.Returns.{GoesOnOnce}

-- the operations that a walk goes on from
abbrev sources : List EdgeData → List ℕ
sources [] = []
sources (e ∷ walk) = e.from ∷ sources walk

length-sources : (walk : List EdgeData) → length (sources walk) ≡ length walk
length-sources [] = refl
length-sources (e ∷ walk) = ap suc (length-sources walk)

differs : (x : ℕ) (walk : List EdgeData) → ((k : ℕ) (d : EdgeData) → k < length walk → x ≢ (get_or walk k d).from) → AllByRecursion (λ y. eqb x y ≡ false) (sources walk)
differs x [] apart = tt
differs x (e ∷ walk) apart = (ne_eqb x e.from (apart 0 e (omega arith)), differs x walk (λ k d h. apart (suc k) d (omega arith)))

distinct : (walk : List EdgeData) → GoesOnOnce walk → IsDistinct eqb (sources walk)
unfolding IsDistinct
distinct [] once = tt
distinct (e ∷ walk) once = IsDistinct-cons eqb e.from (sources walk) (differs e.from walk (λ k d h. once 0 (suc k) d (omega arith) (omega arith)))
    (distinct walk (λ i j d less h. once (suc i) (suc j) d (omega arith) (omega arith)))

sources-below : (graph : GraphData) → IsGraph graph → (p q : ℕ) (walk : List EdgeData) → IsWalk graph.edges p walk q → (x : ℕ) → list_any (eqb x) (sources walk) ≡ true
    → x < length graph.latencies
sources-below graph g p q [] w x any = cc
sources-below graph g p q (e ∷ walk) w x any = elim (or_cases (eqb x e.from) (list_any (eqb x) (sources walk)) any) [
  | inl here ↦ (let s : x ≡ e.from = eqb-true x e.from here in
      let h : e.from < length graph.latencies = (All-contains (λ (e : EdgeData). (e.from < length graph.latencies) × (e.to < length graph.latencies)) graph.edges e g.ends w.0).0 in
      omega arith)
  | inr there ↦ sources-below graph g e.to q walk w.2 x there
]

-- a walk that goes on from no operation twice has at most as many edges as there are operations
pub once-short : (graph : GraphData) → IsGraph graph → (p q : ℕ) (walk : List EdgeData) → IsWalk graph.edges p walk q → GoesOnOnce walk → length walk ≤ length graph.latencies
once-short graph g p q walk w once =
    let a : length (sources walk) ≤ length graph.latencies
    = length-le_from_distinct_below (sources walk) (length graph.latencies) (distinct walk once) (sources-below graph g p q walk w) in
    let b : length (sources walk) ≡ length walk = length-sources walk in
    omega arith

-- the walks of fewer than `made` edges from an operation are shorter than `reach` cycles, at the interval
pub record Rises (graph : GraphData) (ii made p reach : ℕ) : Type 0 where
  pub there : p < length graph.latencies
  pub shorter : (walk : List EdgeData) (q : ℕ) → IsWalk graph.edges p walk q → length walk < made → delay_of walk <ℤ pos (reach + ii * distance_of walk)

split : (edges : List EdgeData) (p q : ℕ) (a b : List EdgeData) → IsWalk edges p (a ++ b) q → (m : ℕ) × IsWalk edges p a m × IsWalk edges m b q
split edges p q [] b w = (p, refl, w)
split edges p q (e ∷ a) b w = let r = split edges e.to q a b w.2 in (r.0, (w.0, w.1, r.1), r.2)

begins : (edges : List EdgeData) (p q : ℕ) (walk : List EdgeData) (d : EdgeData) → 0 < length walk → IsWalk edges p walk q → (get_or walk 0 d).from ≡ p
begins edges p q [] d some w = absurd (omega arith)
begins edges p q (e ∷ walk) d some w = w.1

-- a walk as long as that goes on from some operation twice
pub rise-returns : (graph : GraphData) (ii p q reach : ℕ) (walk : List EdgeData) → IsGraph graph → Rises graph ii (length graph.latencies + 1) p reach
    → IsWalk graph.edges p walk q → delay_of walk ≡ pos (reach + ii * distance_of walk) → GoesOnOnce walk → ⊥
rise-returns graph ii p q reach walk g r w is once =
    let few : length walk ≤ length graph.latencies = once-short graph g p q walk w once in
    let less : delay_of walk <ℤ pos (reach + ii * distance_of walk) = r.shorter walk q w (omega arith) in
    omega (arith, ints)

-- what it does in between is a circuit that does not fit
pub circuit-from_return : (graph : GraphData) (ii p q made reach : ℕ) (walk part : List EdgeData) → Rises graph ii made p reach → IsWalk graph.edges p walk q
    → delay_of walk ≡ pos (reach + ii * distance_of walk) → length walk ≤ made → IsReturn walk part → IsCircuitAbove graph.edges ii part
circuit-from_return graph ii p q made reach walk part rises w is few r =
    let on : List EdgeData = r.next ∷ r.after in
    let s = split graph.edges p q r.before (part ++ on) (subst (λ l. IsWalk graph.edges p l q) r.is w) in
    let t = split graph.edges s.0 q part on s.2 in
    let first : (get_or part 0 r.next).from ≡ s.0 = begins graph.edges s.0 t.0 part r.next r.some t.1 in
    let round : t.0 ≡ s.0 = sym (sym first ∙ r.returns r.next ∙ t.2.1) in
    let rest : IsWalk graph.edges s.0 on q = subst (λ k. IsWalk graph.edges k on q) round t.2 in
    let other : List EdgeData = r.before ++ on in
    let a : length walk ≡ length r.before + (length part + length on)
    = ap length r.is ∙ length-append r.before (part ++ on) ∙ ap (λ n. length r.before + n) (length-append part on) in
    let b : length other ≡ length r.before + length on = length-append r.before on in
    let some : 0 < length part = r.some in
    let less : delay_of other <ℤ pos (reach + ii * distance_of other)
    = rises.shorter other q (IsWalk-append graph.edges p s.0 q r.before on s.1 rest) (omega arith) in
    let delays : delay_of walk ≡ (delay_of r.before +ℤ (delay_of part +ℤ delay_of on))
    = ap delay_of r.is ∙ delay_of-append r.before (part ++ on) ∙ ap (λ z. delay_of r.before +ℤ z) (delay_of-append part on) in
    let others : delay_of other ≡ (delay_of r.before +ℤ delay_of on) = delay_of-append r.before on in
    let far : distance_of walk ≡ distance_of r.before + (distance_of part + distance_of on)
    = ap distance_of r.is ∙ distance_of-append r.before (part ++ on) ∙ ap (λ n. distance_of r.before + n) (distance_of-append part on) in
    let near : distance_of other ≡ distance_of r.before + distance_of on = distance_of-append r.before on in
    let m : ii * distance_of walk ≡ ii * distance_of r.before + (ii * distance_of part + ii * distance_of on)
    = ap (λ n. ii * n) far ∙ mul-add ii (distance_of r.before) (distance_of part + distance_of on)
    ∙ ap (λ n. ii * distance_of r.before + n) (mul-add ii (distance_of part) (distance_of on)) in
    let n : ii * distance_of other ≡ ii * distance_of r.before + ii * distance_of on
    = ap (λ n. ii * n) near ∙ mul-add ii (distance_of r.before) (distance_of on) in
    record {
      start = s.0;
      closed = subst (λ k. IsWalk graph.edges s.0 part k) round t.1;
      exceeds = omega (arith, ints);
      once = r.once;
    }
