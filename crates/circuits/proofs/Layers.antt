-- Layers, filled from their front.
use Rattle.std.proofs.Common.{◌≡◌, ◌≢◌, set, get_or-set_other, get_or-set_same, ℕ, ◌+◌, ◌<◌, ◌≤◌, ◌==◌, List, length, get_or, filter, sym, ◌∙◌, subst, inl, inr, arith, Option, Some, None, MatchOption}
use Rattle.std.specs.List.{slice_index, slice_index_or, All}
use Rattle.std.proofs.lemmas.Bool.{cases_lt}
use Rattle.std.proofs.lemmas.List.Elements.{All-filter}
use Rattle.edges.specs.Edges.{EdgeData}
use Rattle.edges.specs.Graphs.{GraphData, IsGraph}
use Rattle.circuits.specs.inner.Layers.{IsFarthest}

-- the walk from an operation, in a layer
abbrev pub IsFarthestAt : GraphData → ℕ → List ℕ → ℕ → ℕ → Option EdgeData → Type 0
IsFarthestAt graph ii before p reach first = IsFarthest (filter (λ (e : EdgeData). e.from == p) graph.edges) ii before (slice_index before p) reach first

-- the walks from the operations below n
abbrev pub IsLayerTo : GraphData → ℕ → List ℕ → List ℕ → List (Option EdgeData) → ℕ → Type 0
IsLayerTo graph ii before lengths first n = (p : ℕ) → p < n → IsFarthestAt graph ii before p (slice_index lengths p) (slice_index_or first p None)

-- an operation below n whose walk is longer than before, if there is any
abbrev pub IsLongerAt : List ℕ → List ℕ → ℕ → Option ℕ → Type 0
IsLongerAt before lengths n at = MatchOption at ((p : ℕ) → p < n → slice_index lengths p ≡ slice_index before p) (λ p. (p < n) × (slice_index before p < slice_index lengths p))

-- one operation more
pub layer-more : (graph : GraphData) (ii : ℕ) (before lengths : List ℕ) (first : List (Option EdgeData)) (i reach : ℕ) (edge : Option EdgeData)
    → i < length lengths → i < length first → IsLayerTo graph ii before lengths first i → IsFarthestAt graph ii before i reach edge
    → IsLayerTo graph ii before (set lengths i reach) (set first i edge) (i + 1)
layer-more graph ii before lengths first i reach edge within inside old new p below = elim (cases_lt p i) [
  | inl earlier ↦ (let ne : p ≢ i = omega arith in
      let a : get_or lengths p 0 ≡ get_or (set lengths i reach) p 0 = sym (get_or-set_other lengths i p reach 0 ne) in
      let b : get_or first p None ≡ get_or (set first i edge) p None = sym (get_or-set_other first i p edge None ne) in
      subst (λ f. IsFarthestAt graph ii before p (get_or (set lengths i reach) p 0) f) b (subst (λ r. IsFarthestAt graph ii before p r (get_or first p None)) a (old p earlier)))
  | inr after ↦ (let at : i ≡ p = omega arith in
      let a : reach ≡ get_or (set lengths i reach) i 0 = sym (get_or-set_same lengths i reach 0 within) in
      let b : edge ≡ get_or (set first i edge) i None = sym (get_or-set_same first i edge None inside) in
      subst (λ k. IsFarthestAt graph ii before k (get_or (set lengths i reach) k 0) (get_or (set first i edge) k None)) at
      (subst (λ f. IsFarthestAt graph ii before i (get_or (set lengths i reach) i 0) f) b (subst (λ r. IsFarthestAt graph ii before i r edge) a new)))
]

-- its walk is longer than before
pub longer-here : (before lengths : List ℕ) (i reach : ℕ) → i < length lengths → slice_index before i < reach → IsLongerAt before (set lengths i reach) (i + 1) (Some i)
longer-here before lengths i reach within more =
    let same : get_or (set lengths i reach) i 0 ≡ reach = get_or-set_same lengths i reach 0 within in
    (omega arith, omega arith)

same-more : (before lengths : List ℕ) (i reach : ℕ) → i < length lengths → reach ≡ slice_index before i → ((p : ℕ) → p < i → slice_index lengths p ≡ slice_index before p)
    → (p : ℕ) → p < i + 1 → slice_index (set lengths i reach) p ≡ slice_index before p
same-more before lengths i reach within same old p below = elim (cases_lt p i) [
  | inl earlier ↦ (let ne : p ≢ i = omega arith in get_or-set_other lengths i p reach 0 ne ∙ old p earlier)
  | inr after ↦ (let at : i ≡ p = omega arith in
      subst (λ k. slice_index (set lengths i reach) k ≡ slice_index before k) at (get_or-set_same lengths i reach 0 within ∙ same))
]

-- its walk is as long as before
pub longer-kept : (before lengths : List ℕ) (i reach : ℕ) (at : Option ℕ) → i < length lengths → reach ≡ slice_index before i → IsLongerAt before lengths i at
    → IsLongerAt before (set lengths i reach) (i + 1) at
longer-kept before lengths i reach at within same old =
    elim at as (λ v. IsLongerAt before lengths i v → IsLongerAt before (set lengths i reach) (i + 1) v) [
      | None ↦ λ h. same-more before lengths i reach within same h
      | Some p ↦ λ h.
          (let below : p < i = h.0 in
          let more : slice_index before p < slice_index lengths p = h.1 in
          let ne : p ≢ i = omega arith in
          let far : get_or (set lengths i reach) p 0 ≡ get_or lengths p 0 = get_or-set_other lengths i p reach 0 ne in
          (omega arith, omega arith))
    ] old

-- the targets of the edges from an operation have short walks, where all operations have
pub short-targets : (graph : GraphData) (lengths : List ℕ) → IsGraph graph → ((p : ℕ) → p < length graph.latencies → slice_index lengths p ≤ 1048576)
    → (operation : ℕ) (outgoing : List EdgeData) → outgoing ≡ filter (λ (e : EdgeData). e.from == operation) graph.edges
    → All (λ (e : EdgeData). (e.to < 128) × (slice_index lengths e.to ≤ 1048576)) outgoing
short-targets graph lengths g short operation outgoing is =
    let few : length graph.latencies ≤ 128 = g.few in
    subst (All (λ (e : EdgeData). (e.to < 128) × (slice_index lengths e.to ≤ 1048576))) (sym is)
    (All-filter (λ (e : EdgeData). e.from == operation) (λ (e : EdgeData). (e.to < 128) × (slice_index lengths e.to ≤ 1048576)) graph.edges
    (λ k d h. let to = (g.ends k d h).1 in (omega arith, short _ to)))
