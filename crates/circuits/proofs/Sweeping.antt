-- What a sweep over the edges keeps.
use Rattle.std.proofs.Common.{◌≡◌, ℕ, ◌+◌, ◌*◌, ◌<◌, ◌≤◌, ◌==◌, pos, ◌+ℤ◌, List, length, get_or, set, filter, sym, subst, inl, inr, arith, get_or-set_other, get_or-set_same, Option, Some, None, MatchOption}
use Rattle.std.specs.Prelude.{◌≤ℤ◌, IfSome}
use Rattle.std.specs.List.{slice_index, All, Contains}
use Rattle.std.proofs.lemmas.Int.{ints}
use Rattle.std.proofs.lemmas.Bool.{cases_eq}
use Rattle.edges.specs.Edges.{EdgeData}
use Rattle.edges.specs.Graphs.{GraphData, IsGraph}
use Rattle.walks.specs.Kept.{KeepsNumber}
use Rattle.walks.proofs.Sweeps.{KeepFrom, vias-set}
use Rattle.circuits.specs.inner.Layers.{LeadsOn}
use Rattle.circuits.specs.inner.Sweeps.{AreShort, AreFirst}
use Rattle.circuits.proofs.Layers.{IsFarthestAt}
use Rattle.circuits.proofs.Tables.{IsFirst, first-from}

-- how the farthest walk begins
begins : (graph : GraphData) (ii : ℕ) (lengths : List ℕ) (p reach : ℕ) (first : Option EdgeData) → IsGraph graph → IsFarthestAt graph ii lengths p reach first
    → MatchOption first (reach ≡ slice_index lengths p) (IsFirst graph ii lengths p reach)
begins graph ii lengths p reach first g f =
    elim first as (λ v. MatchOption v (reach ≡ slice_index lengths p) (LeadsOn (filter (λ (e : EdgeData). e.from == p) graph.edges) ii lengths reach)
    → MatchOption v (reach ≡ slice_index lengths p) (IsFirst graph ii lengths p reach)) [
      | None ↦ λ same. same
      | Some e ↦ λ leads. first-from graph ii lengths p reach e g leads
    ] f.attained

-- an edge adds 64 cycles at most
pub reach-short : (graph : GraphData) (ii most p reach : ℕ) (lengths : List ℕ) (first : Option EdgeData) → IsGraph graph → AreShort graph most lengths → p < length graph.latencies
    → IsFarthestAt graph ii lengths p reach first → reach ≤ most + 64
reach-short graph ii most p reach lengths first g short below f =
    elim first as (λ v. MatchOption v (reach ≡ slice_index lengths p) (IsFirst graph ii lengths p reach) → reach ≤ most + 64) [
      | None ↦ λ same. (let h : slice_index lengths p ≤ most = short p below in
          let s : reach ≡ slice_index lengths p = same in
          omega arith)
      | Some e ↦ λ leads. (let b : IsFirst graph ii lengths p reach e = leads in
          let h : slice_index lengths e.to ≤ most = short e.to b.to in
          let d : e.delay ≤ℤ pos 64 = b.delay in
          let l : (pos (slice_index lengths e.to) +ℤ e.delay) ≡ pos (reach + ii * e.distance) = b.leads in
          omega (arith, ints))
    ] (begins graph ii lengths p reach first g f)

pub short-more : (graph : GraphData) (most more : ℕ) (lengths : List ℕ) → most ≤ more → AreShort graph most lengths → AreShort graph more lengths
short-more graph most more lengths le short p below = let h : slice_index lengths p ≤ most = short p below in omega arith

pub short-set : (graph : GraphData) (most more i reach : ℕ) (lengths : List ℕ) → most ≤ more → reach ≤ more → i < length lengths → AreShort graph most lengths
    → AreShort graph more (set lengths i reach)
short-set graph most more i reach lengths le few there short p below = elim (cases_eq p i) [
  | inl same ↦ (let at : i ≡ p = sym same in
      let new : get_or (set lengths i reach) i 0 ≡ reach = get_or-set_same lengths i reach 0 there in
      subst (λ k. get_or (set lengths i reach) k 0 ≤ more) at (omega arith))
  | inr other ↦ (let old : get_or (set lengths i reach) p 0 ≡ get_or lengths p 0 = get_or-set_other lengths i p reach 0 other in
      let h : slice_index lengths p ≤ most = short p below in
      omega arith)
]

-- the edge of a longer walk is one from its operation
pub first-set : (graph : GraphData) (ii i reach : ℕ) (lengths : List ℕ) (first : List (Option EdgeData)) (edge : Option EdgeData) → IsGraph graph → i < length first
    → AreFirst graph first → IsFarthestAt graph ii lengths i reach edge → AreFirst graph (set first i edge)
first-set graph ii i reach lengths first edge g there old f =
    vias-set graph first i edge old there
    (elim edge as (λ v. MatchOption v (reach ≡ slice_index lengths i) (IsFirst graph ii lengths i reach) → IfSome v (λ e. Contains graph.edges e × (e.from ≡ i))) [
      | None ↦ λ same. tt
      | Some e ↦ λ leads. (leads.there, leads.from)
    ] (begins graph ii lengths i reach edge g f))

-- one operation more whose walk stays
pub keep-more : (graph : GraphData) (ii op i reach : ℕ) (lengths : List ℕ) (first : Option EdgeData) → i + 1 ≡ op → reach ≡ slice_index lengths i → KeepFrom graph ii op lengths
    → IsFarthestAt graph ii lengths i reach first → KeepFrom graph ii i lengths
keep-more graph ii op i reach lengths first at same keep f p below past = elim (cases_eq p i) [
  | inl here ↦ subst (λ k. All (KeepsNumber ii lengths (slice_index lengths k)) (filter (λ (e : EdgeData). e.from == k) graph.edges)) (sym here)
      (subst (λ n. All (KeepsNumber ii lengths n) (filter (λ (e : EdgeData). e.from == i) graph.edges)) same f.longest)
  | inr other ↦ keep p below (omega arith)
]
