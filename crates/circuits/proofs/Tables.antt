-- The layers of longest walks, one upon another.
use Rattle.std.proofs.Common.{◌≡◌, ℕ, ◌+◌, ◌*◌, ◌<◌, ◌≤◌, ◌==◌, pos, ◌+ℤ◌, true, List, [], ◌∷◌, ◌++◌, length, get_or, filter, refl, sym, ap, ◌∙◌, subst, inl, inr, arith, Option, Some, None, MatchOption}
use Rattle.std.specs.Prelude.{◌≤ℤ◌}
use Rattle.std.specs.List.{slice_index, slice_index_or, All, Contains}
use Rattle.std.proofs.lemmas.Int.{ints}
use Rattle.std.proofs.lemmas.Bool.{cases_lt, eq-eqb, eqb-true}
use Rattle.std.proofs.lemmas.List.{get_or_append_left, get_or_push, length-append}
use Rattle.std.proofs.lemmas.List.Elements.{All-contains}
use Rattle.std.proofs.Math.Nat.{mul-add}
use Rattle.edges.specs.Edges.{EdgeData}
use Rattle.edges.specs.Graphs.{GraphData, IsGraph}
use Rattle.walks.specs.Kept.{KeepsNumber}
use Rattle.walks.specs.Walks.{IsWalk, delay_of, distance_of, FitsCircuits}
use Rattle.walks.proofs.Circuits.{IsWalk-append, delay_of-append, distance_of-append}
use Rattle.walks.proofs.Raises.{all-from_filter, contained-from_filter}
use Rattle.walks.proofs.Sweeps.{fits-from_kept_numbers, keeps-from_each}
use Rattle.circuits.specs.declared.layer.Layer.{Layer}
use Rattle.circuits.specs.inner.Layers.{LeadsOn, IsLayer}
use Rattle.circuits.proofs.Rounds.{Rises}

-- no walk of at most `most` edges is longer than its operation's length
abbrev pub AreLongest : GraphData → ℕ → ℕ → List ℕ → Type 0
AreLongest graph ii most lengths = (p : ℕ) → p < length graph.latencies → (walk : List EdgeData) (q : ℕ) → IsWalk graph.edges p walk q → length walk ≤ most
    → delay_of walk ≤ℤ pos (slice_index lengths p + ii * distance_of walk)

-- each layer but the first has walks of one edge more than those of the one before
abbrev pub IsTable : GraphData → ℕ → List Layer → Type 0
IsTable graph ii layers = (k : ℕ) (d : Layer) → k + 1 < length layers → IsLayer graph ii (get_or layers k d).lengths (get_or layers (k + 1) d).lengths (get_or layers (k + 1) d).first

-- an edge that an operation's walk begins with
pub record IsFirst (graph : GraphData) (ii : ℕ) (before : List ℕ) (p reach : ℕ) (e : EdgeData) : Type 0 where
  pub there : Contains graph.edges e
  pub from : e.from ≡ p
  pub to : e.to < length graph.latencies
  pub delay : e.delay ≤ℤ pos 64
  pub leads : (pos (slice_index before e.to) +ℤ e.delay) ≡ pos (reach + ii * e.distance)

pub first-from : (graph : GraphData) (ii : ℕ) (before : List ℕ) (p reach : ℕ) (e : EdgeData) → IsGraph graph
    → LeadsOn (filter (λ (e : EdgeData). e.from == p) graph.edges) ii before reach e → IsFirst graph ii before p reach e
first-from graph ii before p reach e g leads =
    let c = contained-from_filter (λ (e : EdgeData). e.from == p) graph.edges e leads.0 in
    record {
      there = c.0;
      from = eqb-true e.from p c.1;
      to = (All-contains (λ (e : EdgeData). (e.from < length graph.latencies) × (e.to < length graph.latencies)) graph.edges e g.ends c.0).1;
      delay = All-contains (λ (e : EdgeData). e.delay ≤ℤ pos 64) graph.edges e g.delays c.0;
      leads = leads.1;
    }

-- how an operation's walk begins
pub first-of : (graph : GraphData) (ii : ℕ) (before lengths : List ℕ) (first : List (Option EdgeData)) (p : ℕ) (e : EdgeData) → IsGraph graph
    → IsLayer graph ii before lengths first → p < length graph.latencies → slice_index_or first p None ≡ Some e → IsFirst graph ii before p (slice_index lengths p) e
first-of graph ii before lengths first p e g layer below is =
    first-from graph ii before p (slice_index lengths p) e g
    (subst (λ v. MatchOption v (slice_index lengths p ≡ slice_index before p) (LeadsOn (filter (λ (e : EdgeData). e.from == p) graph.edges) ii before (slice_index lengths p))) is
    (layer p below).attained)

-- an operation's walk is that of the layer before
pub same-of : (graph : GraphData) (ii : ℕ) (before lengths : List ℕ) (first : List (Option EdgeData)) (p : ℕ)
    → IsLayer graph ii before lengths first → p < length graph.latencies → slice_index_or first p None ≡ None → slice_index lengths p ≡ slice_index before p
same-of graph ii before lengths first p layer below is =
    subst (λ v. MatchOption v (slice_index lengths p ≡ slice_index before p) (LeadsOn (filter (λ (e : EdgeData). e.from == p) graph.edges) ii before (slice_index lengths p))) is
    (layer p below).attained

-- walks with one edge more
pub longest-more : (graph : GraphData) (ii most : ℕ) (before lengths : List ℕ) (first : List (Option EdgeData)) → IsGraph graph → IsLayer graph ii before lengths first
    → AreLongest graph ii most before → AreLongest graph ii (most + 1) lengths
longest-more graph ii most before lengths first g layer old p below [] q w few = omega (arith, ints)
longest-more graph ii most before lengths first g layer old p below (e ∷ walk) q w few =
    let to : e.to < length graph.latencies = (All-contains (λ (e : EdgeData). (e.from < length graph.latencies) × (e.to < length graph.latencies)) graph.edges e g.ends w.0).1 in
    let h : delay_of walk ≤ℤ pos (slice_index before e.to + ii * distance_of walk) = old e.to to walk q w.2 (omega arith) in
    let k : (pos (slice_index before e.to) +ℤ e.delay) ≤ℤ pos (slice_index lengths p + ii * e.distance)
    = All-contains (λ (e : EdgeData). (e.from == p) ≡ true → KeepsNumber ii before (slice_index lengths p) e) graph.edges e
    (all-from_filter (λ (e : EdgeData). e.from == p) (KeepsNumber ii before (slice_index lengths p)) graph.edges (layer p below).longest)
    w.0 (eq-eqb e.from p w.1) in
    let s : ii * (e.distance + distance_of walk) ≡ ii * e.distance + ii * distance_of walk = mul-add ii e.distance (distance_of walk) in
    omega (arith, ints)

-- each edge adds 64 cycles at most
pub short-more : (graph : GraphData) (ii made : ℕ) (before lengths : List ℕ) (first : List (Option EdgeData)) → IsGraph graph → IsLayer graph ii before lengths first
    → ((p : ℕ) → p < length graph.latencies → slice_index before p ≤ 64 * made) → (p : ℕ) → p < length graph.latencies → slice_index lengths p ≤ 64 * (made + 1)
short-more graph ii made before lengths first g layer short p below =
    elim (slice_index_or first p None) as (λ v. slice_index_or first p None ≡ v → slice_index lengths p ≤ 64 * (made + 1)) [
      | None ↦ λ is. (let same : slice_index lengths p ≡ slice_index before p = same-of graph ii before lengths first p layer below is in
          let h : slice_index before p ≤ 64 * made = short p below in
          omega arith)
      | Some e ↦ λ is. (let f : IsFirst graph ii before p (slice_index lengths p) e = first-of graph ii before lengths first p e g layer below is in
          let h : slice_index before e.to ≤ 64 * made = short e.to f.to in
          let d : e.delay ≤ℤ pos 64 = f.delay in
          let l : (pos (slice_index before e.to) +ℤ e.delay) ≡ pos (slice_index lengths p + ii * e.distance) = f.leads in
          omega (arith, ints))
    ] refl

-- a walk that gets longer with the last edge
pub rises-from_longer : (graph : GraphData) (ii made p reach : ℕ) (before : List ℕ) → AreLongest graph ii made before → p < length graph.latencies → slice_index before p < reach
    → Rises graph ii (made + 1) p reach
rises-from_longer graph ii made p reach before longest below more = record {
  there = below;
  shorter = λ walk q w few.
      let h : delay_of walk ≤ℤ pos (slice_index before p + ii * distance_of walk) = longest p below walk q w (omega arith) in
      omega (arith, ints);
}

-- where no walk gets longer, every circuit fits
pub fits-from_same : (graph : GraphData) (ii : ℕ) (before lengths : List ℕ) (first : List (Option EdgeData)) → IsGraph graph → IsLayer graph ii before lengths first
    → ((p : ℕ) → p < length graph.latencies → slice_index lengths p ≡ slice_index before p) → FitsCircuits graph.edges ii
fits-from_same graph ii before lengths first g layer same =
    fits-from_kept_numbers graph ii before (keeps-from_each graph ii before g (λ p below.
    subst (λ n. All (KeepsNumber ii before n) (filter (λ (e : EdgeData). e.from == p) graph.edges)) (same p below) (layer p below).longest))

pub table-more : (graph : GraphData) (ii made : ℕ) (layers : List Layer) (layer : Layer) → length layers ≡ made + 1 → IsTable graph ii layers
    → ((d : Layer) → IsLayer graph ii (get_or layers made d).lengths layer.lengths layer.first) → IsTable graph ii (layers ++ layer ∷ [])
table-more graph ii made layers layer long old new k d short =
    let more : length (layers ++ layer ∷ []) ≡ length layers + 1 = length-append layers (layer ∷ []) in
    let low : get_or (layers ++ layer ∷ []) k d ≡ get_or layers k d = get_or_append_left layers (layer ∷ []) d k (omega arith) in
    elim (cases_lt (k + 1) (length layers)) [
      | inl below ↦ (let high : get_or (layers ++ layer ∷ []) (k + 1) d ≡ get_or layers (k + 1) d = get_or_append_left layers (layer ∷ []) d (k + 1) below in
          subst (λ (a : Layer). IsLayer graph ii a.lengths (get_or (layers ++ layer ∷ []) (k + 1) d).lengths (get_or (layers ++ layer ∷ []) (k + 1) d).first) (sym low)
          (subst (λ (b : Layer). IsLayer graph ii (get_or layers k d).lengths b.lengths b.first) (sym high) (old k d below)))
      | inr past ↦ (let at : made ≡ k = omega arith in
          let high : get_or (layers ++ layer ∷ []) (k + 1) d ≡ layer = get_or_push layers layer d (k + 1) (omega arith) in
          subst (λ (a : Layer). IsLayer graph ii a.lengths (get_or (layers ++ layer ∷ []) (k + 1) d).lengths (get_or (layers ++ layer ∷ []) (k + 1) d).first) (sym low)
          (subst (λ (b : Layer). IsLayer graph ii (get_or layers k d).lengths b.lengths b.first) (sym high)
          (subst (λ n. IsLayer graph ii (get_or layers n d).lengths layer.lengths layer.first) at (new d))))
    ]

-- the beginning of a walk of `reach` cycles in all, at the interval: `left` of them are left from its end, `at`
pub record IsOnWay (graph : GraphData) (ii start reach : ℕ) (walk : List EdgeData) (at left : ℕ) : Type 0 where
  pub there : at < length graph.latencies
  pub is_walk : IsWalk graph.edges start walk at
  pub sum : (delay_of walk +ℤ pos left) ≡ pos (reach + ii * distance_of walk)

pub on_way-none : (graph : GraphData) (ii start reach : ℕ) → start < length graph.latencies → IsOnWay graph ii start reach [] start reach
on_way-none graph ii start reach below = record { there = below; is_walk = refl; sum = omega (arith, ints) }

pub on_way-more : (graph : GraphData) (ii start reach : ℕ) (before : List ℕ) (walk : List EdgeData) (at left : ℕ) (e : EdgeData)
    → IsOnWay graph ii start reach walk at left → IsFirst graph ii before at left e → IsOnWay graph ii start reach (walk ++ e ∷ []) e.to (slice_index before e.to)
on_way-more graph ii start reach before walk at left e way f =
    let sum : (delay_of walk +ℤ pos left) ≡ pos (reach + ii * distance_of walk) = way.sum in
    let leads : (pos (slice_index before e.to) +ℤ e.delay) ≡ pos (left + ii * e.distance) = f.leads in
    let delays : delay_of (walk ++ e ∷ []) ≡ (delay_of walk +ℤ (e.delay +ℤ pos 0)) = delay_of-append walk (e ∷ []) in
    let distances : distance_of (walk ++ e ∷ []) ≡ distance_of walk + e.distance = distance_of-append walk (e ∷ []) ∙ ap (λ n. distance_of walk + n) (omega arith) in
    let m : ii * distance_of (walk ++ e ∷ []) ≡ ii * distance_of walk + ii * e.distance = ap (λ n. ii * n) distances ∙ mul-add ii (distance_of walk) e.distance in
    record {
      there = f.to;
      is_walk = IsWalk-append graph.edges start at e.to walk (e ∷ []) way.is_walk (f.there, f.from, refl);
      sum = omega (arith, ints);
    }
