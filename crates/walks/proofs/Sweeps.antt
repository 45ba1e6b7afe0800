-- What sweeps of relaxation in place come to.
use Rattle.std.proofs.Common.{◌≡◌, ◌⊎◌, ℕ, ◌+◌, ◌-◌, ◌*◌, ◌<◌, ◌≤◌, ◌==◌, ℤ, pos, ◌+ℤ◌, List, [], ◌∷◌, ◌++◌, length, get_or, set, filter, refl, sym, ap, subst, ◌∙◌, inl, inr, arith, get_or-set_other, get_or-set_same, Option, Some, None}
use Rattle.std.specs.Prelude.{◌≤ℤ◌, ◌<ℤ◌, IfSome}
use Rattle.std.specs.List.{slice_index, All, Contains}
use Rattle.std.proofs.lemmas.Int.{ints}
use Rattle.std.proofs.lemmas.Bool.{cases_eq, eq-eqb}
use Rattle.std.proofs.lemmas.List.Elements.{All-contains}
use Rattle.std.proofs.Math.Nat.{mul-le-mul}
use Rattle.std.proofs.Math.ListN.{length-set, replicate}
use Rattle.std.proofs.lemmas.List.{length-replicate, get_or-replicate, get_or_default}
use Rattle.edges.specs.Edges.{EdgeData}
use Rattle.edges.specs.Graphs.{GraphData, IsGraph}
use Rattle.walks.specs.Walks.{IsWalk, delay_of, distance_of, length_of, FitsCircuits, Exceeds, AreHeights}
use Rattle.walks.specs.inner.Reaches.{IsReach, AreReaches, KeepsNumbers, IsRaised, IsRise, AreVias}
use Rattle.walks.specs.Kept.{KeepsNumber}
use Rattle.walks.specs.inner.Sweeps.{KeepsOnward}
use Rattle.walks.proofs.Circuits.{exceeds_or_short, IsWalk-append, delay_of-append, distance_of-append}
use Rattle.walks.proofs.Raises.{all-from_filter, reach-raised}
use Rattle.walks.proofs.Settling.{reach-limited, exceeds-below_limit}
use Rattle.walks.proofs.Potentials.{KeepsHeight, walk-below, fits-from_heights}

-- walks may have more edges
pub reach-more : (graph : GraphData) (ii long longer most p number : ℕ) → long ≤ longer → IsReach graph ii long most p number → IsReach graph ii longer most p number
reach-more graph ii long longer most p number le r =
    let few : length r.walk ≤ long = r.few in
    record { walk = r.walk; end = r.end; is_walk = r.is_walk; few = omega arith; as_long = r.as_long; longest = r.longest }

-- a number that rises in a sweep
pub rise-from_reach : (graph : GraphData) (ii long longer most more p own next : ℕ) → p < length graph.latencies → IsReach graph ii long most p own
    → IsReach graph ii longer more p next → own < next → IsRise graph ii most p
rise-from_reach graph ii long longer most more p own next below old new rises = record {
  there = below;
  walk = new.walk;
  end = new.end;
  is_walk = new.is_walk;
  longer = λ other last w short.
      let h : length_of graph.latencies ii other last ≤ℤ pos own = old.longest other last w short in
      let k : pos next ≡ length_of graph.latencies ii new.walk new.end = new.as_long in
      omega (arith, ints);
}

-- where a number rises in a sweep after one sweep for each operation but one, some circuit does not fit
pub exceeds-from_rise : (graph : GraphData) (ii most p : ℕ) → IsGraph graph → length graph.latencies ≤ most + 1 → IsRise graph ii most p → Exceeds graph.edges ii
exceeds-from_rise graph ii most p g all u =
    elim (exceeds_or_short graph.edges graph.latencies ii (length graph.latencies) g.ends (length u.walk) p u.end u.walk (omega arith) u.there u.is_walk) [
      | inl x ↦ x
      | inr s ↦ (let short : length s.other < length graph.latencies = s.short in
          let a : length_of graph.latencies ii s.other u.end <ℤ length_of graph.latencies ii u.walk u.end = u.longer s.other u.end s.is_walk (omega arith) in
          let b : length_of graph.latencies ii u.walk u.end ≤ℤ length_of graph.latencies ii s.other u.end = s.as_long in
          absurd (omega (arith, ints)))
    ]

keeps-height : (graph : GraphData) (ii : ℕ) (numbers : List ℕ) → KeepsNumbers graph ii numbers → All (KeepsHeight ii (λ p. pos (slice_index numbers p))) graph.edges
keeps-height graph ii numbers keeps = λ k d h.
    let e : EdgeData = get_or graph.edges k d in
    let one : (pos (slice_index numbers e.to) +ℤ e.delay) ≤ℤ pos (slice_index numbers e.from + ii * e.distance) = keeps k d h in
    omega (arith, ints)

pub fits-from_kept_numbers : (graph : GraphData) (ii : ℕ) (numbers : List ℕ) → KeepsNumbers graph ii numbers → FitsCircuits graph.edges ii
fits-from_kept_numbers graph ii numbers keeps = fits-from_heights graph.edges ii (λ p. pos (slice_index numbers p)) (keeps-height graph ii numbers keeps)

ends-within : (graph : GraphData) → IsGraph graph → (p q : ℕ) (walk : List EdgeData) → p < length graph.latencies → IsWalk graph.edges p walk q → q < length graph.latencies
ends-within graph g p q [] below w = subst (λ k. k < length graph.latencies) w below
ends-within graph g p q (e ∷ walk) below w =
    ends-within graph g e.to q walk (All-contains (λ (e : EdgeData). (e.from < length graph.latencies) × (e.to < length graph.latencies)) graph.edges e g.ends w.0).1 w.2

-- numbers that no edge raises are the heights
pub heights-from_kept : (graph : GraphData) (ii long most : ℕ) (numbers : List ℕ) → IsGraph graph → AreReaches graph ii long most numbers → KeepsNumbers graph ii numbers
    → AreHeights graph ii numbers
heights-from_kept graph ii long most numbers g reaches keeps = λ p below.
    let r : IsReach graph ii long most p (slice_index numbers p) = reaches p below in
    record {
      walk = r.walk;
      end = r.end;
      is_walk = r.is_walk;
      as_long = r.as_long;
      longest = λ other last w.
          let H : ℕ → ℤ = λ p. pos (slice_index numbers p) in
          let end : last < length graph.latencies = ends-within graph g p last other below w in
          let zero : ii * 0 ≡ 0 = omega arith in
          let low : length_of graph.latencies ii [] last ≤ℤ pos (slice_index numbers last) = (reaches last end).longest [] last refl (omega arith) in
          let on : (pos (slice_index numbers last) +ℤ delay_of other) ≤ℤ (pos (slice_index numbers p) +ℤ pos (ii * distance_of other))
          = walk-below graph.edges ii H (keeps-height graph ii numbers keeps) p last other w in
          omega (arith, ints);
    }

-- what holds of the edges from each operation holds of all
pub keeps-from_each : (graph : GraphData) (ii : ℕ) (numbers : List ℕ) → IsGraph graph
    → ((p : ℕ) → p < length graph.latencies → All (KeepsNumber ii numbers (slice_index numbers p)) (filter (λ (e : EdgeData). e.from == p) graph.edges))
    → KeepsNumbers graph ii numbers
keeps-from_each graph ii numbers g each = λ k d h.
    let e : EdgeData = get_or graph.edges k d in
    all-from_filter (λ (x : EdgeData). x.from == e.from) (KeepsNumber ii numbers (slice_index numbers e.from)) graph.edges (each e.from (g.ends k d h).0) k d h (eq-eqb e.from e.from refl)

-- an edge that is kept for an operation
pub vias-set : (graph : GraphData) (vias : List (Option EdgeData)) (i : ℕ) (via : Option EdgeData) → AreVias graph vias → i < length vias
    → IfSome via (λ e. Contains graph.edges e × (e.from ≡ i)) → AreVias graph (set vias i via)
vias-set graph vias i via old within new = λ p d below.
    let long : length (set vias i via) ≡ length vias = length-set vias i via in
    elim (cases_eq p i) [
      | inl same ↦ subst (λ k. IfSome (get_or (set vias i via) k d) (λ (e : EdgeData). Contains graph.edges e × (e.from ≡ k))) (sym same)
          (subst (λ v. IfSome v (λ (e : EdgeData). Contains graph.edges e × (e.from ≡ i))) (sym (get_or-set_same vias i via d within)) new)
      | inr other ↦ subst (λ v. IfSome v (λ (e : EdgeData). Contains graph.edges e × (e.from ≡ p))) (sym (get_or-set_other vias i p via d other)) (old p d (omega arith))
    ]

-- a walk of so much delay and distance
pub record IsAlong (edges : List EdgeData) (p q : ℕ) (delay : ℤ) (distance : ℕ) : Type 0 where
  pub walk : List EdgeData
  pub is_walk : IsWalk edges p walk q
  pub delay_sum : delay ≡ delay_of walk
  pub distance_sum : distance ≡ distance_of walk

pub along_none : (edges : List EdgeData) (p : ℕ) → IsAlong edges p p (pos 0) 0
along_none edges p = record { walk = []; is_walk = refl; delay_sum = refl; distance_sum = refl }

pub along_more : (edges : List EdgeData) (p q : ℕ) (delay more : ℤ) (distance farther : ℕ) (e : EdgeData) → IsAlong edges p q delay distance → Contains edges e → e.from ≡ q
    → more ≡ (delay +ℤ e.delay) → farther ≡ distance + e.distance → IsAlong edges p e.to more farther
along_more edges p q delay more distance farther e a there from is far =
    let sum : delay ≡ delay_of a.walk = a.delay_sum in
    let sums : distance ≡ distance_of a.walk = a.distance_sum in
    let delays : delay_of (a.walk ++ e ∷ []) ≡ (delay_of a.walk +ℤ (e.delay +ℤ pos 0)) = delay_of-append a.walk (e ∷ []) in
    let distances : distance_of (a.walk ++ e ∷ []) ≡ distance_of a.walk + (e.distance + 0) = distance_of-append a.walk (e ∷ []) in
    record {
      walk = a.walk ++ e ∷ [];
      is_walk = IsWalk-append edges p q e.to a.walk (e ∷ []) a.is_walk (there, from, refl);
      delay_sum = omega (arith, ints);
      distance_sum = omega arith;
    }

-- a closed walk that does not fit
pub exceeds-along : (edges : List EdgeData) (p ii : ℕ) (delay : ℤ) (distance : ℕ) → IsAlong edges p p delay distance → pos (ii * distance) <ℤ delay → Exceeds edges ii
exceeds-along edges p ii delay distance a more =
    let same : ii * distance ≡ ii * distance_of a.walk = ap (λ d. ii * d) a.distance_sum in
    let sum : delay ≡ delay_of a.walk = a.delay_sum in
    record { start = p; walk = a.walk; closed = a.is_walk; exceeds = omega (arith, ints) }

-- numbers in a sweep, once the operations from `op` on were raised: all are as before it, and those are as after it
pub record IsSwept (graph : GraphData) (ii made op : ℕ) (numbers : List ℕ) : Type 0 where
  pub each : AreReaches graph ii (128 * made + (length graph.latencies - op)) made numbers
  pub done : (p : ℕ) → p < length graph.latencies → op ≤ p → IsReach graph ii (128 * made + (length graph.latencies - op)) (made + 1) p (slice_index numbers p)

pub swept_none : (graph : GraphData) (ii made op : ℕ) (numbers : List ℕ) → op ≡ length graph.latencies → AreReaches graph ii (128 * made) made numbers → IsSwept graph ii made op numbers
swept_none graph ii made op numbers all reaches = record {
  each = λ p below. reach-more graph ii (128 * made) (128 * made + (length graph.latencies - op)) made p (slice_index numbers p) (omega arith) (reaches p below);
  done = λ p below past. absurd (omega arith);
}

pub swept_all : (graph : GraphData) (ii made op : ℕ) (numbers : List ℕ) → IsGraph graph → op ≡ 0 → IsSwept graph ii made op numbers
    → AreReaches graph ii (128 * (made + 1)) (made + 1) numbers
swept_all graph ii made op numbers g zero s = λ p below.
    let few : length graph.latencies ≤ 128 = g.few in
    reach-more graph ii (128 * made + (length graph.latencies - op)) (128 * (made + 1)) (made + 1) p (slice_index numbers p) (omega arith) (s.done p below (omega arith))

pub swept-small : (graph : GraphData) (ii made op : ℕ) (numbers : List ℕ) → IsGraph graph → made < length graph.latencies → IsSwept graph ii made op numbers
    → (p : ℕ) → p < length graph.latencies → slice_index numbers p ≤ 2097152
swept-small graph ii made op numbers g few s p below =
    let most : length graph.latencies ≤ 128 = g.few in
    let h : slice_index numbers p ≤ 64 * (128 * made + (length graph.latencies - op)) + 64
    = reach-limited graph ii (128 * made + (length graph.latencies - op)) made p (slice_index numbers p) g below (s.each p below) in
    omega arith

-- the operation before comes to a walk with one edge more
pub swept-reach : (graph : GraphData) (ii made op i best : ℕ) (numbers : List ℕ) → IsGraph graph → i + 1 ≡ op → op ≤ length graph.latencies → IsSwept graph ii made op numbers
    → IsRaised (filter (λ (e : EdgeData). e.from == i) graph.edges) ii numbers (slice_index numbers i) best
    → IsReach graph ii (128 * made + (length graph.latencies - i)) (made + 1) i best
swept-reach graph ii made op i best numbers g at within s r =
    let more : (128 * made + (length graph.latencies - op)) + 1 ≡ 128 * made + (length graph.latencies - i) = omega arith in
    subst (λ k. IsReach graph ii k (made + 1) i best) more
    (reach-raised graph ii (128 * made + (length graph.latencies - op)) made i best numbers g s.each (omega arith) r)

reach-fewer : (graph : GraphData) (ii long most p number : ℕ) → IsReach graph ii long (most + 1) p number → IsReach graph ii long most p number
reach-fewer graph ii long most p number r = record {
  walk = r.walk;
  end = r.end;
  is_walk = r.is_walk;
  few = r.few;
  as_long = r.as_long;
  longest = λ other last w short. r.longest other last w (omega arith);
}

pub swept-risen : (graph : GraphData) (ii made op i best : ℕ) (numbers : List ℕ) → IsGraph graph → i + 1 ≡ op → op ≤ length graph.latencies → i < length numbers
    → IsSwept graph ii made op numbers → IsReach graph ii (128 * made + (length graph.latencies - i)) (made + 1) i best
    → IsSwept graph ii made i (set numbers i best)
swept-risen graph ii made op i best numbers g at within there s new =
    let less : 128 * made + (length graph.latencies - op) ≤ 128 * made + (length graph.latencies - i) = omega arith in
    record {
      each = λ p below. elim (cases_eq p i) [
        | inl same ↦ (let at : i ≡ p = sym same in
            subst (λ k. IsReach graph ii (128 * made + (length graph.latencies - i)) made k (get_or (set numbers i best) k 0)) at
            (subst (IsReach graph ii (128 * made + (length graph.latencies - i)) made i) (sym (get_or-set_same numbers i best 0 there))
            (reach-fewer graph ii (128 * made + (length graph.latencies - i)) made i best new)))
        | inr other ↦ subst (IsReach graph ii (128 * made + (length graph.latencies - i)) made p) (sym (get_or-set_other numbers i p best 0 other))
            (reach-more graph ii (128 * made + (length graph.latencies - op)) (128 * made + (length graph.latencies - i)) made p (slice_index numbers p) less (s.each p below))
      ];
      done = λ p below past. elim (cases_eq p i) [
        | inl same ↦ (let at : i ≡ p = sym same in
            subst (λ k. IsReach graph ii (128 * made + (length graph.latencies - i)) (made + 1) k (get_or (set numbers i best) k 0)) at
            (subst (IsReach graph ii (128 * made + (length graph.latencies - i)) (made + 1) i) (sym (get_or-set_same numbers i best 0 there)) new))
        | inr other ↦ subst (IsReach graph ii (128 * made + (length graph.latencies - i)) (made + 1) p) (sym (get_or-set_other numbers i p best 0 other))
            (reach-more graph ii (128 * made + (length graph.latencies - op)) (128 * made + (length graph.latencies - i)) (made + 1) p (slice_index numbers p) less
            (s.done p below (let past : op ≤ p = omega arith in past)))
      ];
    }

pub swept-kept : (graph : GraphData) (ii made op i : ℕ) (numbers : List ℕ) → IsGraph graph → i + 1 ≡ op → op ≤ length graph.latencies
    → IsSwept graph ii made op numbers → IsReach graph ii (128 * made + (length graph.latencies - i)) (made + 1) i (slice_index numbers i)
    → IsSwept graph ii made i numbers
swept-kept graph ii made op i numbers g at within s new =
    let less : 128 * made + (length graph.latencies - op) ≤ 128 * made + (length graph.latencies - i) = omega arith in
    record {
      each = λ p below.
          reach-more graph ii (128 * made + (length graph.latencies - op)) (128 * made + (length graph.latencies - i)) made p (slice_index numbers p) less (s.each p below);
      done = λ p below past. elim (cases_eq p i) [
        | inl same ↦ subst (λ k. IsReach graph ii (128 * made + (length graph.latencies - i)) (made + 1) k (slice_index numbers k)) (sym same) new
        | inr other ↦
            (reach-more graph ii (128 * made + (length graph.latencies - op)) (128 * made + (length graph.latencies - i)) (made + 1) p (slice_index numbers p) less
            (s.done p below (let past : op ≤ p = omega arith in past)))
      ];
    }

-- the edges from the operations from `op` on raise no number
abbrev pub KeepFrom : GraphData → ℕ → ℕ → List ℕ → Type 0
KeepFrom graph ii op numbers = (p : ℕ) → p < length graph.latencies → op ≤ p
    → All (KeepsNumber ii numbers (slice_index numbers p)) (filter (λ (e : EdgeData). e.from == p) graph.edges)

pub keep-more : (graph : GraphData) (ii op i best : ℕ) (numbers : List ℕ) → i + 1 ≡ op → best ≡ slice_index numbers i → KeepFrom graph ii op numbers
    → IsRaised (filter (λ (e : EdgeData). e.from == i) graph.edges) ii numbers (slice_index numbers i) best → KeepFrom graph ii i numbers
keep-more graph ii op i best numbers at same keep r = λ p below past. elim (cases_eq p i) [
  | inl here ↦ subst (λ k. All (KeepsNumber ii numbers (slice_index numbers k)) (filter (λ (e : EdgeData). e.from == k) graph.edges)) (sym here)
      (subst (λ n. All (KeepsNumber ii numbers n) (filter (λ (e : EdgeData). e.from == i) graph.edges)) same r.no_shorter)
  | inr other ↦ keep p below (omega arith)
]

-- the edges from the operations from `op` on to later ones raise no number
abbrev pub KeepOnward : GraphData → ℕ → ℕ → List ℕ → Type 0
KeepOnward graph ii op numbers = (p : ℕ) → p < length graph.latencies → op ≤ p
    → All (λ (e : EdgeData). p < e.to → KeepsNumber ii numbers (slice_index numbers p) e) (filter (λ (e : EdgeData). e.from == p) graph.edges)

pub onward-more : (graph : GraphData) (ii op i best : ℕ) (numbers : List ℕ) → i + 1 ≡ op → best ≡ slice_index numbers i → KeepOnward graph ii op numbers
    → IsRaised (filter (λ (e : EdgeData). e.from == i) graph.edges) ii numbers (slice_index numbers i) best → KeepOnward graph ii i numbers
onward-more graph ii op i best numbers at same keep r = λ p below past. elim (cases_eq p i) [
  | inl here ↦ subst (λ q. All (λ (e : EdgeData). q < e.to → KeepsNumber ii numbers (slice_index numbers q) e) (filter (λ (e : EdgeData). e.from == q) graph.edges)) (sym here)
      (λ k d h on. subst (λ n. KeepsNumber ii numbers n (get_or (filter (λ (e : EdgeData). e.from == i) graph.edges) k d)) same (r.no_shorter k d h))
  | inr other ↦ keep p below (omega arith)
]

-- a number that rises is none to which these edges lead
pub onward-risen : (graph : GraphData) (ii op i best : ℕ) (numbers : List ℕ) → i + 1 ≡ op → i < length numbers → KeepOnward graph ii op numbers
    → IsRaised (filter (λ (e : EdgeData). e.from == i) graph.edges) ii numbers (slice_index numbers i) best → KeepOnward graph ii i (set numbers i best)
onward-risen graph ii op i best numbers at there keep r = λ p below past. elim (cases_eq p i) [
  | inl here ↦ subst (λ q. All (λ (e : EdgeData). q < e.to → KeepsNumber ii (set numbers i best) (slice_index (set numbers i best) q) e) (filter (λ (e : EdgeData). e.from == q) graph.edges)) (sym here)
      (λ k d h on. (
      let e : EdgeData = get_or (filter (λ (e : EdgeData). e.from == i) graph.edges) k d in
      let one : (pos (slice_index numbers e.to) +ℤ e.delay) ≤ℤ pos (best + ii * e.distance) = r.no_shorter k d h in
      let own : slice_index (set numbers i best) i ≡ best = get_or-set_same numbers i best 0 there in
      let to : slice_index (set numbers i best) e.to ≡ slice_index numbers e.to = get_or-set_other numbers i e.to best 0 (λ same. absurd (omega arith)) in
      omega (arith, ints)))
  | inr other ↦ λ k d h on. (
      let e : EdgeData = get_or (filter (λ (e : EdgeData). e.from == p) graph.edges) k d in
      let one : (pos (slice_index numbers e.to) +ℤ e.delay) ≤ℤ pos (slice_index numbers p + ii * e.distance) = keep p below (omega arith) k d h on in
      let own : slice_index (set numbers i best) p ≡ slice_index numbers p = get_or-set_other numbers i p best 0 other in
      let to : slice_index (set numbers i best) e.to ≡ slice_index numbers e.to = get_or-set_other numbers i e.to best 0 (λ same. absurd (omega arith)) in
      omega (arith, ints))
]

-- what holds of the edges from each operation to later ones holds of all such edges
pub onward-all : (graph : GraphData) (ii : ℕ) (numbers : List ℕ) → IsGraph graph → KeepOnward graph ii 0 numbers → KeepsOnward graph ii numbers
onward-all graph ii numbers g keep = λ k d h on.
    let e : EdgeData = get_or graph.edges k d in
    all-from_filter (λ (x : EdgeData). x.from == e.from) (λ (x : EdgeData). e.from < x.to → KeepsNumber ii numbers (slice_index numbers e.from) x) graph.edges
    (keep e.from (g.ends k d h).0 (omega arith)) k d h (eq-eqb e.from e.from refl) on

-- of the first `count` edges, those that lead to their own operation or to one before it raise no number
abbrev pub KeepBack : List EdgeData → ℕ → List ℕ → ℕ → Type 0
KeepBack edges ii numbers count = (k : ℕ) (d : EdgeData) → k < count → (get_or edges k d).to ≤ (get_or edges k d).from
    → KeepsNumber ii numbers (slice_index numbers (get_or edges k d).from) (get_or edges k d)

pub back-more : (edges : List EdgeData) (ii : ℕ) (numbers : List ℕ) (n : ℕ) (z : EdgeData) → n < length edges → KeepBack edges ii numbers n
    → ((get_or edges n z).to ≤ (get_or edges n z).from → KeepsNumber ii numbers (slice_index numbers (get_or edges n z).from) (get_or edges n z)) → KeepBack edges ii numbers (n + 1)
back-more edges ii numbers n z within old one = λ k d below back. elim (cases_eq k n) [
  | inl here ↦ (let same : get_or edges n z ≡ get_or edges k d = get_or_default edges n z d within ∙ ap (λ i. get_or edges i d) (sym here) in
      subst (λ (e : EdgeData). e.to ≤ e.from → KeepsNumber ii numbers (slice_index numbers e.from) e) same one back)
  | inr other ↦ old k d (omega arith) back
]

-- an edge that is kept for an operation
pub via-edge : (graph : GraphData) (vias : List (Option EdgeData)) (p : ℕ) (d : Option EdgeData) (e : EdgeData) → AreVias graph vias → p < length vias
    → get_or vias p d ≡ Some e → Contains graph.edges e × (e.from ≡ p)
via-edge graph vias p d e are within is = subst (λ v. IfSome v (λ (e : EdgeData). Contains graph.edges e × (e.from ≡ p))) is (are p d within)

abbrev none_yet : Option EdgeData
none_yet = None

pub vias-none : (graph : GraphData) (n : ℕ) → AreVias graph (replicate n none_yet)
vias-none graph n = λ p d below.
    let long : length (replicate n none_yet) ≡ n = length-replicate n none_yet in
    subst (λ v. IfSome v (λ (e : EdgeData). Contains graph.edges e × (e.from ≡ p))) (sym (get_or-replicate n p none_yet d (omega arith))) tt

-- an edge of an operation on itself
pub exceeds-self_edge : (edges : List EdgeData) (ii : ℕ) (e : EdgeData) → Contains edges e → e.from ≡ e.to → pos (ii * e.distance) <ℤ e.delay → Exceeds edges ii
exceeds-self_edge edges ii e there loops more =
    exceeds-along edges e.to ii e.delay e.distance
    (subst (λ p. IsAlong edges p e.to e.delay e.distance) loops (along_more edges e.from e.from (pos 0) e.delay 0 e.distance e (along_none edges e.from) there refl (omega (arith, ints)) (omega arith)))
    more

-- a circuit that does not fit an interval fits no shorter one
pub exceeds-shorter : (edges : List EdgeData) (ii later : ℕ) → ii ≤ later → Exceeds edges later → Exceeds edges ii
exceeds-shorter edges ii later le x =
    let less : ii * distance_of x.walk ≤ later * distance_of x.walk = mul-le-mul le (omega arith) in
    let more : pos (later * distance_of x.walk) <ℤ delay_of x.walk = x.exceeds in
    record { start = x.start; walk = x.walk; closed = x.closed; exceeds = omega (arith, ints) }

-- an interval that a circuit needs is at most 64 cycles for each operation
pub asked_for-limited : (graph : GraphData) (ii : ℕ) → IsGraph graph → (ii ≡ 1) ⊎ Exceeds graph.edges (ii - 1) → ii ≤ 64 * length graph.latencies
asked_for-limited graph ii g (inl one) = let some : 0 < length graph.latencies = g.some in omega arith
asked_for-limited graph ii g (inr x) = let below : ii - 1 < 64 * length graph.latencies = exceeds-below_limit graph (ii - 1) g x in omega arith
