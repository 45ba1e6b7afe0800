-- What it tells of an interval whether a round changes a number.
use Rattle.std.proofs.Common.{◌≡◌, ◌⊎◌, ℕ, ◌+◌, ◌==◌, true, false, filter, take, ◌*◌, ◌<◌, ◌≤◌, ℤ, pos, List, [], ◌∷◌, length, refl, sym, ap, ◌∙◌, subst, inl, inr, arith}
use Rattle.std.specs.Prelude.{◌≤ℤ◌, ◌<ℤ◌}
use Rattle.std.specs.List.{slice_index, All, Contains}
use Rattle.std.proofs.lemmas.Int.{ints}
use Rattle.std.proofs.lemmas.Bool.{cases_lt}
use Rattle.std.proofs.lemmas.List.{get_or-take, get_or_default, length-take-le}
use Rattle.std.proofs.lemmas.List.Elements.{All-contains, All-contains_itself}
use Rattle.std.proofs.Math.Nat.{mul-add}
use Rattle.edges.specs.Edges.{EdgeData}
use Rattle.edges.specs.Graphs.{GraphData, IsGraph}
use Rattle.walks.specs.Walks.{IsWalk, delay_of, distance_of, length_of, FitsCircuits, Exceeds, IsHeight, AreHeights}
use Rattle.walks.specs.Rounds.{IsSettledAt, Settles, IsRounds}
use Rattle.walks.specs.inner.Reaches.{IsReach, AreReaches, IsRaised, IsUnsettled}
use Rattle.walks.specs.Promises.{SumsAreLimited}
use Rattle.walks.proofs.Circuits.{exceeds_or_short}
use Rattle.walks.proofs.Raises.{reach-raised}
use Rattle.walks.proofs.Potentials.{KeepsHeight, fits-from_heights, fits-at_limit}
use Rattle.walks.proofs.Recurrences.{fits-longer}

ends-walk : (graph : GraphData) → IsGraph graph → (p q : ℕ) (walk : List EdgeData) → p < length graph.latencies → IsWalk graph.edges p walk q → q < length graph.latencies
ends-walk graph g p q [] below w = subst (λ k. k < length graph.latencies) w below
ends-walk graph g p q (e ∷ walk) below w =
    ends-walk graph g e.to q walk (All-contains (λ (e : EdgeData). (e.from < length graph.latencies) × (e.to < length graph.latencies)) graph.edges e g.ends w.0).1 w.2

delay-limited : (graph : GraphData) → IsGraph graph → (p q : ℕ) (walk : List EdgeData) → IsWalk graph.edges p walk q → delay_of walk ≤ℤ pos (64 * length walk)
delay-limited graph g p q [] w = omega (arith, ints)
delay-limited graph g p q (e ∷ walk) w =
    let short : e.delay ≤ℤ pos 64 = All-contains (λ (e : EdgeData). e.delay ≤ℤ pos 64) graph.edges e g.delays w.0 in
    let rest : delay_of walk ≤ℤ pos (64 * length walk) = delay-limited graph g e.to q walk w.2 in
    omega (arith, ints)

pub sums-are_limited : SumsAreLimited
sums-are_limited graph ii g p q walk below w =
    let end : q < length graph.latencies = ends-walk graph g p q walk below w in
    let short : slice_index graph.latencies q ≤ 64 = (g.latencies q 0 end).1 in
    let sum : delay_of walk ≤ℤ pos (64 * length walk) = delay-limited graph g p q walk w in
    omega (arith, ints)

-- no number is greater than 64 cycles for each edge, and 64 more
pub reach-limited : (graph : GraphData) (ii long most p number : ℕ) → IsGraph graph → p < length graph.latencies → IsReach graph ii long most p number → number ≤ 64 * long + 64
reach-limited graph ii long most p number g below r =
    let few : length r.walk ≤ long = r.few in
    let sum : pos number ≡ length_of graph.latencies ii r.walk r.end = r.as_long in
    let limit : length_of graph.latencies ii r.walk r.end ≤ℤ pos (64 * length r.walk + 64) = sums-are_limited graph ii g p r.end r.walk below r.is_walk in
    omega (arith, ints)

-- a number that rises in a round
pub unsettled-from_rise : (graph : GraphData) (ii most p number next : ℕ) → p < length graph.latencies → IsReach graph ii most most p number
    → IsReach graph ii (most + 1) (most + 1) p next → number < next → IsUnsettled graph ii (most + 1)
unsettled-from_rise graph ii most p number next below old new more = record {
  start = p;
  there = below;
  walk = new.walk;
  end = new.end;
  is_walk = new.is_walk;
  few = new.few;
  longer = λ other last w short.
      let h : length_of graph.latencies ii other last ≤ℤ pos number = old.longest other last w (omega arith) in
      let k : pos next ≡ length_of graph.latencies ii new.walk new.end = new.as_long in
      omega (arith, ints);
}

-- no number rises in a round
pub settles-from_same : (graph : GraphData) (ii most : ℕ) (numbers next : List ℕ) → AreReaches graph ii most most numbers → AreReaches graph ii (most + 1) (most + 1) next
    → ((p : ℕ) → p < length graph.latencies → slice_index next p ≡ slice_index numbers p) → Settles graph ii (most + 1)
settles-from_same graph ii most numbers next old new same = λ p below.
    let r : IsReach graph ii most most p (slice_index numbers p) = old p below in
    let few : length r.walk ≤ most = r.few in
    record {
      walk = r.walk;
      end = r.end;
      is_walk = r.is_walk;
      few = omega arith;
      longest = λ other last w short.
          let h : length_of graph.latencies ii other last ≤ℤ pos (slice_index next p) = (new p below).longest other last w short in
          let k : slice_index next p ≡ slice_index numbers p = same p below in
          let l : pos (slice_index numbers p) ≡ length_of graph.latencies ii r.walk r.end = r.as_long in
          omega (arith, ints);
    }

pub unsettled-not_settled : (graph : GraphData) (ii round : ℕ) → IsUnsettled graph ii round → Settles graph ii round → ⊥
unsettled-not_settled graph ii round u settles =
    let s : IsSettledAt graph ii round u.start = settles u.start u.there in
    let a : length_of graph.latencies ii s.walk s.end <ℤ length_of graph.latencies ii u.walk u.end = u.longer s.walk s.end s.is_walk s.few in
    let b : length_of graph.latencies ii u.walk u.end ≤ℤ length_of graph.latencies ii s.walk s.end = s.longest u.walk u.end u.is_walk u.few in
    omega (arith, ints)

-- where round `length graph.latencies` still changes a number, some circuit does not fit
pub exceeds-from_unsettled : (graph : GraphData) (ii : ℕ) → IsGraph graph → IsUnsettled graph ii (length graph.latencies) → Exceeds graph.edges ii
exceeds-from_unsettled graph ii g u =
    elim (exceeds_or_short graph.edges graph.latencies ii (length graph.latencies) g.ends (length u.walk) u.start u.end u.walk (omega arith) u.there u.is_walk) [
      | inl x ↦ x
      | inr s ↦ (let a : length_of graph.latencies ii s.other u.end <ℤ length_of graph.latencies ii u.walk u.end = u.longer s.other u.end s.is_walk s.short in
          let b : length_of graph.latencies ii u.walk u.end ≤ℤ length_of graph.latencies ii s.other u.end = s.as_long in
          absurd (omega (arith, ints)))
    ]

-- the lengths of the walks at which rounds settle are numbers that keep the edges
abbrev height_at : (graph : GraphData) (ii round : ℕ) → Settles graph ii round → (p : ℕ) → (p < length graph.latencies) ⊎ (length graph.latencies ≤ p) → ℤ
height_at graph ii round settles p (inl below) = length_of graph.latencies ii (settles p below).walk (settles p below).end
height_at graph ii round settles p (inr above) = pos 0

abbrev height_of : (graph : GraphData) (ii round : ℕ) → Settles graph ii round → ℕ → ℤ
height_of graph ii round settles p = height_at graph ii round settles p (cases_lt p (length graph.latencies))

-- it is at least as long as each walk of at most `round` edges
highest : (graph : GraphData) (ii round : ℕ) (settles : Settles graph ii round) (p : ℕ) (case : (p < length graph.latencies) ⊎ (length graph.latencies ≤ p))
    → p < length graph.latencies → (other : List EdgeData) (last : ℕ) → IsWalk graph.edges p other last → length other ≤ round
    → length_of graph.latencies ii other last ≤ℤ height_at graph ii round settles p case
highest graph ii round settles p (inl below) h other last w few = (settles p below).longest other last w few
highest graph ii round settles p (inr above) h other last w few = absurd (omega arith)

-- some walk of fewer edges is as long as it
record Attains (graph : GraphData) (ii round p : ℕ) (height : ℤ) : Type 0 where
  walk : List EdgeData
  end : ℕ
  is_walk : IsWalk graph.edges p walk end
  few : length walk < round
  as_long : height ≡ length_of graph.latencies ii walk end

attains : (graph : GraphData) (ii round : ℕ) (settles : Settles graph ii round) (p : ℕ) (case : (p < length graph.latencies) ⊎ (length graph.latencies ≤ p))
    → p < length graph.latencies → Attains graph ii round p (height_at graph ii round settles p case)
attains graph ii round settles p (inl below) h =
    record { walk = (settles p below).walk; end = (settles p below).end; is_walk = (settles p below).is_walk; few = (settles p below).few; as_long = refl }
attains graph ii round settles p (inr above) h = absurd (omega arith)

keeps-edge : (graph : GraphData) (ii round : ℕ) → IsGraph graph → (settles : Settles graph ii round) (e : EdgeData) → Contains graph.edges e
    → KeepsHeight ii (height_of graph ii round settles) e
keeps-edge graph ii round g settles e there =
    let n : ℕ = length graph.latencies in
    let ends = All-contains (λ (e : EdgeData). (e.from < n) × (e.to < n)) graph.edges e g.ends there in
    let a : Attains graph ii round e.to (height_of graph ii round settles e.to) = attains graph ii round settles e.to (cases_lt e.to n) ends.1 in
    let few : length a.walk < round = a.few in
    let long : height_of graph ii round settles e.to ≡ length_of graph.latencies ii a.walk a.end = a.as_long in
    let h : length_of graph.latencies ii (e ∷ a.walk) a.end ≤ℤ height_of graph ii round settles e.from
    = highest graph ii round settles e.from (cases_lt e.from n) ends.0 (e ∷ a.walk) a.end (there, refl, a.is_walk) (omega arith) in
    let s : ii * (e.distance + distance_of a.walk) ≡ ii * e.distance + ii * distance_of a.walk = mul-add ii e.distance (distance_of a.walk) in
    omega (arith, ints)

keeps-from_settles : (graph : GraphData) (ii round : ℕ) → IsGraph graph → (settles : Settles graph ii round)
    → All (KeepsHeight ii (height_of graph ii round settles)) graph.edges
keeps-from_settles graph ii round g settles = λ k d h. keeps-edge graph ii round g settles _ (All-contains_itself graph.edges k d h)

-- rounds settle only where all circuits fit
pub fits-from_settles : (graph : GraphData) (ii round : ℕ) → IsGraph graph → Settles graph ii round → FitsCircuits graph.edges ii
fits-from_settles graph ii round g settles = fits-from_heights graph.edges ii (height_of graph ii round settles) (keeps-from_settles graph ii round g settles)

pub exceeds-not_fits : (edges : List EdgeData) (ii : ℕ) → Exceeds edges ii → FitsCircuits edges ii → ⊥
exceeds-not_fits edges ii x fits =
    let a : delay_of x.walk ≤ℤ pos (ii * distance_of x.walk) = fits x.start x.walk x.closed in
    let b : pos (ii * distance_of x.walk) <ℤ delay_of x.walk = x.exceeds in
    omega (arith, ints)

-- what every round so far has changed
abbrev pub HaveChanged : GraphData → ℕ → ℕ → Type 0
HaveChanged graph ii next = (fewer : ℕ) → 1 ≤ fewer → fewer < next → IsUnsettled graph ii fewer

-- what a round makes of the numbers
abbrev pub IsRound : GraphData → ℕ → List ℕ → List ℕ → Type 0
IsRound graph ii numbers next = (p : ℕ) → p < length graph.latencies
    → IsRaised (filter (λ (e : EdgeData). e.from == p) graph.edges) ii numbers (slice_index numbers p) (slice_index next p)

pub reaches-more : (graph : GraphData) (ii made : ℕ) (numbers next : List ℕ) → IsGraph graph → AreReaches graph ii made made numbers
    → IsRound graph ii numbers next → AreReaches graph ii (made + 1) (made + 1) next
reaches-more graph ii made numbers next g reaches round = λ p below.
    reach-raised graph ii made made p (slice_index next p) numbers g reaches below (round p below)

pub changed-more : (graph : GraphData) (ii made : ℕ) (numbers next : List ℕ) → AreReaches graph ii made made numbers → AreReaches graph ii (made + 1) (made + 1) next
    → (p : ℕ) → p < length graph.latencies → slice_index numbers p < slice_index next p → HaveChanged graph ii (made + 1) → HaveChanged graph ii (made + 2)
changed-more graph ii made numbers next old new p below rise changed = λ fewer from to. elim (cases_lt fewer (made + 1)) [
  | inl before ↦ changed fewer from before
  | inr after ↦ (let at : made + 1 ≡ fewer = omega arith in
      subst (IsUnsettled graph ii) at
      (unsettled-from_rise graph ii made p (slice_index numbers p) (slice_index next p) below (old p below) (new p below) rise))
]

pub rounds-settled : (graph : GraphData) (ii made : ℕ) → 1 ≤ made → made ≤ length graph.latencies → Settles graph ii made → HaveChanged graph ii made
    → IsRounds graph ii true made
rounds-settled graph ii made some few settles changed = record {
  from_one = some;
  within = few;
  settles = λ _. settles;
  least = λ fewer from to wrong. unsettled-not_settled graph ii fewer (changed fewer from to) wrong;
  never = λ wrong. cc;
}

pub rounds-never : (graph : GraphData) (ii : ℕ) → IsGraph graph → Exceeds graph.edges ii → IsRounds graph ii false (length graph.latencies)
rounds-never graph ii g x =
    let some : 0 < length graph.latencies = g.some in
    record {
      from_one = omega arith;
      within = omega arith;
      settles = λ wrong. cc;
      least = λ fewer from to settles. exceeds-not_fits graph.edges ii x (fits-from_settles graph ii fewer g settles);
      never = λ _. (refl, λ more from settles. exceeds-not_fits graph.edges ii x (fits-from_settles graph ii more g settles));
    }

-- a circuit that fits an interval fits each longer one
pub fits-at_longer : (edges : List EdgeData) (ii later : ℕ) → ii ≤ later → FitsCircuits edges ii → FitsCircuits edges later
fits-at_longer edges ii later le fits = λ p walk w. fits-longer ii later (distance_of walk) (delay_of walk) le (fits p walk w)

pub exceeds-below_bound : (edges : List EdgeData) (ii bound : ℕ) → Exceeds edges ii → FitsCircuits edges bound → ii < bound
exceeds-below_bound edges ii bound x fits = elim (cases_lt ii bound) [
  | inl less ↦ less
  | inr more ↦ absurd (exceeds-not_fits edges ii x (fits-at_longer edges bound ii more fits))
]

-- no circuit exceeds an interval of 64 cycles for each operation
pub exceeds-below_limit : (graph : GraphData) (ii : ℕ) → IsGraph graph → Exceeds graph.edges ii → ii < 64 * length graph.latencies
exceeds-below_limit graph ii g x = exceeds-below_bound graph.edges ii (64 * length graph.latencies) x (fits-at_limit graph g)

-- a height is 1 to 64 cycles for each operation
pub height-range : (graph : GraphData) (ii p height : ℕ) → IsGraph graph → FitsCircuits graph.edges ii → p < length graph.latencies
    → IsHeight graph.edges graph.latencies ii p height → (1 ≤ height) × (height ≤ 64 * length graph.latencies)
height-range graph ii p height g fits below h =
    let some : 0 < slice_index graph.latencies p = (g.latencies p 0 below).0 in
    let zero : ii * 0 ≡ 0 = omega arith in
    let low : length_of graph.latencies ii [] p ≤ℤ pos height = h.longest [] p refl in
    let long : pos height ≡ length_of graph.latencies ii h.walk h.end = h.as_long in (
      omega (arith, ints),
      elim (exceeds_or_short graph.edges graph.latencies ii (length graph.latencies) g.ends (length h.walk) p h.end h.walk (omega arith) below h.is_walk) [
        | inl x ↦ absurd (exceeds-not_fits graph.edges ii x fits)
        | inr s ↦ (let short : length s.other < length graph.latencies = s.short in
            let as_long : length_of graph.latencies ii h.walk h.end ≤ℤ length_of graph.latencies ii s.other h.end = s.as_long in
            let limit : length_of graph.latencies ii s.other h.end ≤ℤ pos (64 * length s.other + 64) = sums-are_limited graph ii g p h.end s.other below s.is_walk in
            omega (arith, ints))
      ],
    )

-- the heights among a row's numbers
pub heights-taken : (graph : GraphData) (ii : ℕ) (numbers : List ℕ) → AreHeights graph ii numbers → AreHeights graph ii (take (length graph.latencies) numbers)
heights-taken graph ii numbers heights = λ p below.
    subst (IsHeight graph.edges graph.latencies ii p) (sym (get_or-take (length graph.latencies) numbers p 0 below)) (heights p below)

-- a vector's numbers are the heights
pub items-are_heights : (graph : GraphData) (ii : ℕ) (numbers items : List ℕ) → IsGraph graph → FitsCircuits graph.edges ii → AreHeights graph ii numbers
    → length graph.latencies ≤ length numbers → items ≡ take (length graph.latencies) numbers
    → (length items ≡ length graph.latencies) × AreHeights graph ii items × All (λ h. (1 ≤ h) × (h ≤ 64 * length graph.latencies)) items
items-are_heights graph ii numbers items g f heights long is =
    let n : ℕ = length graph.latencies in
    let all : length items ≡ n = ap length is ∙ length-take-le n numbers long in
    let each : AreHeights graph ii items = subst (AreHeights graph ii) (sym is) (heights-taken graph ii numbers heights) in (
      all,
      each,
      λ p d below.
          let within : p < n = omega arith in
          subst (λ h. (1 ≤ h) × (h ≤ 64 * n)) (get_or_default items p 0 d below)
          (height-range graph ii p (slice_index items p) g f within (each p within)),
    )
