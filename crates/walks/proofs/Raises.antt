-- One round makes the numbers those of walks with one edge more.
use Rattle.std.proofs.Common.{◌≡◌, ◌≢◌, set, get_or-set_other, get_or-set_same, ℕ, ◌+◌, ◌*◌, ◌<◌, ◌≤◌, ◌==◌, ℤ, pos, ◌+ℤ◌, ◌-ℤ◌, Bool, true, false, cond, List, [], ◌∷◌, ◌++◌, length, get_or, filter, refl, sym, ap, ◌∙◌, subst, inl, inr, arith}
use Rattle.std.specs.Prelude.{◌≤ℤ◌, ◌<ℤ◌}
use Rattle.std.specs.List.{slice_index, All, Contains}
use Rattle.std.proofs.lemmas.Int.{ints}
use lib.IntN.{nat_abs, negsuc}
use lib.Signed.{lt_z}
use Rattle.std.proofs.lemmas.Bool.{cases_lt, cases_Bool, eqb-true, eq-eqb}
use Rattle.std.proofs.lemmas.List.Elements.{All-nil, All-cons, All-head, All-tail, All-push, All-contains, All-filter, All-contains_itself, filter_passes, Contains-append_left, Contains-push}
use Rattle.std.proofs.Math.Nat.{mul-add}
use Rattle.edges.specs.Edges.{EdgeData}
use Rattle.edges.specs.Graphs.{GraphData, IsGraph}
use Rattle.walks.specs.Walks.{IsWalk, distance_of, length_of}
use Rattle.walks.specs.inner.Reaches.{IsReach, AreReaches, IsRaised}

-- what holds of each element that passes a test
pub all-from_filter : {X : Type 0} (p : X → Bool) (P : X → Type 0) (xs : List X) → All P (filter p xs) → All (λ x. p x ≡ true → P x) xs
all-from_filter p P [] h = All-nil (λ x. p x ≡ true → P x)
all-from_filter p P (x ∷ xs) h = elim (cases_Bool (p x)) [
  | inl kept ↦ (let k : All P (x ∷ filter p xs) = subst (λ b. All P (cond b (x ∷ filter p xs) (filter p xs))) kept h in
      All-cons (λ x. p x ≡ true → P x) x xs (λ _. All-head P x (filter p xs) k) (all-from_filter p P xs (All-tail P x (filter p xs) k)))
  | inr gone ↦ (let k : All P (filter p xs) = subst (λ b. All P (cond b (x ∷ filter p xs) (filter p xs))) gone h in
      All-cons (λ x. p x ≡ true → P x) x xs (λ is. let wrong : true ≡ false = sym is ∙ gone in cc) (all-from_filter p P xs k))
]

-- an element that a filter keeps
pub contained-from_filter : {X : Type 0} (p : X → Bool) (xs : List X) (x : X) → Contains (filter p xs) x → Contains xs x × (p x ≡ true)
contained-from_filter p xs x h = (
  All-contains (Contains xs) (filter p xs) x (All-filter p (Contains xs) xs (All-contains_itself xs)) h,
  All-contains (λ y. p y ≡ true) (filter p xs) x (filter_passes p xs) h,
)

pub IsRaised-none : (ii : ℕ) (numbers : List ℕ) (own : ℕ) → IsRaised [] ii numbers own own
IsRaised-none ii numbers own = record {
  no_lower = omega arith;
  no_shorter = All-nil (λ (e : EdgeData). (pos (slice_index numbers e.to) +ℤ e.delay) ≤ℤ pos (own + ii * e.distance));
  attained = inl refl;
}

-- one edge more, by which the number rises
pub IsRaised-higher : (edges : List EdgeData) (ii : ℕ) (numbers : List ℕ) (own best next : ℕ) (e : EdgeData) (reached : ℤ)
    → IsRaised edges ii numbers own best → reached ≡ ((pos (slice_index numbers e.to) +ℤ e.delay) -ℤ pos (ii * e.distance))
    → pos best <ℤ reached → pos next ≡ reached → IsRaised (edges ++ e ∷ []) ii numbers own next
IsRaised-higher edges ii numbers own best next e reached r is more new =
    let up : best ≤ next = omega (arith, ints) in
    let low : own ≤ best = r.no_lower in
    record {
      no_lower = omega arith;
      no_shorter = All-push (λ (e : EdgeData). (pos (slice_index numbers e.to) +ℤ e.delay) ≤ℤ pos (next + ii * e.distance)) edges e
          (λ k d h. let old : (pos (slice_index numbers (get_or edges k d).to) +ℤ (get_or edges k d).delay) ≤ℤ pos (best + ii * (get_or edges k d).distance) = r.no_shorter k d h in
          omega (arith, ints))
          (omega (arith, ints));
      attained = inr (record { edge = e; there = Contains-push edges e; as_long = omega (arith, ints) });
    }

-- one edge more, by which it does not
pub IsRaised-kept : (edges : List EdgeData) (ii : ℕ) (numbers : List ℕ) (own best : ℕ) (e : EdgeData) (reached : ℤ)
    → IsRaised edges ii numbers own best → reached ≡ ((pos (slice_index numbers e.to) +ℤ e.delay) -ℤ pos (ii * e.distance))
    → reached ≤ℤ pos best → IsRaised (edges ++ e ∷ []) ii numbers own best
IsRaised-kept edges ii numbers own best e reached r is less = record {
  no_lower = r.no_lower;
  no_shorter = All-push (λ (e : EdgeData). (pos (slice_index numbers e.to) +ℤ e.delay) ≤ℤ pos (best + ii * e.distance)) edges e r.no_shorter (omega (arith, ints));
  attained = elim r.attained [
    | inl same ↦ inl same
    | inr t ↦ inr (record { edge = t.edge; there = Contains-append_left edges (e ∷ []) t.edge t.there; as_long = t.as_long })
  ];
}

-- a walk with an edge before it
length_of-cons : (latencies : List ℕ) (ii : ℕ) (e : EdgeData) (walk : List EdgeData) (end : ℕ)
    → length_of latencies ii (e ∷ walk) end ≡ ((e.delay -ℤ pos (ii * e.distance)) +ℤ length_of latencies ii walk end)
length_of-cons latencies ii e walk end =
    let s : ii * (e.distance + distance_of walk) ≡ ii * e.distance + ii * distance_of walk = mul-add ii e.distance (distance_of walk) in
    omega (arith, ints)

reach-walk : (graph : GraphData) (ii long most p raised : ℕ) (numbers : List ℕ) → IsGraph graph → AreReaches graph ii long most numbers → p < length graph.latencies
    → IsRaised (filter (λ (e : EdgeData). e.from == p) graph.edges) ii numbers (slice_index numbers p) raised
    → (walk : List EdgeData) × (end : ℕ) × IsWalk graph.edges p walk end × (length walk ≤ long + 1) × (pos raised ≡ length_of graph.latencies ii walk end)
reach-walk graph ii long most p raised numbers g reaches below r = elim r.attained [
  | inl same ↦ (let h : IsReach graph ii long most p (slice_index numbers p) = reaches p below in
      let few : length h.walk ≤ long = h.few in
      (h.walk, h.end, h.is_walk, omega arith, ap pos same ∙ h.as_long))
  | inr t ↦ (let c = contained-from_filter (λ (e : EdgeData). e.from == p) graph.edges t.edge t.there in
      let from : t.edge.from ≡ p = eqb-true t.edge.from p c.1 in
      let to : t.edge.to < length graph.latencies = (All-contains (λ (e : EdgeData). (e.from < length graph.latencies) × (e.to < length graph.latencies)) graph.edges t.edge g.ends c.0).1 in
      let h : IsReach graph ii long most t.edge.to (slice_index numbers t.edge.to) = reaches t.edge.to to in
      let few : length h.walk ≤ long = h.few in
      let sum : pos (slice_index numbers t.edge.to) ≡ length_of graph.latencies ii h.walk h.end = h.as_long in
      let is : (pos (slice_index numbers t.edge.to) +ℤ t.edge.delay) ≡ pos (raised + ii * t.edge.distance) = t.as_long in
      let more : length_of graph.latencies ii (t.edge ∷ h.walk) h.end ≡ ((t.edge.delay -ℤ pos (ii * t.edge.distance)) +ℤ length_of graph.latencies ii h.walk h.end)
      = length_of-cons graph.latencies ii t.edge h.walk h.end in
      (t.edge ∷ h.walk, h.end, (c.0, from, h.is_walk), omega arith, omega (arith, ints)))
]

reach-longest : (graph : GraphData) (ii long most p raised : ℕ) (numbers : List ℕ) → IsGraph graph → AreReaches graph ii long most numbers → p < length graph.latencies
    → IsRaised (filter (λ (e : EdgeData). e.from == p) graph.edges) ii numbers (slice_index numbers p) raised
    → (other : List EdgeData) (last : ℕ) → IsWalk graph.edges p other last → length other ≤ most + 1 → length_of graph.latencies ii other last ≤ℤ pos raised
reach-longest graph ii long most p raised numbers g reaches below r [] last w few =
    let up : slice_index numbers p ≤ raised = r.no_lower in
    let h : length_of graph.latencies ii [] last ≤ℤ pos (slice_index numbers p) = (reaches p below).longest [] last w (omega arith) in
    omega (arith, ints)
reach-longest graph ii long most p raised numbers g reaches below r (e ∷ other) last w few =
    let to : e.to < length graph.latencies = (All-contains (λ (e : EdgeData). (e.from < length graph.latencies) × (e.to < length graph.latencies)) graph.edges e g.ends w.0).1 in
    let h : length_of graph.latencies ii other last ≤ℤ pos (slice_index numbers e.to) = (reaches e.to to).longest other last w.2 (omega arith) in
    let k : (pos (slice_index numbers e.to) +ℤ e.delay) ≤ℤ pos (raised + ii * e.distance)
    = All-contains (λ (e : EdgeData). (e.from == p) ≡ true → (pos (slice_index numbers e.to) +ℤ e.delay) ≤ℤ pos (raised + ii * e.distance)) graph.edges e
    (all-from_filter (λ (e : EdgeData). e.from == p) (λ (e : EdgeData). (pos (slice_index numbers e.to) +ℤ e.delay) ≤ℤ pos (raised + ii * e.distance)) graph.edges r.no_shorter)
    w.0 (eq-eqb e.from p w.1) in
    let more : length_of graph.latencies ii (e ∷ other) last ≡ ((e.delay -ℤ pos (ii * e.distance)) +ℤ length_of graph.latencies ii other last)
    = length_of-cons graph.latencies ii e other last in
    omega (arith, ints)

-- a raised number is that of walks with one edge more
pub reach-raised : (graph : GraphData) (ii long most p raised : ℕ) (numbers : List ℕ) → IsGraph graph → AreReaches graph ii long most numbers → p < length graph.latencies
    → IsRaised (filter (λ (e : EdgeData). e.from == p) graph.edges) ii numbers (slice_index numbers p) raised → IsReach graph ii (long + 1) (most + 1) p raised
reach-raised graph ii long most p raised numbers g reaches below r =
    let w = reach-walk graph ii long most p raised numbers g reaches below r in
    record { walk = w.0; end = w.1; is_walk = w.2; few = w.3; as_long = w.4; longest = reach-longest graph ii long most p raised numbers g reaches below r }

first-longest : (graph : GraphData) (ii p number : ℕ) → number ≡ slice_index graph.latencies p → (other : List EdgeData) (last : ℕ) → IsWalk graph.edges p other last
    → length other ≤ 0 → length_of graph.latencies ii other last ≤ℤ pos number
first-longest graph ii p number is [] last w few =
    let same : slice_index graph.latencies p ≡ slice_index graph.latencies last = ap (slice_index graph.latencies) w in
    let zero : ii * 0 ≡ 0 = omega arith in
    omega (arith, ints)
first-longest graph ii p number is (e ∷ other) last w few = absurd (omega arith)

-- the walks without edges
pub reach-first : (graph : GraphData) (ii p number : ℕ) → number ≡ slice_index graph.latencies p → IsReach graph ii 0 0 p number
reach-first graph ii p number is =
    let zero : ii * 0 ≡ 0 = omega arith in
    record { walk = []; end = p; is_walk = refl; few = omega arith; as_long = omega (arith, ints); longest = first-longest graph ii p number is }

-- a row that is filled from its front
pub row-more : (P : ℕ → ℕ → Type 0) (row : List ℕ) (i value : ℕ) → i < length row → ((p : ℕ) → p < i → P p (get_or row p 0)) → P i value
    → (p : ℕ) → p < i + 1 → P p (get_or (set row i value) p 0)
row-more P row i value within old new = λ p below. elim (cases_lt p i) [
  | inl before ↦ (let ne : p ≢ i = omega arith in subst (P p) (sym (get_or-set_other row i p value 0 ne)) (old p before))
  | inr after ↦ (let at : p ≡ i = omega arith in
      subst (λ k. P k (get_or (set row i value) k 0)) (sym at) (subst (P i) (sym (get_or-set_same row i value 0 within)) new))
]

-- a test of signed numbers
pub less-from_test : (a b x y : ℤ) → a ≡ x → b ≡ y → lt_z a b ≡ true → x <ℤ y
less-from_test a b x y same equal test = grind (arith, ints)

pub no_less-from_test : (a b x y : ℤ) → a ≡ x → b ≡ y → lt_z a b ≡ false → y ≤ℤ x
no_less-from_test a b x y same equal test = grind (arith, ints)

pub pos-nat_abs : (low : ℕ) (z : ℤ) → pos low <ℤ z → pos (nat_abs z) ≡ z
pos-nat_abs low (pos n) above = refl
pos-nat_abs low (negsuc n) above = absurd (omega (arith, ints))

-- an element of a row that is set elsewhere
pub get_or-set_far : (row : List ℕ) (i p value : ℕ) → p < i → get_or (set row i value) p 0 ≡ get_or row p 0
get_or-set_far row i p value below = let ne : p ≢ i = omega arith in get_or-set_other row i p value 0 ne

-- the targets of the edges from an operation have small numbers, where all operations have
pub small-targets : (graph : GraphData) (numbers : List ℕ) → IsGraph graph → ((p : ℕ) → p < length graph.latencies → slice_index numbers p ≤ 2097152)
    → (operation : ℕ) (outgoing : List EdgeData) → outgoing ≡ filter (λ (e : EdgeData). e.from == operation) graph.edges
    → All (λ (e : EdgeData). (e.to < 128) × (slice_index numbers e.to ≤ 2097152)) outgoing
small-targets graph numbers g small operation outgoing is =
    let few : length graph.latencies ≤ 128 = g.few in
    subst (All (λ (e : EdgeData). (e.to < 128) × (slice_index numbers e.to ≤ 2097152))) (sym is)
    (All-filter (λ (e : EdgeData). e.from == operation) (λ (e : EdgeData). (e.to < 128) × (slice_index numbers e.to ≤ 2097152)) graph.edges
    (λ k d h. let to = (g.ends k d h).1 in (omega arith, small _ to)))

-- an edge from an operation, among all edges
pub edge-outgoing : (graph : GraphData) → IsGraph graph → (operation : ℕ) (outgoing : List EdgeData) → outgoing ≡ filter (λ (e : EdgeData). e.from == operation) graph.edges
    → (e : EdgeData) → Contains outgoing e → Contains graph.edges e × (e.from ≡ operation) × (e.to < length graph.latencies)
edge-outgoing graph g operation outgoing is e there =
    let c = contained-from_filter (λ (e : EdgeData). e.from == operation) graph.edges e (subst (λ l. Contains l e) is there) in
    let ends = All-contains (λ (e : EdgeData). (e.from < length graph.latencies) × (e.to < length graph.latencies)) graph.edges e g.ends c.0 in
    (c.0, eqb-true e.from operation c.1, ends.1)
