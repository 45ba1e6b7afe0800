-- Walks of as many edges as there are operations go round.
use Rattle.std.proofs.Common.{◌≡◌, ◌⊎◌, ℕ, zero, suc, ◌+◌, ◌*◌, ◌<◌, ◌≤◌, pos, ◌+ℤ◌, Bool, true, false, List, [], ◌∷◌, ◌++◌, length, refl, sym, ap, ◌∙◌, subst, inl, inr, arith, eqb}
use Rattle.std.specs.Prelude.{◌≤ℤ◌}
use Rattle.std.proofs.lemmas.Int.{ints, by_lt_z}
use Rattle.std.proofs.lemmas.List.{length-append}
use Rattle.std.proofs.lemmas.List.Elements.{All-contains}
use Rattle.std.proofs.lemmas.Bool.{cases_lt, cases_Bool, eqb-true, or_cases, or_parts}
use Rattle.std.proofs.lemmas.Map.Keys.{IsDistinct-cons}
use Rattle.std.proofs.lemmas.Map.Steps.{length-le_from_distinct_below}
use Rattle.std.proofs.Math.Nat.{mul-add}
use Rattle.std.specs.List.{All, list_any, IsDistinct, AllByRecursion}
use Rattle.edges.specs.Edges.{EdgeData}
use Rattle.walks.specs.Walks.{IsWalk, delay_of, distance_of, Exceeds, length_of}
use Rattle.walks.specs.Promises.{WalksAreShort}

-- the operations that a walk comes through, its first one included
abbrev vertices : ℕ → List EdgeData → List ℕ
vertices p [] = p ∷ []
vertices p (e ∷ walk) = p ∷ vertices e.to walk

length_vertices : (p : ℕ) (walk : List EdgeData) → length (vertices p walk) ≡ suc (length walk)
length_vertices p [] = refl
length_vertices p (e ∷ walk) = ap suc (length_vertices e.to walk)

vertices_below : (edges : List EdgeData) (n : ℕ) → All (λ (e : EdgeData). (e.from < n) × (e.to < n)) edges → (p q : ℕ) (walk : List EdgeData) → p < n → IsWalk edges p walk q
    → (x : ℕ) → list_any (eqb x) (vertices p walk) ≡ true → x < n
vertices_below edges n ends p q [] below w x any = elim (or_cases (eqb x p) false any) [
  | inl here ↦ (let e : x ≡ p = eqb-true x p here in omega arith)
  | inr wrong ↦ cc
]
vertices_below edges n ends p q (e ∷ walk) below w x any = elim (or_cases (eqb x p) (list_any (eqb x) (vertices e.to walk)) any) [
  | inl here ↦ (let s : x ≡ p = eqb-true x p here in omega arith)
  | inr there ↦ (let h = All-contains (λ (e : EdgeData). (e.from < n) × (e.to < n)) edges e ends w.0 in
      vertices_below edges n ends e.to q walk h.1 w.2 x there)
]

-- a walk that goes round: to an operation, from it to it again, and on
pub record GoesRound (edges : List EdgeData) (p : ℕ) (walk : List EdgeData) (q : ℕ) : Type 0 where
  pub before : List EdgeData
  pub circuit : List EdgeData
  pub after : List EdgeData
  pub at : ℕ
  pub is : walk ≡ before ++ (circuit ++ after)
  pub first : IsWalk edges p before at
  pub round : IsWalk edges at circuit at
  pub last : IsWalk edges at after q
  pub some : 0 < length circuit

-- a walk through an operation
record Passes (edges : List EdgeData) (p : ℕ) (walk : List EdgeData) (q x : ℕ) : Type 0 where
  before : List EdgeData
  after : List EdgeData
  is : walk ≡ before ++ after
  first : IsWalk edges p before x
  last : IsWalk edges x after q

passes_through : (edges : List EdgeData) (p q : ℕ) (walk : List EdgeData) → IsWalk edges p walk q → (x : ℕ) → list_any (eqb x) (vertices p walk) ≡ true → Passes edges p walk q x
passes_through edges p q [] w x any = elim (or_cases (eqb x p) false any) [
  | inl here ↦ (let e : x ≡ p = eqb-true x p here in record { before = []; after = []; is = refl; first = sym e; last = e ∙ w })
  | inr wrong ↦ cc
]
passes_through edges p q (e ∷ walk) w x any = elim (or_cases (eqb x p) (list_any (eqb x) (vertices e.to walk)) any) [
  | inl here ↦ (let s : x ≡ p = eqb-true x p here in
      record { before = []; after = e ∷ walk; is = refl; first = sym s; last = subst (λ k. IsWalk edges k (e ∷ walk) q) (sym s) w })
  | inr there ↦ (let r : Passes edges e.to walk q x = passes_through edges e.to q walk w.2 x there in
      record { before = e ∷ r.before; after = r.after; is = ap (λ l. e ∷ l) r.is; first = (w.0, w.1, r.first); last = r.last })
]

none_of : (test : ℕ → Bool) (xs : List ℕ) → list_any test xs ≡ false → AllByRecursion (λ y. test y ≡ false) xs
none_of test [] h = tt
none_of test (x ∷ xs) h = let p = or_parts (test x) (list_any test xs) h in (p.0, none_of test xs p.1)

round_or_distinct : (edges : List EdgeData) (p q : ℕ) (walk : List EdgeData) → IsWalk edges p walk q → GoesRound edges p walk q ⊎ IsDistinct eqb (vertices p walk)
unfolding IsDistinct
round_or_distinct edges p q [] w = inr (tt, tt)
round_or_distinct edges p q (e ∷ walk) w = elim (cases_Bool (list_any (eqb p) (vertices e.to walk))) [
  | inl again ↦ (let r : Passes edges e.to walk q p = passes_through edges e.to q walk w.2 p again in
      inl (record { before = []; circuit = e ∷ r.before; after = r.after; at = p; is = ap (λ l. e ∷ l) r.is; first = refl; round = (w.0, w.1, r.first); last = r.last; some = omega arith }))
  | inr new ↦ elim (round_or_distinct edges e.to q walk w.2) [
    | inl g ↦ inl (record { before = e ∷ g.before; circuit = g.circuit; after = g.after; at = g.at; is = ap (λ l. e ∷ l) g.is; first = (w.0, w.1, g.first); round = g.round; last = g.last; some = g.some })
    | inr apart ↦ inr (IsDistinct-cons eqb p (vertices e.to walk) (none_of (eqb p) (vertices e.to walk) new) apart)
  ]
]

goes_round : (edges : List EdgeData) (n : ℕ) → All (λ (e : EdgeData). (e.from < n) × (e.to < n)) edges → (p q : ℕ) (walk : List EdgeData) → p < n → IsWalk edges p walk q
    → n ≤ length walk → GoesRound edges p walk q
goes_round edges n ends p q walk below w long = elim (round_or_distinct edges p q walk w) [
  | inl g ↦ g
  | inr apart ↦ (let a : length (vertices p walk) ≤ n = length-le_from_distinct_below (vertices p walk) n apart (vertices_below edges n ends p q walk below w) in
      let b : length (vertices p walk) ≡ suc (length walk) = length_vertices p walk in
      absurd (omega arith))
]

pub IsWalk-append : (edges : List EdgeData) (p m q : ℕ) (a b : List EdgeData) → IsWalk edges p a m → IsWalk edges m b q → IsWalk edges p (a ++ b) q
IsWalk-append edges p m q [] b v w = subst (λ k. IsWalk edges k b q) (sym v) w
IsWalk-append edges p m q (e ∷ a) b v w = (v.0, v.1, IsWalk-append edges e.to m q a b v.2 w)

pub delay_of-append : (a b : List EdgeData) → delay_of (a ++ b) ≡ (delay_of a +ℤ delay_of b)
delay_of-append [] b = omega (arith, ints)
delay_of-append (e ∷ a) b = let h : delay_of (a ++ b) ≡ (delay_of a +ℤ delay_of b) = delay_of-append a b in omega (arith, ints)

pub distance_of-append : (a b : List EdgeData) → distance_of (a ++ b) ≡ distance_of a + distance_of b
distance_of-append [] b = omega arith
distance_of-append (e ∷ a) b = let h : distance_of (a ++ b) ≡ distance_of a + distance_of b = distance_of-append a b in omega arith

-- a walk of the same ends with fewer than `n` edges, and as long
pub record AsLong (edges : List EdgeData) (latencies : List ℕ) (ii n p : ℕ) (walk : List EdgeData) (q : ℕ) : Type 0 where
  pub other : List EdgeData
  pub is_walk : IsWalk edges p other q
  pub short : length other < n
  pub as_long : length_of latencies ii walk q ≤ℤ length_of latencies ii other q

cut : (edges : List EdgeData) (latencies : List ℕ) (ii p q : ℕ) (walk : List EdgeData) → GoesRound edges p walk q → Exceeds edges ii ⊎ AsLong edges latencies ii (length walk) p walk q
cut edges latencies ii p q walk g = by_lt_z (pos (ii * distance_of g.circuit)) (delay_of g.circuit)
    (λ more. inl (record { start = g.at; walk = g.circuit; closed = g.round; exceeds = more }))
    (λ fits.
    let dw : delay_of walk ≡ (delay_of g.before +ℤ (delay_of g.circuit +ℤ delay_of g.after))
    = ap delay_of g.is ∙ delay_of-append g.before (g.circuit ++ g.after) ∙ ap (λ z. delay_of g.before +ℤ z) (delay_of-append g.circuit g.after) in
    let nw : distance_of walk ≡ distance_of g.before + (distance_of g.circuit + distance_of g.after)
    = ap distance_of g.is ∙ distance_of-append g.before (g.circuit ++ g.after) ∙ ap (λ z. distance_of g.before + z) (distance_of-append g.circuit g.after) in
    let dr : delay_of (g.before ++ g.after) ≡ (delay_of g.before +ℤ delay_of g.after) = delay_of-append g.before g.after in
    let nr : distance_of (g.before ++ g.after) ≡ distance_of g.before + distance_of g.after = distance_of-append g.before g.after in
    let mw : ii * distance_of walk ≡ ii * distance_of g.before + (ii * distance_of g.circuit + ii * distance_of g.after)
    = ap (λ z. ii * z) nw ∙ mul-add ii (distance_of g.before) (distance_of g.circuit + distance_of g.after)
    ∙ ap (λ z. ii * distance_of g.before + z) (mul-add ii (distance_of g.circuit) (distance_of g.after)) in
    let mo : ii * distance_of (g.before ++ g.after) ≡ ii * distance_of g.before + ii * distance_of g.after
    = ap (λ z. ii * z) nr ∙ mul-add ii (distance_of g.before) (distance_of g.after) in
    let lw : length walk ≡ length g.before + (length g.circuit + length g.after)
    = ap length g.is ∙ length-append g.before (g.circuit ++ g.after) ∙ ap (λ z. length g.before + z) (length-append g.circuit g.after) in
    let lo : length (g.before ++ g.after) ≡ length g.before + length g.after = length-append g.before g.after in
    let some : 0 < length g.circuit = g.some in
    inr (record { other = g.before ++ g.after; is_walk = IsWalk-append edges p g.at q g.before g.after g.first g.last; short = omega arith; as_long = omega (arith, ints) }))

-- some circuit does not fit, or each walk has one of fewer edges than there are operations that is as long
pub exceeds_or_short : (edges : List EdgeData) (latencies : List ℕ) (ii n : ℕ) → All (λ (e : EdgeData). (e.from < n) × (e.to < n)) edges
    → (m p q : ℕ) (walk : List EdgeData) → length walk ≤ m → p < n → IsWalk edges p walk q → Exceeds edges ii ⊎ AsLong edges latencies ii n p walk q
exceeds_or_short edges latencies ii n ends zero p q walk few below w =
    inr (record { other = walk; is_walk = w; short = omega arith; as_long = omega (arith, ints) })
exceeds_or_short edges latencies ii n ends (suc m) p q walk few below w = elim (cases_lt (length walk) n) [
  | inl short ↦ inr (record { other = walk; is_walk = w; short = short; as_long = omega (arith, ints) })
  | inr long ↦ elim (cut edges latencies ii p q walk (goes_round edges n ends p q walk below w long)) [
    | inl x ↦ inl x
    | inr less ↦ (let shorter : length less.other < length walk = less.short in
        elim (exceeds_or_short edges latencies ii n ends m p q less.other (omega arith) below less.is_walk) [
          | inl x ↦ inl x
          | inr r ↦ (let a : length_of latencies ii walk q ≤ℤ length_of latencies ii less.other q = less.as_long in
              let b : length_of latencies ii less.other q ≤ℤ length_of latencies ii r.other q = r.as_long in
              inr (record { other = r.other; is_walk = r.is_walk; short = r.short; as_long = omega (arith, ints) }))
        ])
  ]
]

pub walks-are_short : WalksAreShort
walks-are_short graph ii g p q walk below w = elim (exceeds_or_short graph.edges graph.latencies ii (length graph.latencies) g.ends (length walk) p q walk (omega arith) below w) [
  | inl x ↦ inl x
  | inr s ↦ inr (s.other, s.is_walk, s.short, s.as_long)
]
