-- The order of edges, by their fields.
use Rattle.std.proofs.Common.{◌≡◌, ◌⊎◌, ℕ, ◌<◌, ℤ, Bool, true, ◌&&◌, ◌==◌, List, [], get_or, refl, sym, ap, ◌∙◌, subst, inl, inr, arith, Ordering, nat_cmp, int_cmp}
use Rattle.std.specs.Prelude.{◌<ℤ◌}
use Rattle.std.specs.declared.cmp.Ordering.TheVariants.{Less, Equal, Greater}
use Rattle.std.specs.Ordering.{ordering_then, is_eq, eq_by_cmp, int_eq, MatchOrdering}
use Rattle.std.specs.Cmp.{IsTotalOrder, IsEquivalence}
use Rattle.std.specs.List.{AllPairs, Contains, dedup}
use Rattle.std.specs.List.Sorted.{IsSorted, IsStrictlySortedBy, IsPermutation}
use Rattle.std.specs.List.Retain.{IsFiltered, DiffersFromLast}
use Rattle.std.proofs.lemmas.Cmp.{then_total, on_total, nat_cmp_total, int_cmp_total, nat_eq_equiv, int_eq_equiv, and_equiv, on_equiv, ranked, int_ranked}
use Rattle.std.proofs.lemmas.Bool.{eq-eqb, ne_eqb, eqb-true, and_parts}
use Rattle.std.proofs.lemmas.Bool.Decides.{Decides-int_eq}
use Rattle.std.proofs.lemmas.List.Filters.{dedup_is}
use Rattle.std.proofs.lemmas.List.Kept.{IsStrictlySortedBy-dedup, Contains-dedup, Contains-from_dedup}
use Rattle.std.proofs.lemmas.List.Sorted.{Contains-permutation, IsPermutation-sym}
use Rattle.std.proofs.lemmas.Map.Keys.{Less-from_sorted}
use Rattle.edges.specs.Edges.{EdgeData, Precedes}

abbrev pub edge_cmp : EdgeData → EdgeData → Ordering
edge_cmp a b = ordering_then (nat_cmp a.from b.from) (ordering_then (nat_cmp a.to b.to) (ordering_then (nat_cmp a.distance b.distance) (int_cmp a.delay b.delay)))

abbrev pub edge_eq : EdgeData → EdgeData → Bool
edge_eq a b = (a.from == b.from) && ((a.to == b.to) && ((a.distance == b.distance) && int_eq a.delay b.delay))

edge_cmp_total : IsTotalOrder edge_cmp
edge_cmp_total =
    then_total (on_total (λ (e : EdgeData). e.from) nat_cmp_total)
    (then_total (on_total (λ (e : EdgeData). e.to) nat_cmp_total)
    (then_total (on_total (λ (e : EdgeData). e.distance) nat_cmp_total) (on_total (λ (e : EdgeData). e.delay) int_cmp_total)))

tie_go : (a b : ℕ) (o r : Ordering) → nat_cmp a b ≡ r → MatchOrdering r (a < b) (a ≡ b) (b < a) → ((a == b) && is_eq o) ≡ is_eq (ordering_then r o)
tie_go a b o Less e m = ap (λ t. t && is_eq o) (ne_eqb a b (omega arith))
tie_go a b o Equal e m = ap (λ t. t && is_eq o) (eq-eqb a b m)
tie_go a b o Greater e m = ap (λ t. t && is_eq o) (ne_eqb a b (omega arith))

first_tie : (a b : ℕ) (o : Ordering) → ((a == b) && is_eq o) ≡ is_eq (ordering_then (nat_cmp a b) o)
first_tie a b o = tie_go a b o (nat_cmp a b) refl (ranked a b (nat_cmp a b) refl)

ties : (a b : EdgeData) → edge_eq a b ≡ eq_by_cmp edge_cmp a b
ties a b =
    ap (λ t. (a.from == b.from) && ((a.to == b.to) && t)) (first_tie a.distance b.distance (int_cmp a.delay b.delay))
    ∙ ap (λ t. (a.from == b.from) && t) (first_tie a.to b.to (ordering_then (nat_cmp a.distance b.distance) (int_cmp a.delay b.delay)))
    ∙ first_tie a.from b.from (ordering_then (nat_cmp a.to b.to) (ordering_then (nat_cmp a.distance b.distance) (int_cmp a.delay b.delay)))

same_edge : (a b : EdgeData) → edge_eq a b ≡ true → a ≡ b
same_edge a b h =
    let p = and_parts (a.from == b.from) ((a.to == b.to) && ((a.distance == b.distance) && int_eq a.delay b.delay)) h in
    let q = and_parts (a.to == b.to) ((a.distance == b.distance) && int_eq a.delay b.delay) p.1 in
    let r = and_parts (a.distance == b.distance) (int_eq a.delay b.delay) q.1 in
    let f : a.from ≡ b.from = eqb-true a.from b.from p.0 in
    let t : a.to ≡ b.to = eqb-true a.to b.to q.0 in
    let d : a.distance ≡ b.distance = eqb-true a.distance b.distance r.0 in
    let z : a.delay ≡ b.delay = (Decides-int_eq a.delay b.delay).0 r.1 in
    ap (λ k. let e : EdgeData = record { from = k; to = a.to; distance = a.distance; delay = a.delay } in e) f
    ∙ ap (λ k. let e : EdgeData = record { from = b.from; to = k; distance = a.distance; delay = a.delay } in e) t
    ∙ ap (λ k. let e : EdgeData = record { from = b.from; to = b.to; distance = k; delay = a.delay } in e) d
    ∙ ap (λ k. let e : EdgeData = record { from = b.from; to = b.to; distance = b.distance; delay = k } in e) z

edge_eq_equiv : IsEquivalence edge_eq
edge_eq_equiv =
    and_equiv (on_equiv (λ (e : EdgeData). e.from) nat_eq_equiv)
    (and_equiv (on_equiv (λ (e : EdgeData). e.to) nat_eq_equiv)
    (and_equiv (on_equiv (λ (e : EdgeData). e.distance) nat_eq_equiv) (on_equiv (λ (e : EdgeData). e.delay) int_eq_equiv)))

less_go : (a b : ℕ) (o r : Ordering) → MatchOrdering r (a < b) (a ≡ b) (b < a) → ordering_then r o ≡ Less → (a < b) ⊎ ((a ≡ b) × (o ≡ Less))
less_go a b o Less m h = inl m
less_go a b o Equal m h = inr (m, h)
less_go a b o Greater m h = cc

first_less : (a b : ℕ) (o : Ordering) → ordering_then (nat_cmp a b) o ≡ Less → (a < b) ⊎ ((a ≡ b) × (o ≡ Less))
first_less a b o h = less_go a b o (nat_cmp a b) (ranked a b (nat_cmp a b) refl) h

int_less_go : (a b : ℤ) (r : Ordering) → MatchOrdering r (a <ℤ b) (a ≡ b) (b <ℤ a) → r ≡ Less → a <ℤ b
int_less_go a b Less m h = m
int_less_go a b Equal m h = cc
int_less_go a b Greater m h = cc

precedes : (a b : EdgeData) → edge_cmp a b ≡ Less → Precedes a b
precedes a b h = elim (first_less a.from b.from (ordering_then (nat_cmp a.to b.to) (ordering_then (nat_cmp a.distance b.distance) (int_cmp a.delay b.delay))) h) [
  | inl f ↦ inl f
  | inr f ↦ elim (first_less a.to b.to (ordering_then (nat_cmp a.distance b.distance) (int_cmp a.delay b.delay)) f.1) [
    | inl t ↦ inr (f.0, inl t)
    | inr t ↦ elim (first_less a.distance b.distance (int_cmp a.delay b.delay) t.1) [
      | inl d ↦ inr (f.0, inr (t.0, inl d))
      | inr d ↦ inr (f.0, inr (t.0, inr (d.0, int_less_go a.delay b.delay (int_cmp a.delay b.delay) (int_ranked a.delay b.delay (int_cmp a.delay b.delay) refl) d.1)))
    ]
  ]
]

-- sorted edges without their repetitions ascend
pub ascending : (sorted left : List EdgeData) → IsSorted edge_cmp sorted → IsFiltered (DiffersFromLast edge_eq) [] sorted left → AllPairs Precedes left
ascending sorted left h f = λ i j d before within.
    let is : left ≡ dedup edge_eq sorted = dedup_is edge_eq sorted left f in
    let strict : IsStrictlySortedBy edge_cmp left = subst (IsStrictlySortedBy edge_cmp) (sym is) (IsStrictlySortedBy-dedup edge_cmp_total ties sorted h) in
    precedes (get_or left i d) (get_or left j d) (Less-from_sorted edge_cmp left i j d strict before within)

pub kept : (list sorted left : List EdgeData) → IsPermutation list sorted → IsFiltered (DiffersFromLast edge_eq) [] sorted left
    → (e : EdgeData) → Contains list e → Contains left e
kept list sorted left p f e c =
    subst (λ l. Contains l e) (sym (dedup_is edge_eq sorted left f)) (Contains-dedup edge_eq_equiv same_edge sorted e (Contains-permutation list sorted e p c))

pub no_more : (list sorted left : List EdgeData) → IsPermutation list sorted → IsFiltered (DiffersFromLast edge_eq) [] sorted left
    → (e : EdgeData) → Contains left e → Contains list e
no_more list sorted left p f e c =
    Contains-permutation sorted list e (IsPermutation-sym list sorted p)
    (Contains-from_dedup edge_eq sorted e (subst (λ l. Contains l e) (dedup_is edge_eq sorted left f) c))
