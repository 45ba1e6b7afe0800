-- Each read and each order of a draft is an edge of its problem, which issue times keep.
use Rattle.std.proofs.Common.{◌≡◌, ℕ, pos, ◌+◌, ◌*◌, ◌<◌, ◌≤◌, ◌+ℤ◌, ◌-ℤ◌, List, [], ◌∷◌, length, map, get_or, refl, sym, ap, ◌∙◌, arith}
use Rattle.std.specs.Prelude.{◌≤ℤ◌, Some, slice_get, slice_index}
use Rattle.std.specs.List.{All, Contains}
use Rattle.std.proofs.lemmas.Int.{ints}
use Rattle.std.proofs.lemmas.List.{get_or-map, get_or_default, length-map}
use Rattle.std.proofs.lemmas.List.Elements.{All-contains, Contains-append_left, Contains-append_right}
use Rattle.std.proofs.lemmas.Option.{slice_get_within, get_or_from_slice_get}
use Rattle.edges.specs.Edges.{EdgeData}
use Rattle.edges.specs.Schedules.{KeepsEdge}
use Rattle.registers.specs.declared.value.Read.{Read}
use Rattle.registers.specs.declared.value.Value.{Value as PlainValue}
use Rattle.registers.specs.Values.{AreReadInTime}
use Rattle.problems.specs.declared.draft.Value.{Value}
use Rattle.problems.specs.declared.draft.Order.{Order}
use Rattle.problems.specs.Drafts.{maker_of, lands_of, read_edge, order_edge, edges_of, plain_values}
use Rattle.problems.specs.Problems.{ProblemData, IsProblem}

-- an element of a list, among what the elements come to
mapped-there : {X Y : Type 0} (f : X → Y) (xs : List X) (k : ℕ) (x : X) → k < length xs → get_or xs k x ≡ x → Contains (map f xs) (f x)
mapped-there f xs k x lt is =
    let size : length (map f xs) ≡ length xs = length-map xs f in
    let there : k < length (map f xs) = omega arith in
    (k, there, get_or-map f xs k x (f x) lt ∙ ap f is)

edge-kept : (p : ProblemData) (ii : ℕ) (times : List ℕ) → IsProblem p → All (KeepsEdge ii times) p.scheduling.graph.edges
    → (e : EdgeData) → Contains (edges_of p.draft) e → KeepsEdge ii times e
edge-kept p ii times is keeps e there = All-contains (KeepsEdge ii times) p.scheduling.graph.edges e keeps (is.is_scheduling.is_graph.kept e there)

-- a field of the values, as the values without their register files have it
pub field-plain : (f : Value → ℕ) (g : PlainValue → ℕ) (h : Value → PlainValue) → ((v : Value) → g (h v) ≡ f v) → (vs : List Value) (n : ℕ) (v : PlainValue)
    → slice_get (map h vs) n ≡ Some v → slice_index (map f vs) n ≡ g v
field-plain f g h same vs n v is =
    let both : (xs : List Value) → map f xs ≡ map g (map h xs) = fields f g h same in
    ap (λ (l : List ℕ). slice_index l n) (both vs)
    ∙ get_or-map g (map h vs) n v 0 (slice_get_within (map h vs) n v is)
    ∙ ap g (get_or_from_slice_get (map h vs) n v v is)
  where
    fields : (f : Value → ℕ) (g : PlainValue → ℕ) (h : Value → PlainValue) → ((v : Value) → g (h v) ≡ f v) → (xs : List Value) → map f xs ≡ map g (map h xs)
    fields f g h same [] = refl
    fields f g h same (x ∷ xs) = ap (λ n. n ∷ map f xs) (sym (same x)) ∙ ap (λ (l : List ℕ). g (h x) ∷ l) (fields f g h same xs)

landed : (a lands offset b later : ℕ) → (pos a +ℤ (pos lands -ℤ pos offset)) ≤ℤ pos (b + later) → a + lands ≤ b + offset + later
landed a lands offset b later h = omega (arith, ints)

pub reads-in_time : (p : ProblemData) (ii : ℕ) (times : List ℕ) → IsProblem p → All (KeepsEdge ii times) p.scheduling.graph.edges
    → AreReadInTime ii times (plain_values p.draft) p.draft.reads.items
reads-in_time p ii times is keeps k r v is_read is_value =
    let reads : List Read = p.draft.reads.items in
    let made : maker_of p.draft r.value ≡ v.maker
    = field-plain (λ (v : Value). v.maker) (λ (v : PlainValue). v.maker) (λ (v : Value). record { maker = v.maker; lands = v.lands; out = v.out }) (λ v. refl) p.draft.values.items r.value v is_value in
    let lands : lands_of p.draft r.value ≡ v.lands
    = field-plain (λ (v : Value). v.lands) (λ (v : PlainValue). v.lands) (λ (v : Value). record { maker = v.maker; lands = v.lands; out = v.out }) (λ v. refl) p.draft.values.items r.value v is_value in
    let there : Contains (edges_of p.draft) (read_edge p.draft r)
    = Contains-append_left (map (read_edge p.draft) reads) (map order_edge p.draft.orders.items) (read_edge p.draft r)
    (mapped-there (read_edge p.draft) reads k r (slice_get_within reads k r is_read) (get_or_from_slice_get reads k r r is_read)) in
    let in_time : slice_index times (maker_of p.draft r.value) + lands_of p.draft r.value ≤ slice_index times r.reader + r.offset + ii * r.distance
    = landed (slice_index times (maker_of p.draft r.value)) (lands_of p.draft r.value) r.offset (slice_index times r.reader) (ii * r.distance)
    (edge-kept p ii times is keeps (read_edge p.draft r) there) in
    let at_maker : slice_index times (maker_of p.draft r.value) ≡ slice_index times v.maker = ap (slice_index times) made in
    omega arith

pub orders-kept : (p : ProblemData) (ii : ℕ) (times : List ℕ) → IsProblem p → All (KeepsEdge ii times) p.scheduling.graph.edges
    → All (λ (o : Order). (pos (slice_index times o.from) +ℤ o.delay) ≤ℤ pos (slice_index times o.to + ii * o.distance)) p.draft.orders.items
orders-kept p ii times is keeps k d lt =
    let orders : List Order = p.draft.orders.items in
    let order : Order = get_or orders k d in
    edge-kept p ii times is keeps (order_edge order)
    (Contains-append_right (map (read_edge p.draft) p.draft.reads.items) (map order_edge orders) (order_edge order)
    (mapped-there order_edge orders k order lt (get_or_default orders k order d lt)))
