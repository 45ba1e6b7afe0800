-- What is told by subscripts is what is told by instances.
use Rattle.std.proofs.Common.{◌≡◌, ℕ, ◌+◌, ◌<◌, pos, ◌+ℤ◌, List, refl, sym, ap, ◌∙◌, subst, inl, inr, arith, Some}
use Rattle.std.proofs.lemmas.Int.{ints}
use Rattle.std.proofs.lemmas.Bool.{cases_eq}
use Rattle.std.specs.List.{slice_index}
use Rattle.machine_data.specs.declared.opcode.Opcode.{Opcode}
use Rattle.machine_data.specs.declared.opcode.Opcode.TheVariants.{Load, Store}
use Rattle.loop_data.specs.Loops.{LoopData}
use Rattle.loop_data.specs.declared.language.statement.Statement.{Statement}
use Rattle.loop_data.specs.declared.language.statement.Place.{Place}
use Rattle.edges.specs.Edges.{EdgeData}
use Rattle.graph.specs.Dependences.{Touches, HasOpcode, ComesFirst, MeetInMemory, Dependence, value_flow, memory_flow, anti, output}
use Rattle.graph.specs.Subscripts.{IsDelay, IsMeeting, IsFound}

pub comes_first : (p i q d : ℕ) → (d ≡ 0 → p < q) → ComesFirst p i q (i + d)
comes_first p i q d order = elim (cases_eq d 0) [
  | inl zero ↦ inr (omega arith, order zero)
  | inr more ↦ inl (omega arith)
]

meet-from_subscripts : (loop : LoopData) (latencies : List ℕ) (e : EdgeData) → IsMeeting loop.statements latencies e → MeetInMemory loop e.from e.to e.distance
meet-from_subscripts loop latencies e m = λ i.
    let place : Place = m.edge.place in
    let later : Place = m.edge.later in
    let far : place.offset ≡ (later.offset +ℤ pos e.distance) = m.edge.distance in
    let same : (pos (i + e.distance) +ℤ later.offset) ≡ (pos i +ℤ place.offset) = omega (arith, ints) in (
      (
        place.array,
        (pos i +ℤ place.offset),
        record { statement = m.first; is_statement = m.is_first; place = place; is_place = m.edge.is_place; same_array = refl; same_cell = refl },
        record { statement = m.second; is_statement = m.is_second; place = later; is_place = m.edge.is_later; same_array = sym m.edge.same_array; same_cell = same },
      ),
      comes_first e.from i e.to e.distance m.edge.order,
    )

pub dependence-from_found : (loop : LoopData) (latencies : List ℕ) (e : EdgeData) → IsFound loop.statements latencies e → Dependence loop latencies e
dependence-from_found loop latencies e (inl u) = value_flow (u.reader, u.is_reader, u.reads) u.delay
dependence-from_found loop latencies e (inr m) =
    let meet : MeetInMemory loop e.from e.to e.distance = meet-from_subscripts loop latencies e m in
    elim m.edge.delay [
      | inl h ↦ memory_flow meet (m.first, m.is_first, h.0) (m.second, m.is_second, h.1) h.2
      | inr h ↦ elim h [
        | inl k ↦ anti meet (m.first, m.is_first, k.0) (m.second, m.is_second, k.1) k.2
        | inr k ↦ output meet (m.first, m.is_first, k.0) (m.second, m.is_second, k.1) k.2
      ]
    ]

order-from_comes_first : (p q d : ℕ) → ComesFirst p 0 q (0 + d) → d ≡ 0 → p < q
order-from_comes_first p q d (inl before) zero = absurd (omega arith)
order-from_comes_first p q d (inr same) zero = same.1

found-from_meet : (loop : LoopData) (latencies : List ℕ) (e : EdgeData) (a b : Opcode) → MeetInMemory loop e.from e.to e.distance
    → HasOpcode loop e.from a → HasOpcode loop e.to b → IsDelay a b (slice_index latencies e.from) (slice_index latencies e.to) e.delay
    → IsMeeting loop.statements latencies e
found-from_meet loop latencies e a b meet ha hb delay =
    let at = meet 0 in
    let x : Touches loop e.from 0 at.0.0 at.0.1 = at.0.2 in
    let y : Touches loop e.to (0 + e.distance) at.0.0 at.0.1 = at.0.3 in
    let xs : Some ha.0 ≡ Some x.statement = sym ha.1 ∙ x.is_statement in
    let ys : Some hb.0 ≡ Some y.statement = sym hb.1 ∙ y.is_statement in
    let xe : ha.0 ≡ x.statement = cc in
    let ye : hb.0 ≡ y.statement = cc in
    let xo : a ≡ x.statement.opcode = sym ha.2 ∙ ap (λ (s : Statement). s.opcode) xe in
    let yo : b ≡ y.statement.opcode = sym hb.2 ∙ ap (λ (s : Statement). s.opcode) ye in
    let xc : (pos 0 +ℤ x.place.offset) ≡ at.0.1 = x.same_cell in
    let yc : (pos (0 + e.distance) +ℤ y.place.offset) ≡ at.0.1 = y.same_cell in
    let far : x.place.offset ≡ (y.place.offset +ℤ pos e.distance) = omega (arith, ints) in
    let d : IsDelay x.statement.opcode y.statement.opcode (slice_index latencies e.from) (slice_index latencies e.to) e.delay
    = subst (λ o. IsDelay o y.statement.opcode (slice_index latencies e.from) (slice_index latencies e.to) e.delay) xo
    (subst (λ o. IsDelay a o (slice_index latencies e.from) (slice_index latencies e.to) e.delay) yo delay) in
    record {
      first = x.statement;
      is_first = x.is_statement;
      second = y.statement;
      is_second = y.is_statement;
      edge = record {
        from = refl;
        to = refl;
        place = x.place;
        is_place = x.is_place;
        later = y.place;
        is_later = y.is_place;
        same_array = x.same_array ∙ sym y.same_array;
        distance = far;
        order = order-from_comes_first e.from e.to e.distance at.1;
        delay = d;
      };
    }

pub found-from_dependence : (loop : LoopData) (latencies : List ℕ) (e : EdgeData) → Dependence loop latencies e → IsFound loop.statements latencies e
found-from_dependence loop latencies e (value_flow uses delay) = inl (record { reader = uses.0; is_reader = uses.1; reads = uses.2; delay = delay })
found-from_dependence loop latencies e (memory_flow meet a b delay) = inr (found-from_meet loop latencies e Store Load meet a b (inl (refl, refl, delay)))
found-from_dependence loop latencies e (anti meet a b delay) = inr (found-from_meet loop latencies e Load Store meet a b (inr (inl (refl, refl, delay))))
found-from_dependence loop latencies e (output meet a b delay) = inr (found-from_meet loop latencies e Store Store meet a b (inr (inr (refl, refl, delay))))
