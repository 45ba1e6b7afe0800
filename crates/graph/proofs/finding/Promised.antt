-- What dependences promise for the instances of iterations.
use Rattle.std.proofs.Common.{◌≡◌, ℕ, ◌+◌, ◌-◌, ◌*◌, ◌<◌, ◌≤◌, pos, ◌+ℤ◌, ◌-ℤ◌, List, [], ◌∷◌, refl, ap, ◌∙◌, inl, inr, arith}
use Rattle.std.specs.Prelude.{◌≤ℤ◌}
use Rattle.std.proofs.lemmas.Int.{ints}
use Rattle.std.proofs.lemmas.List.Elements.{All-contains}
use Rattle.std.proofs.Math.Nat.{mul-add}
use Rattle.std.specs.List.{slice_index, Contains}
use Rattle.loop_data.specs.Loops.{LoopData, IsLoop, MayRead}
use Rattle.loop_data.specs.declared.language.statement.Operand.TheVariants.{Value}
use Rattle.edges.specs.Edges.{EdgeData}
use Rattle.graph.specs.Dependences.{ComesFirst, MeetInMemory, Dependence, value_flow, memory_flow, anti, output}
use Rattle.graph.specs.Promises.{InOrder, ValuesInTime, StoresInTime, LoadsInTime, StoresInOrder, CircuitsTakeIterations}
use Rattle.walks.specs.Walks.{IsWalk, distance_of}
use Rattle.graph.specs.Subscripts.{IsFound}
use Rattle.graph.proofs.finding.Instances.{comes_first, found-from_dependence}

not_before : (p i q j : ℕ) → ComesFirst p i q j → (i ≤ j) × (j - i ≡ 0 → p < q)
not_before p i q j (inl less) = (omega arith, λ e. absurd (omega arith))
not_before p i q j (inr same) = let e : i ≡ j = same.0 in (omega arith, λ _. same.1)

meet-from_order : (loop : LoopData) (p i q j : ℕ) → InOrder loop p i q j → MeetInMemory loop p q (j - i)
meet-from_order loop p i q j o = λ k.
    let n = not_before p i q j o.order in
    let le : i ≤ j = n.0 in
    let a : (pos i +ℤ o.first.place.offset) ≡ o.cell = o.first.same_cell in
    let b : (pos j +ℤ o.second.place.offset) ≡ o.cell = o.second.same_cell in
    let same : (pos (k + (j - i)) +ℤ o.second.place.offset) ≡ (pos k +ℤ o.first.place.offset) = omega (arith, ints) in (
      (
        o.array,
        (pos k +ℤ o.first.place.offset),
        record { statement = o.first.statement; is_statement = o.first.is_statement; place = o.first.place; is_place = o.first.is_place; same_array = o.first.same_array; same_cell = refl },
        record { statement = o.second.statement; is_statement = o.second.is_statement; place = o.second.place; is_place = o.second.is_place; same_array = o.second.same_array; same_cell = same },
      ),
      comes_first p k q (j - i) n.1,
    )

later : (ii i j : ℕ) → i ≤ j → ii * j ≡ ii * i + ii * (j - i)
later ii i j le = ap (λ n. ii * n) (let e : j ≡ i + (j - i) = omega arith in e) ∙ mul-add ii i (j - i)

pub values-in_time : ValuesInTime
values-in_time loop latencies ii times keeps p q distance iteration uses =
    let e : EdgeData = record { from = p; to = q; distance = distance; delay = pos (slice_index latencies p) } in
    let k : (pos (slice_index times p) +ℤ pos (slice_index latencies p)) ≤ℤ pos (slice_index times q + ii * distance) = keeps e (value_flow uses refl) in
    let s : ii * (iteration + distance) ≡ ii * iteration + ii * distance = mul-add ii iteration distance in
    omega (arith, ints)

pub stores-in_time : StoresInTime
stores-in_time loop latencies ii times keeps p i q j o store load =
    let e : EdgeData = record { from = p; to = q; distance = j - i; delay = pos (slice_index latencies p) } in
    let k : (pos (slice_index times p) +ℤ pos (slice_index latencies p)) ≤ℤ pos (slice_index times q + ii * (j - i))
    = keeps e (memory_flow (meet-from_order loop p i q j o) store load refl) in
    let s : ii * j ≡ ii * i + ii * (j - i) = later ii i j (not_before p i q j o.order).0 in
    omega (arith, ints)

pub loads-in_time : LoadsInTime
loads-in_time loop latencies ii times keeps p i q j o load store =
    let e : EdgeData = record { from = p; to = q; distance = j - i; delay = pos 1 -ℤ pos (slice_index latencies q) } in
    let k : (pos (slice_index times p) +ℤ (pos 1 -ℤ pos (slice_index latencies q))) ≤ℤ pos (slice_index times q + ii * (j - i))
    = keeps e (anti (meet-from_order loop p i q j o) load store refl) in
    let s : ii * j ≡ ii * i + ii * (j - i) = later ii i j (not_before p i q j o.order).0 in
    omega (arith, ints)

pub stores-in_order : StoresInOrder
stores-in_order loop latencies ii times keeps p i q j o first second =
    let e : EdgeData = record { from = p; to = q; distance = j - i; delay = (pos 1 +ℤ pos (slice_index latencies p)) -ℤ pos (slice_index latencies q) } in
    let k : (pos (slice_index times p) +ℤ ((pos 1 +ℤ pos (slice_index latencies p)) -ℤ pos (slice_index latencies q))) ≤ℤ pos (slice_index times q + ii * (j - i))
    = keeps e (output (meet-from_order loop p i q j o) first second refl) in
    let s : ii * j ≡ ii * i + ii * (j - i) = later ii i j (not_before p i q j o.order).0 in
    omega (arith, ints)

forward_found : (loop : LoopData) (latencies : List ℕ) → IsLoop loop → (e : EdgeData) → IsFound loop.statements latencies e → e.distance ≡ 0 → e.from < e.to
forward_found loop latencies l e (inl u) =
    let may : MayRead loop e.to (Value e.from e.distance)
    = All-contains (MayRead loop e.to) u.reader.operands (Value e.from e.distance) (l.each e.to u.reader u.is_reader).operands u.reads in
    may.2
forward_found loop latencies l e (inr m) = m.edge.order

goes_forward : (edges : List EdgeData) → ((e : EdgeData) → Contains edges e → e.distance ≡ 0 → e.from < e.to)
    → (p q : ℕ) (e : EdgeData) (walk : List EdgeData) → IsWalk edges p (e ∷ walk) q → distance_of (e ∷ walk) ≡ 0 → p < q
goes_forward edges forward p q e [] w zero =
    let d : e.distance ≡ 0 = omega arith in
    let f : e.from < e.to = forward e w.0 d in
    let a : e.from ≡ p = w.1 in
    let b : e.to ≡ q = w.2 in
    omega arith
goes_forward edges forward p q e (next ∷ walk) w zero =
    let d : e.distance ≡ 0 = omega arith in
    let rest : distance_of (next ∷ walk) ≡ 0 = omega arith in
    let f : e.from < e.to = forward e w.0 d in
    let a : e.from ≡ p = w.1 in
    let b : e.to < q = goes_forward edges forward e.to q next walk w.2 rest in
    omega arith

pub circuits-take_iterations : CircuitsTakeIterations
circuits-take_iterations loop latencies edges l all p [] w zero = refl
circuits-take_iterations loop latencies edges l all p (e ∷ walk) w zero =
    let forward : (e : EdgeData) → Contains edges e → e.distance ≡ 0 → e.from < e.to
    = λ e c. forward_found loop latencies l e (found-from_dependence loop latencies e (All-contains (Dependence loop latencies) edges e all c)) in
    let h : p < p = goes_forward edges forward p p e walk w zero in
    absurd (omega arith)
