-- The edges and the latencies of a well-formed draft make a graph.
use Rattle.std.proofs.Common.{◌≡◌, ℕ, pos, ◌<◌, ◌≤◌, ◌-ℤ◌, length, map, get_or, arith}
use Rattle.std.specs.Prelude.{◌≤ℤ◌, slice_index}
use Rattle.std.specs.List.{All}
use Rattle.std.proofs.lemmas.Int.{ints}
use Rattle.std.proofs.lemmas.List.{length-map}
use Rattle.std.proofs.lemmas.List.Elements.{All-map, All-append}
use Rattle.edges.specs.Edges.{EdgeData}
use Rattle.edges.specs.Graphs.{AreEdges}
use Rattle.problems.specs.declared.draft.Kind.{Kind}
use Rattle.problems.specs.declared.draft.Value.{Value}
use Rattle.problems.specs.declared.draft.Order.{Order}
use Rattle.problems.specs.declared.draft.Draft.{Draft}
use Rattle.registers.specs.declared.value.Read.{Read}
use Rattle.problems.specs.Drafts.{IsWellFormed, maker_of, lands_of, latencies_of, read_edge, order_edge, edges_of}

abbrev IsLatency : ℕ → Type 0
IsLatency l = (0 < l) × (l ≤ 64)

-- the latency of a kind that is there
pub latency-there : (draft : Draft) → IsWellFormed draft → (kind : ℕ) → kind < length draft.kinds.items → IsLatency (slice_index (map (λ (k : Kind). k.latency) draft.kinds.items) kind)
latency-there draft sound kind lt =
    let latency : Kind → ℕ = λ k. k.latency in
    let size : length (map latency draft.kinds.items) ≡ length draft.kinds.items = length-map draft.kinds.items latency in
    All-map IsLatency latency draft.kinds.items (λ k d there. let kind = sound.kinds k d there in let some = kind.latency_some in (omega arith, kind.latency_few)) kind 0 (omega arith)

-- the maker of a value that is there
pub maker-there : (draft : Draft) → IsWellFormed draft → (n : ℕ) → n < length draft.values.items → maker_of draft n < length draft.operations.items
maker-there draft sound n lt =
    let maker : Value → ℕ = λ v. v.maker in
    let size : length (map maker draft.values.items) ≡ length draft.values.items = length-map draft.values.items maker in
    All-map (λ m. m < length draft.operations.items) maker draft.values.items (λ k d there. (sound.values k d there).maker) n 0 (omega arith)

pub lands-there : (draft : Draft) → IsWellFormed draft → (n : ℕ) → n < length draft.values.items → lands_of draft n ≤ 64
lands-there draft sound n lt =
    let lands : Value → ℕ = λ v. v.lands in
    let size : length (map lands draft.values.items) ≡ length draft.values.items = length-map draft.values.items lands in
    All-map (λ m. m ≤ 64) lands draft.values.items (λ k d there. (sound.values k d there).lands) n 0 (omega arith)

-- what holds of the edge of each read and of each order
each-edge : (P : EdgeData → Type 0) (draft : Draft) → All (λ (r : Read). P (read_edge draft r)) draft.reads.items → All (λ (o : Order). P (order_edge o)) draft.orders.items → All P (edges_of draft)
each-edge P draft reads orders =
    All-append P (map (read_edge draft) draft.reads.items) (map order_edge draft.orders.items)
    (All-map P (read_edge draft) draft.reads.items reads) (All-map P order_edge draft.orders.items orders)

short : (lands offset : ℕ) → lands ≤ 64 → (pos lands -ℤ pos offset) ≤ℤ pos 64
short lands offset h = omega (arith, ints)

pub are-edges : (draft : Draft) → IsWellFormed draft → AreEdges (edges_of draft) (latencies_of draft)
are-edges draft sound =
    let count : ℕ = length draft.operations.items in
    let latency : ℕ → ℕ = λ kind. slice_index (map (λ (k : Kind). k.latency) draft.kinds.items) kind in
    let size : length (latencies_of draft) ≡ count = length-map draft.operations.items latency in
    let some = sound.counts.operations_some in
    let few = sound.counts.operations_few in
    record {
      some = omega arith;
      few = omega arith;
      cycles = All-map IsLatency latency draft.operations.items (λ k d lt. latency-there draft sound (get_or draft.operations.items k d) (sound.operations k d lt));
      ends = each-edge (λ (e : EdgeData). (e.from < length (latencies_of draft)) × (e.to < length (latencies_of draft))) draft
          (λ k d lt.
          let r : Read = get_or draft.reads.items k d in
          let reading = sound.reads k d lt in
          let from : maker_of draft r.value < count = maker-there draft sound r.value reading.value in
          let to : r.reader < count = reading.reader in
          (omega arith, omega arith))
          (λ k d lt.
          let o : Order = get_or draft.orders.items k d in
          let order = sound.orders k d lt in
          let from : o.from < count = order.from in
          let to : o.to < count = order.to in
          (omega arith, omega arith));
      forward = each-edge (λ (e : EdgeData). e.distance ≡ 0 → e.from < e.to) draft (λ k d lt. (sound.reads k d lt).forward) (λ k d lt. (sound.orders k d lt).forward);
      delays = each-edge (λ (e : EdgeData). e.delay ≤ℤ pos 64) draft
          (λ k d lt.
          let r : Read = get_or draft.reads.items k d in
          short (lands_of draft r.value) r.offset (lands-there draft sound r.value (sound.reads k d lt).value))
          (λ k d lt. (sound.orders k d lt).delay_high);
    }
