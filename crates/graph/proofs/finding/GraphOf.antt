-- The dependences that were found make a graph of the loop.
use Rattle.std.proofs.Common.{◌≡◌, ◌⊎◌, ℕ, ◌<◌, ◌≤◌, ℤ, pos, ◌+ℤ◌, ◌-ℤ◌, List, length, get_or, sym, subst, inl, inr, arith, Some}
use Rattle.std.specs.Prelude.{◌≤ℤ◌}
use Rattle.std.proofs.lemmas.Int.{ints}
use Rattle.std.proofs.lemmas.List.Elements.{All-contains}
use Rattle.std.proofs.lemmas.Option.{slice_get_within, slice_get-get_or}
use Rattle.std.specs.List.{slice_index, slice_get, All, AllPairs, Contains}
use Rattle.machine_data.specs.Machines.{MachineData}
use Rattle.loop_data.specs.declared.language.statement.Statement.{Statement}
use Rattle.loop_data.specs.declared.language.statement.Operand.{Operand}
use Rattle.loop_data.specs.declared.language.statement.Operand.TheVariants.{Constant, Parameter, Value}
use Rattle.loop_data.specs.Loops.{LoopData, IsLoop, MayRead}
use Rattle.edges.specs.Edges.{EdgeData, Precedes}
use Rattle.graph.specs.Dependences.{Dependence, latencies_of}
use Rattle.edges.specs.Graphs.{IsGraph}
use Rattle.graph.specs.Graphs.{IsGraphOf}
use Rattle.graph.specs.Subscripts.{AreLatencies, IsFound, ReadsBelow}
use Rattle.edges.proofs.GivenEdges.{all_from_contains}
use Rattle.graph.proofs.finding.Instances.{found-from_dependence, dependence-from_found}

reads_one : (loop : LoopData) (reader n : ℕ) (o : Operand) → n ≡ length loop.statements → MayRead loop reader o → ReadsBelow n o
reads_one loop reader n (Constant value) is h = tt
reads_one loop reader n (Parameter number) is h = tt
reads_one loop reader n (Value statement distance) is h =
    let below : statement < length loop.statements = slice_get_within loop.statements statement h.0.0 h.0.1 in omega arith

pub reads-below : (loop : LoopData) (n : ℕ) → IsLoop loop → n ≡ length loop.statements → All (λ (s : Statement). All (ReadsBelow n) s.operands) loop.statements
reads-below loop n l is = λ k s within j o h.
    let at : slice_get loop.statements k ≡ Some (get_or loop.statements k s) = slice_get-get_or loop.statements k s within in
    reads_one loop k n (get_or (get_or loop.statements k s).operands j o) is ((l.each k (get_or loop.statements k s) at).operands j o h)

-- what is known of an edge
pub record IsGood (latencies : List ℕ) (e : EdgeData) : Type 0 where
  pub from : e.from < length latencies
  pub to : e.to < length latencies
  pub forward : e.distance ≡ 0 → e.from < e.to
  pub delay : e.delay ≤ℤ pos 64

delay-le : (a b : ℕ) (latency later : ℕ) (delay : ℤ) → latency ≤ 64 → 0 < later
    → (delay ≡ pos latency) ⊎ ((delay ≡ (pos 1 -ℤ pos later)) ⊎ (delay ≡ ((pos 1 +ℤ pos latency) -ℤ pos later))) → delay ≤ℤ pos 64
delay-le a b latency later delay short some (inl h) = omega (arith, ints)
delay-le a b latency later delay short some (inr (inl h)) = omega (arith, ints)
delay-le a b latency later delay short some (inr (inr h)) = omega (arith, ints)

good-from_found : (loop : LoopData) (latencies : List ℕ) → IsLoop loop → AreLatencies latencies → length latencies ≡ length loop.statements
    → (e : EdgeData) → IsFound loop.statements latencies e → IsGood latencies e
good-from_found loop latencies l lat is e (inl u) =
    let to : e.to < length loop.statements = slice_get_within loop.statements e.to u.reader u.is_reader in
    let may : MayRead loop e.to (Value e.from e.distance)
    = All-contains (MayRead loop e.to) u.reader.operands (Value e.from e.distance) (l.each e.to u.reader u.is_reader).operands u.reads in
    let from : e.from < length loop.statements = slice_get_within loop.statements e.from may.0.0 may.0.1 in
    let below : e.from < length latencies = omega arith in
    let short : slice_index latencies e.from ≤ 64 = (lat e.from 0 below).1 in
    let d : e.delay ≡ pos (slice_index latencies e.from) = u.delay in
    record { from = below; to = omega arith; forward = may.2; delay = omega (arith, ints) }
good-from_found loop latencies l lat is e (inr m) =
    let from : e.from < length loop.statements = slice_get_within loop.statements e.from m.first m.is_first in
    let to : e.to < length loop.statements = slice_get_within loop.statements e.to m.second m.is_second in
    let below : e.from < length latencies = omega arith in
    let there : e.to < length latencies = omega arith in
    let short : slice_index latencies e.from ≤ 64 = (lat e.from 0 below).1 in
    let some : 0 < slice_index latencies e.to = (lat e.to 0 there).0 in
    record {
      from = below;
      to = there;
      forward = m.edge.order;
      delay = delay-le 0 0 (slice_index latencies e.from) (slice_index latencies e.to) e.delay short some
          (elim m.edge.delay [ inl h ↦ inl h.2 | inr h ↦ inr (elim h [ inl k ↦ inl k.2 | inr k ↦ inr k.2 ]) ]);
    }

-- each edge that is found is one from an operation of the loop
pub sources-below : (loop : LoopData) (latencies : List ℕ) (list : List EdgeData) → IsLoop loop → AreLatencies latencies → length latencies ≡ length loop.statements
    → All (IsFound loop.statements latencies) list → All (λ (e : EdgeData). e.from < length latencies) list
sources-below loop latencies list l lat is found = λ k d h. (good-from_found loop latencies l lat is (get_or list k d) (found k d h)).from

pub graph-well_formed : (loop : LoopData) (latencies : List ℕ) (list left : List EdgeData) → IsLoop loop → AreLatencies latencies → length latencies ≡ length loop.statements
    → All (IsFound loop.statements latencies) list → AllPairs Precedes left → ((e : EdgeData) → Contains left e → Contains list e)
    → IsGraph (record { edges = left; latencies = latencies })
graph-well_formed loop latencies list left l lat is found up less =
    let good : All (IsGood latencies) left
    = all_from_contains (IsGood latencies) list left (λ k d h. good-from_found loop latencies l lat is (get_or list k d) (found k d h)) less in
    let one : 1 ≤ length loop.statements = l.statements_some in
    let few : length loop.statements ≤ 128 = l.statements_few in
    record {
      some = omega arith;
      few = omega arith;
      latencies = lat;
      ends = λ k d h. ((good k d h).from, (good k d h).to);
      forward = λ k d h. (good k d h).forward;
      delays = λ k d h. (good k d h).delay;
      ascending = up;
    }

pub graph-of_loop : (machine : MachineData) (loop : LoopData) (latencies : List ℕ) (list left : List EdgeData) → latencies ≡ latencies_of machine loop
    → All (IsFound loop.statements latencies) list → ((e : EdgeData) → IsFound loop.statements latencies e → Contains list e)
    → AllPairs Precedes left → ((e : EdgeData) → Contains list e → Contains left e) → ((e : EdgeData) → Contains left e → Contains list e)
    → IsGraphOf machine loop (record { edges = left; latencies = latencies })
graph-of_loop machine loop latencies list left is found every up more less =
    let same : (e : EdgeData) → Dependence loop latencies e → Dependence loop (latencies_of machine loop) e = λ e. subst (λ l. Dependence loop l e) is in
    let back : (e : EdgeData) → Dependence loop (latencies_of machine loop) e → Dependence loop latencies e = λ e. subst (λ l. Dependence loop l e) (sym is) in
    record {
      latencies = is;
      sound = all_from_contains (Dependence loop (latencies_of machine loop)) list left
          (λ k d h. same (get_or list k d) (dependence-from_found loop latencies (get_or list k d) (found k d h))) less;
      complete = λ e h. more e (every e (found-from_dependence loop latencies e (back e h)));
      ascending = up;
    }
