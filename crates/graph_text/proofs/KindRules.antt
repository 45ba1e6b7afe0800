-- Dependences have one kind.
use Rattle.std.proofs.Common.{◌≡◌, ℕ, ◌<◌, pos, ◌-ℤ◌, ◌<ℤ◌, true, false, List, length, get_or, refl, sym, ap, ◌∙◌, subst, arith, Some}
use Rattle.std.specs.Prelude.{◌≤ℤ◌, IsSome, IsNone}
use Rattle.std.specs.List.{slice_get, slice_index}
use Rattle.std.proofs.lemmas.Int.{ints}
use Rattle.std.proofs.lemmas.List.Elements.{All-contains}
use Rattle.std.proofs.lemmas.Option.{slice_get-get_or, slice_get_within}
use Rattle.machine_data.specs.declared.opcode.Opcode.{Opcode}
use Rattle.machine_data.specs.declared.opcode.Opcode.TheVariants.{Load, Store}
use Rattle.loop_data.specs.declared.language.statement.Operand.TheVariants as operand
use Rattle.loop_data.specs.declared.language.statement.Statement.{Statement}
use Rattle.loop_data.specs.Loops.{LoopData, IsLoop, GivesValue, HasShape, MayRead}
use Rattle.edges.specs.Edges.{EdgeData}
use Rattle.graph.specs.Dependences.{Dependence, HasOpcode, Uses, value_flow, memory_flow, anti, output}
use Rattle.graph_text.specs.declared.kind.Kind.{Kind}
use Rattle.graph_text.specs.declared.kind.Kind.TheVariants.{Value, Memory, Anti, Output}
use Rattle.graph_text.specs.Kinds.{IsOfKind, IsTimed, KindsExclude}

one_opcode : (loop : LoopData) (op : ℕ) (a b : Opcode) → HasOpcode loop op a → HasOpcode loop op b → a ≡ b
one_opcode loop op a b x y =
    let e : Some x.0 ≡ Some y.0 = sym x.1 ∙ y.1 in
    let same : x.0 ≡ y.0 = cc in
    sym x.2 ∙ ap (λ (s : Statement). s.opcode) same ∙ y.2

-- a store gives no value
no_value : (loop : LoopData) (op : ℕ) → IsLoop loop → GivesValue loop op → HasOpcode loop op Store → ⊥
no_value loop op is gives store =
    let e : Some gives.0 ≡ Some store.0 = sym gives.1 ∙ store.1 in
    let same : gives.0 ≡ store.0 = cc in
    let shape : HasShape store.0.opcode store.0 = (is.each op store.0 store.1).shape in
    let stored : HasShape Store store.0 = subst (λ o. HasShape o store.0) store.2 shape in
    let some : IsSome store.0.name = subst (λ (s : Statement). IsSome s.name) same gives.2 in
    let none : IsNone store.0.name = stored.0 in
    let both : true ≡ false = sym some ∙ none in
    cc

used : (loop : LoopData) (q p distance : ℕ) → IsLoop loop → Uses loop q p distance → GivesValue loop p
used loop q p distance is uses = (All-contains (MayRead loop q) uses.0.operands (operand.Value p distance) (is.each q uses.0 uses.1).operands uses.2).0

takes_cycles : (loop : LoopData) (latencies : List ℕ) (e : EdgeData) (op : ℕ) (s : Statement) → IsTimed loop latencies e → slice_get loop.statements op ≡ Some s
    → 0 < slice_index latencies op
takes_cycles loop latencies e op s timed at =
    let within : op < length loop.statements = slice_get_within loop.statements op s at in
    let all : length latencies ≡ length loop.statements = timed.all in
    let there : op < length latencies = omega arith in
    (timed.short op 0 there).0

-- a value takes a cycle at least
value-late : (loop : LoopData) (latencies : List ℕ) (e : EdgeData) → IsLoop loop → IsTimed loop latencies e → IsOfKind loop latencies e Value → pos 0 <ℤ e.delay
value-late loop latencies e is timed h =
    let gives = used loop e.to e.from e.distance is h.0 in
    let some : 0 < slice_index latencies e.from = takes_cycles loop latencies e e.from gives.0 timed gives.1 in
    let d : e.delay ≡ pos (slice_index latencies e.from) = h.1 in
    omega (arith, ints)

-- a write may come in the cycle of the read before it
anti-early : (loop : LoopData) (latencies : List ℕ) (e : EdgeData) → IsTimed loop latencies e → IsOfKind loop latencies e Anti → e.delay ≤ℤ pos 0
anti-early loop latencies e timed h =
    let some : 0 < slice_index latencies e.to = takes_cycles loop latencies e e.to h.2.0 timed h.2.1 in
    let d : e.delay ≡ (pos 1 -ℤ pos (slice_index latencies e.to)) = h.3 in
    omega (arith, ints)

value_stores : (loop : LoopData) (latencies : List ℕ) (e : EdgeData) → IsLoop loop → IsOfKind loop latencies e Value → HasOpcode loop e.from Store → ⊥
value_stores loop latencies e is h store = no_value loop e.from is (used loop e.to e.from e.distance is h.0) store

value_anti : (loop : LoopData) (latencies : List ℕ) (e : EdgeData) → IsLoop loop → IsTimed loop latencies e → IsOfKind loop latencies e Value → IsOfKind loop latencies e Anti → ⊥
value_anti loop latencies e is timed v a =
    let late = value-late loop latencies e is timed v in
    let early = anti-early loop latencies e timed a in
    omega (arith, ints)

stores_loads : (loop : LoopData) (op : ℕ) → HasOpcode loop op Store → HasOpcode loop op Load → ⊥
stores_loads loop op store load = let e : Store ≡ Load = one_opcode loop op Store Load store load in cc

pub kinds-exclude : KindsExclude
kinds-exclude loop latencies e Value Value is timed x y = refl
kinds-exclude loop latencies e Value Memory is timed x y = absurd (value_stores loop latencies e is x y.1)
kinds-exclude loop latencies e Value Anti is timed x y = absurd (value_anti loop latencies e is timed x y)
kinds-exclude loop latencies e Value Output is timed x y = absurd (value_stores loop latencies e is x y.1)
kinds-exclude loop latencies e Memory Value is timed x y = absurd (value_stores loop latencies e is y x.1)
kinds-exclude loop latencies e Memory Memory is timed x y = refl
kinds-exclude loop latencies e Memory Anti is timed x y = absurd (stores_loads loop e.from x.1 y.1)
kinds-exclude loop latencies e Memory Output is timed x y = absurd (stores_loads loop e.to y.2 x.2)
kinds-exclude loop latencies e Anti Value is timed x y = absurd (value_anti loop latencies e is timed y x)
kinds-exclude loop latencies e Anti Memory is timed x y = absurd (stores_loads loop e.from y.1 x.1)
kinds-exclude loop latencies e Anti Anti is timed x y = refl
kinds-exclude loop latencies e Anti Output is timed x y = absurd (stores_loads loop e.from y.1 x.1)
kinds-exclude loop latencies e Output Value is timed x y = absurd (value_stores loop latencies e is y x.1)
kinds-exclude loop latencies e Output Memory is timed x y = absurd (stores_loads loop e.to x.2 y.2)
kinds-exclude loop latencies e Output Anti is timed x y = absurd (stores_loads loop e.from x.1 y.1)
kinds-exclude loop latencies e Output Output is timed x y = refl

-- a dependence is of the kind that every other kind is ruled out for
of_kind : (loop : LoopData) (latencies : List ℕ) (e : EdgeData) (kind : Kind) → Dependence loop latencies e
    → ((k : Kind) → IsOfKind loop latencies e k → k ≡ kind) → IsOfKind loop latencies e kind
of_kind loop latencies e kind (value_flow uses delay) only = subst (IsOfKind loop latencies e) (only Value (uses, delay)) (uses, delay)
of_kind loop latencies e kind (memory_flow meet a b delay) only = subst (IsOfKind loop latencies e) (only Memory (meet, a, b, delay)) (meet, a, b, delay)
of_kind loop latencies e kind (anti meet a b delay) only = subst (IsOfKind loop latencies e) (only Anti (meet, a, b, delay)) (meet, a, b, delay)
of_kind loop latencies e kind (output meet a b delay) only = subst (IsOfKind loop latencies e) (only Output (meet, a, b, delay)) (meet, a, b, delay)

memory_only : (loop : LoopData) (latencies : List ℕ) (e : EdgeData) → IsLoop loop → HasOpcode loop e.from Store → HasOpcode loop e.to Load
    → (k : Kind) → IsOfKind loop latencies e k → k ≡ Memory
memory_only loop latencies e is a b Value x = absurd (value_stores loop latencies e is x a)
memory_only loop latencies e is a b Memory x = refl
memory_only loop latencies e is a b Anti x = absurd (stores_loads loop e.from a x.1)
memory_only loop latencies e is a b Output x = absurd (stores_loads loop e.to x.2 b)

output_only : (loop : LoopData) (latencies : List ℕ) (e : EdgeData) → IsLoop loop → HasOpcode loop e.from Store → (HasOpcode loop e.to Load → ⊥)
    → (k : Kind) → IsOfKind loop latencies e k → k ≡ Output
output_only loop latencies e is a b Value x = absurd (value_stores loop latencies e is x a)
output_only loop latencies e is a b Memory x = absurd (b x.2)
output_only loop latencies e is a b Anti x = absurd (stores_loads loop e.from a x.1)
output_only loop latencies e is a b Output x = refl

value_only : (loop : LoopData) (latencies : List ℕ) (e : EdgeData) → IsTimed loop latencies e → (HasOpcode loop e.from Store → ⊥) → pos 0 <ℤ e.delay
    → (k : Kind) → IsOfKind loop latencies e k → k ≡ Value
value_only loop latencies e timed a late Value x = refl
value_only loop latencies e timed a late Memory x = absurd (a x.1)
value_only loop latencies e timed a late Anti x = let early = anti-early loop latencies e timed x in absurd (omega (arith, ints))
value_only loop latencies e timed a late Output x = absurd (a x.1)

anti_only : (loop : LoopData) (latencies : List ℕ) (e : EdgeData) → IsLoop loop → IsTimed loop latencies e → (HasOpcode loop e.from Store → ⊥) → e.delay ≤ℤ pos 0
    → (k : Kind) → IsOfKind loop latencies e k → k ≡ Anti
anti_only loop latencies e is timed a early Value x = let late = value-late loop latencies e is timed x in absurd (omega (arith, ints))
anti_only loop latencies e is timed a early Memory x = absurd (a x.1)
anti_only loop latencies e is timed a early Anti x = refl
anti_only loop latencies e is timed a early Output x = absurd (a x.1)

-- the opcode that was read is the operation's
pub opcode-read : (loop : LoopData) (statements : List Statement) (i op : ℕ) (d : Statement) → statements ≡ loop.statements → i ≡ op → op < length loop.statements
    → HasOpcode loop op (get_or statements i d).opcode
opcode-read loop statements i op d same number within =
    let there : i < length statements = omega (arith, ap length same) in
    let at : slice_get statements i ≡ Some (get_or statements i d) = slice_get-get_or statements i d there in (
      get_or statements i d,
      subst (λ (k : ℕ). slice_get loop.statements k ≡ Some (get_or statements i d)) number
          (subst (λ (xs : List Statement). slice_get xs i ≡ Some (get_or statements i d)) same at),
      refl,
    )

pub memory-kind : (loop : LoopData) (latencies : List ℕ) (e : EdgeData) (a b : Opcode) → IsLoop loop → IsTimed loop latencies e → HasOpcode loop e.from a → HasOpcode loop e.to b
    → a ≡ Store → b ≡ Load → IsOfKind loop latencies e Memory
memory-kind loop latencies e a b is timed from to stores loads =
    of_kind loop latencies e Memory timed.dependence (memory_only loop latencies e is (subst (HasOpcode loop e.from) stores from) (subst (HasOpcode loop e.to) loads to))

pub output-kind : (loop : LoopData) (latencies : List ℕ) (e : EdgeData) (a b : Opcode) → IsLoop loop → IsTimed loop latencies e → HasOpcode loop e.from a → HasOpcode loop e.to b
    → a ≡ Store → (b ≡ Load → ⊥) → IsOfKind loop latencies e Output
output-kind loop latencies e a b is timed from to stores loads =
    of_kind loop latencies e Output timed.dependence (output_only loop latencies e is (subst (HasOpcode loop e.from) stores from)
    (λ (h : HasOpcode loop e.to Load). loads (one_opcode loop e.to b Load to h)))

pub value-kind : (loop : LoopData) (latencies : List ℕ) (e : EdgeData) (a : Opcode) → IsTimed loop latencies e → HasOpcode loop e.from a
    → (a ≡ Store → ⊥) → pos 0 <ℤ e.delay → IsOfKind loop latencies e Value
value-kind loop latencies e a timed from stores late =
    of_kind loop latencies e Value timed.dependence (value_only loop latencies e timed (λ (h : HasOpcode loop e.from Store). stores (one_opcode loop e.from a Store from h)) late)

pub anti-kind : (loop : LoopData) (latencies : List ℕ) (e : EdgeData) (a : Opcode) → IsLoop loop → IsTimed loop latencies e → HasOpcode loop e.from a
    → (a ≡ Store → ⊥) → e.delay ≤ℤ pos 0 → IsOfKind loop latencies e Anti
anti-kind loop latencies e a is timed from stores early =
    of_kind loop latencies e Anti timed.dependence (anti_only loop latencies e is timed (λ (h : HasOpcode loop e.from Store). stores (one_opcode loop e.from a Store from h)) early)

-- the operations of a dependence are there
pub from-within : (loop : LoopData) (latencies : List ℕ) (e : EdgeData) → IsLoop loop → Dependence loop latencies e → e.from < length loop.statements
from-within loop latencies e is (value_flow uses delay) = let g = used loop e.to e.from e.distance is uses in slice_get_within loop.statements e.from g.0 g.1
from-within loop latencies e is (memory_flow meet a b delay) = slice_get_within loop.statements e.from a.0 a.1
from-within loop latencies e is (anti meet a b delay) = slice_get_within loop.statements e.from a.0 a.1
from-within loop latencies e is (output meet a b delay) = slice_get_within loop.statements e.from a.0 a.1

pub to-within : (loop : LoopData) (latencies : List ℕ) (e : EdgeData) → Dependence loop latencies e → e.to < length loop.statements
to-within loop latencies e (value_flow uses delay) = slice_get_within loop.statements e.to uses.0 uses.1
to-within loop latencies e (memory_flow meet a b delay) = slice_get_within loop.statements e.to b.0 b.1
to-within loop latencies e (anti meet a b delay) = slice_get_within loop.statements e.to b.0 b.1
to-within loop latencies e (output meet a b delay) = slice_get_within loop.statements e.to b.0 b.1
