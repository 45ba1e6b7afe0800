-- The kinds of dependence between the operations of a loop.
use Rattle.std.specs.Prelude.{◌≡◌, ℕ, pos, ◌+ℤ◌, ◌-ℤ◌, List, codes, length, slice_index}
use Rattle.machine_data.specs.declared.opcode.Opcode.TheVariants.{Load, Store}
use Rattle.loop_data.specs.Loops.{LoopData, IsLoop}
use Rattle.edges.specs.Edges.{EdgeData}
use Rattle.graph.specs.Dependences.{Dependence, HasOpcode, MeetInMemory, Uses}
use Rattle.graph.specs.Subscripts.{AreLatencies}
use Rattle.graph_text.specs.declared.kind.Kind.{Kind}
use Rattle.graph_text.specs.declared.kind.Kind.TheVariants.{Value, Memory, Anti, Output}

abbrev pub kind_word : Kind → List ℕ
kind_word Value = codes "value"
kind_word Memory = codes "memory"
kind_word Anti = codes "anti"
kind_word Output = codes "output"

-- the edge is a dependence of this kind: a value is used, or two operations touch one cell, the first of which writes it, reads it
-- before it is written, or writes it before it is written
abbrev pub IsOfKind : LoopData → List ℕ → EdgeData → Kind → Type 0
IsOfKind loop latencies e Value = Uses loop e.to e.from e.distance × (e.delay ≡ pos (slice_index latencies e.from))
IsOfKind loop latencies e Memory = MeetInMemory loop e.from e.to e.distance × HasOpcode loop e.from Store × HasOpcode loop e.to Load
    × (e.delay ≡ pos (slice_index latencies e.from))
IsOfKind loop latencies e Anti = MeetInMemory loop e.from e.to e.distance × HasOpcode loop e.from Load × HasOpcode loop e.to Store
    × (e.delay ≡ (pos 1 -ℤ pos (slice_index latencies e.to)))
IsOfKind loop latencies e Output = MeetInMemory loop e.from e.to e.distance × HasOpcode loop e.from Store × HasOpcode loop e.to Store
    × (e.delay ≡ ((pos 1 +ℤ pos (slice_index latencies e.from)) -ℤ pos (slice_index latencies e.to)))

-- a dependence of a loop whose operations have these latencies, of 1 to 64 cycles
pub record IsTimed (loop : LoopData) (latencies : List ℕ) (e : EdgeData) : Type 0 where
  pub all : length latencies ≡ length loop.statements
  pub short : AreLatencies latencies
  pub dependence : Dependence loop latencies e

-- each dependence has a kind
abbrev pub DependencesHaveKinds : Type 0
DependencesHaveKinds = (loop : LoopData) (latencies : List ℕ) (e : EdgeData) → Dependence loop latencies e → (kind : Kind) × IsOfKind loop latencies e kind

-- what has a kind is a dependence
abbrev pub KindsAreDependences : Type 0
KindsAreDependences = (loop : LoopData) (latencies : List ℕ) (e : EdgeData) (kind : Kind) → IsOfKind loop latencies e kind → Dependence loop latencies e

-- no dependence has two kinds
abbrev pub KindsExclude : Type 0
KindsExclude = (loop : LoopData) (latencies : List ℕ) (e : EdgeData) (a b : Kind) → IsLoop loop → IsTimed loop latencies e
    → IsOfKind loop latencies e a → IsOfKind loop latencies e b → a ≡ b
