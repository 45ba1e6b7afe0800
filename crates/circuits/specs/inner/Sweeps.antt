-- What sweeps over the edges keep for each operation, and what they come to.
use Rattle.std.specs.Prelude.{◌≡◌, ◌≢◌, ℕ, ◌<◌, ◌≤◌, List, length, slice_index, Option, IfSome}
use Rattle.std.specs.List.{slice_index_or, AllPairs, Contains}
use Rattle.edges.specs.Edges.{EdgeData}
use Rattle.edges.specs.Graphs.{GraphData}
use Rattle.walks.specs.Walks.{IsWalk, FitsCircuits}
use Rattle.circuits.specs.Circuits.{IsCircuitAbove}
use Rattle.circuits.specs.declared.sweeps.Swept.{Swept}
use Rattle.circuits.specs.declared.sweeps.Swept.TheVariants.{Fits, Circuit, Open}

-- no operation's walk takes more cycles
abbrev pub AreShort : GraphData → ℕ → List ℕ → Type 0
AreShort graph most lengths = (p : ℕ) → p < length graph.latencies → slice_index lengths p ≤ most

-- the edge that is kept for an operation is one from it
abbrev pub AreFirst : GraphData → List (Option EdgeData) → Type 0
AreFirst graph first = (p : ℕ) (d : Option EdgeData) → p < length first → IfSome (slice_index_or first p d) (λ e. Contains graph.edges e × (e.from ≡ p))

-- a closed walk that comes to no operation twice, of 128 edges at most
pub record GoesRoundOnce (edges : List EdgeData) (walk : List EdgeData) : Type 0 where
  pub start : ℕ
  pub closed : IsWalk edges start walk start
  pub once : AllPairs (λ (a b : EdgeData). a.from ≢ b.from) walk
  pub few : length walk ≤ 128

-- what sweeps at an interval come to
abbrev pub IsSwept : List EdgeData → ℕ → Swept → Type 0
IsSwept edges ii Fits = FitsCircuits edges ii
IsSwept edges ii (Circuit walk) = IsCircuitAbove edges ii walk.items
IsSwept edges ii Open = Unit {0}
