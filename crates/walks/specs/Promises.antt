-- What the bound and the lengths of walks are between.
use Rattle.std.specs.Prelude.{ℕ, pos, ◌+◌, ◌*◌, ◌<◌, ◌≤◌, ◌≤ℤ◌, ◌⊎◌, List, length}
use Rattle.std.specs.List.{All}
use Rattle.edges.specs.Edges.{EdgeData}
use Rattle.edges.specs.Graphs.{GraphData, IsGraph}
use Rattle.edges.specs.Schedules.{KeepsEdge}
use Rattle.walks.specs.Walks.{IsWalk, length_of, Exceeds, FitsCircuits, IsRecurrenceBound}

-- no times keep the edges at an interval below their bound
abbrev pub SchedulesKeepRecurrences : Type 0
SchedulesKeepRecurrences = (edges : List EdgeData) (bound ii : ℕ) (times : List ℕ) → IsRecurrenceBound edges bound → 0 < ii
    → All (KeepsEdge ii times) edges → bound ≤ ii

-- each circuit fits every interval from the bound on
abbrev pub LongerIntervalsFit : Type 0
LongerIntervalsFit = (edges : List EdgeData) (bound ii : ℕ) → IsRecurrenceBound edges bound → bound ≤ ii → FitsCircuits edges ii

-- the bound is at most 64 for each operation
abbrev pub RecurrencesAreLimited : Type 0
RecurrencesAreLimited = (graph : GraphData) (bound : ℕ) → IsGraph graph → IsRecurrenceBound graph.edges bound → bound ≤ 64 * length graph.latencies

-- at any interval some circuit does not fit, or each walk has one from the same operation to the same one that has fewer edges
-- than there are operations and is as long
abbrev pub WalksAreShort : Type 0
WalksAreShort = (graph : GraphData) (ii : ℕ) → IsGraph graph → (p q : ℕ) (walk : List EdgeData) → p < length graph.latencies → IsWalk graph.edges p walk q
    → Exceeds graph.edges ii ⊎ ((other : List EdgeData) × IsWalk graph.edges p other q × (length other < length graph.latencies)
    × (length_of graph.latencies ii walk q ≤ℤ length_of graph.latencies ii other q))

-- at any interval no walk is longer than 64 cycles for each of its edges, and 64 more
abbrev pub SumsAreLimited : Type 0
SumsAreLimited = (graph : GraphData) (ii : ℕ) → IsGraph graph → (p q : ℕ) (walk : List EdgeData) → p < length graph.latencies → IsWalk graph.edges p walk q
    → length_of graph.latencies ii walk q ≤ℤ pos (64 * length walk + 64)
