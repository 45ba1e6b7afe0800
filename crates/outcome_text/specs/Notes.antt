-- What the bounds of a problem are due to, as lines.
use Rattle.std.specs.Prelude.{◌≡◌, ℕ, ℤ, ◌-◌, ◌<◌, ◌≤◌, ◌==◌, codes, List, [], ◌∷◌, ◌++◌, filter, map}
use Rattle.std.specs.List.{flat_map, range_with_len}
use Rattle.machine_data.specs.declared.alternative.Row.{Row}
use Rattle.edges.specs.Edges.{EdgeData}
use Rattle.unit_bound.specs.Units.{chosen_rows, use_of}
use Rattle.walks.specs.Walks.{delay_of, distance_of}
use Rattle.circuits.specs.Circuits.{IsCircuitAbove}
use Rattle.schedules.specs.Problems.{ProblemData as SchedulingData}
use Rattle.resource_bound.specs.Choices.{AreUnitChoices}
use Rattle.problems.specs.declared.draft.Draft.{Draft}
use Rattle.problems.specs.Problems.{ProblemData}
use Rattle.writing.specs.Words.{told, told_signed}
use Rattle.solution_text.specs.Names.{name_in}

-- the name of the part with a number after a blank, by the names of all such parts
abbrev pub spaced : List (List ℕ) → ℕ → List ℕ
spaced names number = codes " " ++ name_in names number

-- these words, and the parts with these numbers, each after a blank
abbrev pub listed : List ℕ → List (List ℕ) → List ℕ → List ℕ
listed words names numbers = words ++ flat_map (spaced names) numbers

-- a circuit that the recurrence-constrained bound is due to: it does not fit an interval that is one cycle shorter. Just a bound of 1
-- is due to none
abbrev pub IsCircuitOf : SchedulingData → List EdgeData → Type 0
IsCircuitOf scheduling [] = scheduling.recurrences ≤ 1
IsCircuitOf scheduling (e ∷ circuit) = (1 < scheduling.recurrences) × IsCircuitAbove scheduling.graph.edges (scheduling.recurrences - 1) (e ∷ circuit)

-- the operations that a walk goes on from
abbrev pub stops_of : List EdgeData → List ℕ
stops_of walk = map (λ (e : EdgeData). e.from) walk

-- ` takes D cycles over N iterations`, with a line feed
abbrev pub sums_text : ℤ → ℕ → List ℕ
sums_text delay distance = (told_signed (codes " takes ") delay ++ told (codes " cycles over ") distance) ++ codes " iterations\n"

-- `# circuit OP OP .. takes D cycles over N iterations`, with a line feed: the operations of a circuit, in its order, and the sums of
-- its delays and distances; nothing where there is no circuit
abbrev pub circuit_line : Draft → List EdgeData → List ℕ
circuit_line draft [] = []
circuit_line draft (e ∷ circuit) =
    listed (codes "# circuit") draft.names.operations.items (stops_of (e ∷ circuit)) ++ sums_text (delay_of (e ∷ circuit)) (distance_of (e ∷ circuit))

-- of `units` units, in order, those that exactly `uses` of the rows use
abbrev pub units_with : ℕ → List Row → ℕ → List ℕ
units_with units rows uses = filter (λ unit. use_of rows unit == uses) (range_with_len 0 units)

-- the units that the resource-constrained bound is due to: its choices use them as often as the bound says
pub record AreFullest (problem : ProblemData) (units : List ℕ) : Type 0 where
  pub choices : List ℕ
  pub are_choices : AreUnitChoices problem.scheduling.operations choices
  pub are_full : units ≡ units_with problem.draft.units (chosen_rows problem.scheduling.operations choices) problem.scheduling.resources

-- `# full UNIT UNIT ..`, with a line feed; nothing where there are no units
abbrev pub full_line : Draft → List ℕ → List ℕ
full_line draft [] = []
full_line draft (unit ∷ units) = listed (codes "# full") draft.names.units.items (unit ∷ units) ++ codes "\n"

-- the lines of both
pub record AreNotes (problem : ProblemData) (notes : List ℕ) : Type 0 where
  pub circuit : List EdgeData
  pub is_circuit : IsCircuitOf problem.scheduling circuit
  pub units : List ℕ
  pub are_fullest : AreFullest problem units
  pub is_text : notes ≡ circuit_line problem.draft circuit ++ full_line problem.draft units
