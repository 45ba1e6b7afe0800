-- What listings promise.
use Rattle.std.specs.Prelude.{◌≡◌, ℕ, List}
use Rattle.std.specs.List.{All, AllZip}
use Rattle.machine_data.specs.Machines.{MachineData, table_of}
use Rattle.loop_data.specs.Loops.{LoopData}
use Rattle.graph.specs.Dependences.{latency_in}
use Rattle.edges.specs.Graphs.{GraphData}
use Rattle.graph.specs.Graphs.{IsGraphOf}
use Rattle.edges.specs.Schedules.{IsLawfulSchedule}
use Rattle.graph.specs.Units.{opcodes_of, operations_of}
use Rattle.loop_schedules.specs.Problems.{ProblemData, IsProblemOf}
use Rattle.kernel.specs.declared.kernels.operation.Operation.{Operation}
use Rattle.kernel.specs.declared.kernels.parts.Parts.{Parts}
use Rattle.overlap.specs.Overlap.{times_of, choices_of, opcodes_in, RunsAsLoop}
use Rattle.loop_listings.specs.declared.choices.Choice.{Choice}
use Rattle.loop_listings.specs.declared.choices.Choice.TheVariants.{Met, Failed}
use Rattle.loop_listings.specs.declared.listings.Row.{Row}
use Rattle.candidates.specs.Outcomes.{GivesKernel}
use Rattle.candidates.specs.Choices.{IsChoice}
use Rattle.loop_listings.specs.Listings.{ListingData, listing_of}

-- the listing of one thread: each loop's problem on the machine, and its choice
pub record Lists (machine : MachineData) (loops : List LoopData) (ratio ceiling : ℕ) (listing : ListingData) : Type 0 where
  pub problems : List ProblemData
  pub each_problem : AllZip (λ loop problem. IsProblemOf machine loop ratio ceiling problem) loops problems
  pub choices : List Choice
  pub each_choice : AllZip IsChoice problems choices
  pub is_listing : listing ≡ listing_of ceiling problems choices

-- loops, a machine and settings have one listing
abbrev pub OneListing : Type 0
OneListing = (machine : MachineData) (loops : List LoopData) (ratio ceiling : ℕ) (one other : ListingData)
    → Lists machine loops ratio ceiling one → Lists machine loops ratio ceiling other → one ≡ other

-- the kernel's operations are those of the loop, each with the machine's latency of its opcode, and its registers are the machine's;
-- it keeps every dependence of the loop, and every unit of the machine
pub record KeepsAll (machine : MachineData) (loop : LoopData) (kernel : Parts) : Type 0 where
  pub opcodes : opcodes_in kernel ≡ opcodes_of loop
  pub latencies : All (λ (o : Operation). o.latency ≡ latency_in (table_of machine o.opcode)) kernel.operations
  pub registers : kernel.registers ≡ machine.registers
  pub graph : GraphData
  pub is_graph : IsGraphOf machine loop graph
  pub lawful : IsLawfulSchedule kernel.ii (operations_of machine loop) graph.edges (times_of kernel) (choices_of kernel)

-- a kernel keeps every dependence and unit, and its run leaves of each memory what the loop leaves
abbrev pub KernelsKeepLoops : Type 0
KernelsKeepLoops = (machine : MachineData) (loop : LoopData) (ratio ceiling ii : ℕ) (problem : ProblemData) (kernel : Parts)
    → IsProblemOf machine loop ratio ceiling problem → GivesKernel problem ii kernel → KeepsAll machine loop kernel

abbrev pub KernelsRunAsLoops : Type 0
KernelsRunAsLoops = (machine : MachineData) (loop : LoopData) (ratio ceiling ii : ℕ) (problem : ProblemData) (kernel : Parts)
    → IsProblemOf machine loop ratio ceiling problem → GivesKernel problem ii kernel → RunsAsLoop kernel loop

-- where the loop was met, that is so of its kernel, at the interval that is told
abbrev pub IsRightChoice : MachineData → LoopData → Choice → Type 0
IsRightChoice machine loop (Met ii kernel) = (kernel.ii ≡ ii) × KeepsAll machine loop kernel × RunsAsLoop kernel loop
IsRightChoice machine loop (Failed cause) = Unit {0}

-- each loop's row
abbrev pub IsRight : MachineData → List LoopData → ListingData → Type 0
IsRight machine loops listing = AllZip (λ loop (row : Row). IsRightChoice machine loop row.choice) loops listing.rows

-- and so of all rows of a listing
abbrev pub ListingsAreRight : Type 0
ListingsAreRight = (machine : MachineData) (loops : List LoopData) (ratio ceiling : ℕ) (listing : ListingData)
    → Lists machine loops ratio ceiling listing → IsRight machine loops listing
