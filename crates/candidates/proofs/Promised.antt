-- What listings promise.
use Rattle.std.proofs.Common.{◌≡◌, ℕ, ◌≤◌, List, [], ◌∷◌, map, refl, sym, ap, ◌∙◌, subst}
use Rattle.std.specs.List.{All, AllZip}
use Rattle.std.proofs.lemmas.List.Elements.{All-nil, All-cons}
use Rattle.machine_data.specs.Machines.{MachineData, table_of}
use Rattle.machine_data.specs.declared.alternative.Row.{Row}
use Rattle.machine_data.specs.declared.opcode.Opcode.{Opcode}
use Rattle.loop_data.specs.declared.language.statement.Statement.{Statement}
use Rattle.loop_data.specs.Loops.{LoopData}
use Rattle.graph.specs.Dependences.{latency_in}
use Rattle.edges.specs.Schedules.{IsLawfulSchedule}
use Rattle.graph.specs.Units.{opcodes_of}
use Rattle.loop_schedules.specs.Problems.{ProblemData, IsProblemOf}
use Rattle.loop_schedules.specs.Schedules.{ScheduleData, IsSchedule}
use Rattle.loop_schedules.proofs.problems.OneProblems.{one-problem}
use Rattle.loop_schedules.proofs.Promised.{problems-have}
use Rattle.kernel.specs.declared.kernels.operation.Operation.{Operation}
use Rattle.kernel.specs.declared.kernels.parts.Parts.{Parts}
use Rattle.kernel.specs.Overlapped.{overlapped}
use Rattle.overlap.specs.Allotments.{AllotmentData, IsAllotment, Suits}
use Rattle.overlap.specs.Emission.{emitted}
use Rattle.overlap.specs.Lifetimes.{lifetimes_of}
use Rattle.overlap.specs.Overlap.{times_of, choices_of, opcodes_in, KeepsSchedule, RunsAsLoop}
use Rattle.overlap.proofs.End.{overlap-is_sequence}
use Rattle.overlap.proofs.in_flight.Kept.{kernels-keep_schedules}
use Rattle.registers.proofs.allotted.Least.{least-is_lawful}
use Rattle.loop_listings.specs.declared.choices.Choice.{Choice}
use Rattle.loop_listings.specs.declared.choices.Choice.TheVariants.{Met, Failed}
use Rattle.loop_listings.specs.declared.listings.Row as row
use Rattle.candidates.specs.Outcomes.{HasKernel}
use Rattle.candidates.specs.Choices.{IsChoice}
use Rattle.loop_listings.specs.Listings.{listing_rows}
use Rattle.candidates.specs.Promises.{IsRightChoice, KernelsKeepLoops, KernelsRunAsLoops, ListingsAreRight, OneListing}
use Rattle.candidates.proofs.OneChoices.{one_choice}

emitted-ii : (s : ScheduleData) (a : AllotmentData) → (emitted s a).ii ≡ s.ii
unfolding emitted
emitted-ii s a = refl

emitted-registers : (s : ScheduleData) (a : AllotmentData) → (emitted s a).registers ≡ a.registers
unfolding emitted
emitted-registers s a = refl

-- what a schedule's kernel keeps
kept : (s : ScheduleData) (k : Parts) → IsSchedule s → HasKernel s k → KeepsSchedule s k
kept s k is h = subst (KeepsSchedule s) (sym h.is_kernel) (kernels-keep_schedules s h.allotment is)

kept-ii : (s : ScheduleData) (k : Parts) → HasKernel s k → k.ii ≡ s.ii
kept-ii s k h = ap (λ (x : Parts). x.ii) h.is_kernel ∙ emitted-ii s h.allotment

kept-registers : (s : ScheduleData) (k : Parts) → HasKernel s k → k.registers ≡ s.problem.registers
kept-registers s k h = ap (λ (x : Parts). x.registers) h.is_kernel ∙ emitted-registers s h.allotment ∙ h.same_registers

lawful_as : (ii : ℕ) (operations : List (List (List Row))) (s : ScheduleData) (k : Parts) → IsSchedule s → HasKernel s k → s.problem.operations ≡ operations
    → IsLawfulSchedule k.ii operations s.problem.graph.edges (times_of k) (choices_of k)
lawful_as ii operations s k is h same =
    let e = kept s k is h in
    subst (λ cs. IsLawfulSchedule k.ii operations s.problem.graph.edges (times_of k) cs) (sym e.choices)
    (subst (λ ts. IsLawfulSchedule k.ii operations s.problem.graph.edges ts s.choices) (sym e.times)
    (subst (λ i. IsLawfulSchedule i operations s.problem.graph.edges s.times s.choices) (sym (kept-ii s k h))
    (subst (λ os. IsLawfulSchedule s.ii os s.problem.graph.edges s.times s.choices) same is.lawful)))

-- latencies that are those of the opcodes, each for itself
each_latency : (l : Opcode → ℕ) (os : List Operation) (statements : List Statement) → map (λ (o : Operation). o.opcode) os ≡ map (λ (s : Statement). s.opcode) statements
    → map (λ (o : Operation). o.latency) os ≡ map (λ (s : Statement). l s.opcode) statements → All (λ (o : Operation). o.latency ≡ l o.opcode) os
each_latency l [] statements opcodes latencies = All-nil (λ (o : Operation). o.latency ≡ l o.opcode)
each_latency l (o ∷ os) [] opcodes latencies = absurd (cc)
each_latency l (o ∷ os) (s ∷ statements) opcodes latencies =
    let opcode : o.opcode ≡ s.opcode = cc in
    let latency : o.latency ≡ l s.opcode = cc in
    All-cons (λ (o : Operation). o.latency ≡ l o.opcode) o os (latency ∙ sym (ap l opcode)) (each_latency l os statements (cc) (cc))

pub kernels-keep : KernelsKeepLoops
kernels-keep machine loop ratio ceiling ii problem kernel is g =
    let s = g.schedule in
    let same : s.problem ≡ problem = g.is_schedule.2 in
    let e = kept s kernel g.is_schedule.4 g.has_kernel in
    let same_loop : s.problem.loop ≡ loop = ap (λ (q : ProblemData). q.loop) same ∙ is.same_loop in
    let opcodes : opcodes_in kernel ≡ opcodes_of loop = e.opcodes ∙ ap opcodes_of same_loop in
    record {
      opcodes = opcodes;
      latencies = each_latency (λ opcode. latency_in (table_of machine opcode)) kernel.operations loop.statements opcodes
          (e.latencies ∙ ap (λ (q : ProblemData). q.graph.latencies) same ∙ is.latencies);
      registers = kept-registers s kernel g.has_kernel ∙ ap (λ (q : ProblemData). q.registers) same ∙ is.same_registers;
      graph = problem.graph;
      is_graph = problems-have machine loop ratio ceiling problem is;
      lawful = subst (λ (q : ProblemData). IsLawfulSchedule kernel.ii _ q.graph.edges (times_of kernel) (choices_of kernel)) same
          (lawful_as ii _ s kernel g.is_schedule.4 g.has_kernel (ap (λ (q : ProblemData). q.operations) same ∙ is.alternatives));
    }

allotted : (s : ScheduleData) (a : AllotmentData) → 1 ≤ a.registers → a.registers ≤ 256 → Suits s a → IsAllotment a
allotted s a some few suits = record { some = some; few = few; there = suits.there }

runs : (s : ScheduleData) (k : Parts) → IsSchedule s → HasKernel s k → RunsAsLoop k s.problem.loop
runs s k is h memory is_memory shape =
    let suits = least-is_lawful s.ii h.allotment.registers (lifetimes_of s) h.allotment.numbers h.is_least in
    let some = subst (λ r. 1 ≤ r) (sym h.same_registers) is.problem.registers_some in
    let few = subst (λ r. r ≤ 256) (sym h.same_registers) is.problem.registers_few in
    ap (λ (x : Parts). overlapped x memory) h.is_kernel
    ∙ overlap-is_sequence s h.allotment memory (record { belong = record { scheduled = is; allotted = allotted s h.allotment some few suits; suits = suits }; is_memory = is_memory; shape = shape })

pub kernels-run : KernelsRunAsLoops
kernels-run machine loop ratio ceiling ii problem kernel is g =
    subst (RunsAsLoop kernel) (ap (λ (q : ProblemData). q.loop) g.is_schedule.2 ∙ is.same_loop) (runs g.schedule kernel g.is_schedule.4 g.has_kernel)

right_choice : (machine : MachineData) (loop : LoopData) (ratio ceiling : ℕ) (problem : ProblemData) (choice : Choice) → IsProblemOf machine loop ratio ceiling problem → IsChoice problem choice → IsRightChoice machine loop choice
right_choice machine loop ratio ceiling problem (Met ii kernel) is c = (
  kept-ii c.is_given.schedule kernel c.is_given.has_kernel ∙ c.is_given.is_schedule.3,
  kernels-keep machine loop ratio ceiling ii problem kernel is c.is_given,
  kernels-run machine loop ratio ceiling ii problem kernel is c.is_given,
)
right_choice machine loop ratio ceiling problem (Failed cause) is c = tt

right_rows : (machine : MachineData) (ratio ceiling : ℕ) (loops : List LoopData) (problems : List ProblemData) (choices : List Choice)
    → AllZip (λ loop problem. IsProblemOf machine loop ratio ceiling problem) loops problems → AllZip IsChoice problems choices
    → AllZip (λ loop (r : row.Row). IsRightChoice machine loop r.choice) loops (listing_rows problems choices)
right_rows machine ratio ceiling [] [] [] ps cs = tt
right_rows machine ratio ceiling [] [] (c ∷ choices) ps cs = absurd cs
right_rows machine ratio ceiling [] (p ∷ problems) choices ps cs = absurd ps
right_rows machine ratio ceiling (l ∷ loops) [] choices ps cs = absurd ps
right_rows machine ratio ceiling (l ∷ loops) (p ∷ problems) [] ps cs = absurd cs
right_rows machine ratio ceiling (l ∷ loops) (p ∷ problems) (c ∷ choices) ps cs = (right_choice machine l ratio ceiling p c ps.0 cs.0, right_rows machine ratio ceiling loops problems choices ps.1 cs.1)

pub listings-are_right : ListingsAreRight
listings-are_right machine loops ratio ceiling listing is =
    subst (λ rows. AllZip (λ loop (r : row.Row). IsRightChoice machine loop r.choice) loops rows) (sym (ap (λ l. l.rows) is.is_listing)) (right_rows machine ratio ceiling loops is.problems is.choices is.each_problem is.each_choice)

same_rows : (machine : MachineData) (ratio ceiling : ℕ) (loops : List LoopData) (ps qs : List ProblemData) (cs ds : List Choice)
    → AllZip (λ loop problem. IsProblemOf machine loop ratio ceiling problem) loops ps → AllZip IsChoice ps cs
    → AllZip (λ loop problem. IsProblemOf machine loop ratio ceiling problem) loops qs → AllZip IsChoice qs ds → listing_rows ps cs ≡ listing_rows qs ds
same_rows machine ratio ceiling [] [] [] cs ds a b c d = refl
same_rows machine ratio ceiling [] [] (q ∷ qs) cs ds a b c d = absurd c
same_rows machine ratio ceiling [] (p ∷ ps) qs cs ds a b c d = absurd a
same_rows machine ratio ceiling (l ∷ loops) [] qs cs ds a b c d = absurd a
same_rows machine ratio ceiling (l ∷ loops) (p ∷ ps) [] cs ds a b c d = absurd c
same_rows machine ratio ceiling (l ∷ loops) (p ∷ ps) (q ∷ qs) [] ds a b c d = absurd b
same_rows machine ratio ceiling (l ∷ loops) (p ∷ ps) (q ∷ qs) (x ∷ cs) [] a b c d = absurd d
same_rows machine ratio ceiling (l ∷ loops) (p ∷ ps) (q ∷ qs) (x ∷ cs) (y ∷ ds) a b c d =
    let problem : p ≡ q = one-problem machine l ratio ceiling p q a.0 c.0 in
    let choice : x ≡ y = one_choice p x y a.0.is_problem b.0 (subst (λ r. IsChoice r y) (sym problem) d.0) in
    let rest = same_rows machine ratio ceiling loops ps qs cs ds a.1 b.1 c.1 d.1 in
    cc

pub one-listing : OneListing
one-listing machine loops ratio ceiling one other a b =
    let rows = same_rows machine ratio ceiling loops a.problems b.problems a.choices b.choices a.each_problem a.each_choice b.each_problem b.each_choice in
    a.is_listing ∙ ap (λ rs. record { ceiling = ceiling; rows = rs }) rows ∙ sym b.is_listing
