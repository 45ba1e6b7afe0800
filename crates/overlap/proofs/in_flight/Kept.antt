-- The kernel's stages, rows and alternatives are the schedule's times and choices, its opcodes the loop's and its latencies the graph's.
use Rattle.std.proofs.Common.{◌≡◌, ℕ, suc, ◌+◌, ◌*◌, ◌/◌, ◌%◌, ◌<◌, List, [], ◌∷◌, length, map, refl, sym, ap, ◌∙◌, arith}
use Rattle.std.specs.Prelude.{slice_index}
use Rattle.std.proofs.Math.Nat.{div-add-mod'}
use Rattle.loop_data.specs.declared.language.statement.Statement.{Statement}
use Rattle.kernel.specs.declared.kernels.operation.Operation.{Operation}
use Rattle.overlap.specs.Allotments.{AllotmentData}
use Rattle.loop_schedules.specs.Schedules.{ScheduleData}
use Rattle.overlap.specs.Emission.{operations_from, emitted}
use Rattle.overlap.specs.Overlap.{KernelsKeepSchedules}

times-kept : (schedule : ScheduleData) (allotment : AllotmentData) (q : ℕ) (statements : List Statement) (ts : List ℕ) → length ts ≡ length statements
    → ((k : ℕ) → k < length ts → slice_index ts k ≡ slice_index schedule.times (q + k))
    → map (λ (o : Operation). o.stage * schedule.ii + o.row) (operations_from schedule allotment q statements) ≡ ts
times-kept schedule allotment q [] [] long each = refl
times-kept schedule allotment q [] (t ∷ ts) long each = absurd (omega arith)
times-kept schedule allotment q (s ∷ statements) [] long each = absurd (omega arith)
times-kept schedule allotment q (s ∷ statements) (t ∷ ts) long each =
    let z : q + 0 ≡ q = omega arith in
    let e : t ≡ slice_index schedule.times (q + 0) = each 0 (omega arith) in
    let d : (slice_index schedule.times q / schedule.ii) * schedule.ii + slice_index schedule.times q % schedule.ii ≡ slice_index schedule.times q = div-add-mod' (slice_index schedule.times q) schedule.ii in
    let h : (slice_index schedule.times q / schedule.ii) * schedule.ii + slice_index schedule.times q % schedule.ii ≡ t = d ∙ sym (e ∙ ap (slice_index schedule.times) z) in
    let rest = times-kept schedule allotment (q + 1) statements ts (omega arith) (λ k lt. (let y : q + suc k ≡ (q + 1) + k = omega arith in each (suc k) (omega arith) ∙ ap (slice_index schedule.times) y)) in
    ap (λ n. n ∷ map (λ (o : Operation). o.stage * schedule.ii + o.row) (operations_from schedule allotment (q + 1) statements)) h ∙ ap (λ ns. t ∷ ns) rest

choices-kept : (schedule : ScheduleData) (allotment : AllotmentData) (q : ℕ) (statements : List Statement) (cs : List ℕ) → length cs ≡ length statements
    → ((k : ℕ) → k < length cs → slice_index cs k ≡ slice_index schedule.choices (q + k))
    → map (λ (o : Operation). o.alternative) (operations_from schedule allotment q statements) ≡ cs
choices-kept schedule allotment q [] [] long each = refl
choices-kept schedule allotment q [] (t ∷ ts) long each = absurd (omega arith)
choices-kept schedule allotment q (s ∷ statements) [] long each = absurd (omega arith)
choices-kept schedule allotment q (s ∷ statements) (c ∷ cs) long each =
    let z : q + 0 ≡ q = omega arith in
    let e : c ≡ slice_index schedule.choices (q + 0) = each 0 (omega arith) in
    let rest = choices-kept schedule allotment (q + 1) statements cs (omega arith) (λ k lt. (let y : q + suc k ≡ (q + 1) + k = omega arith in each (suc k) (omega arith) ∙ ap (slice_index schedule.choices) y)) in
    ap (λ n. n ∷ map (λ (o : Operation). o.alternative) (operations_from schedule allotment (q + 1) statements)) (sym (e ∙ ap (slice_index schedule.choices) z)) ∙ ap (λ ns. c ∷ ns) rest

latencies-kept : (schedule : ScheduleData) (allotment : AllotmentData) (q : ℕ) (statements : List Statement) (ls : List ℕ) → length ls ≡ length statements
    → ((k : ℕ) → k < length ls → slice_index ls k ≡ slice_index schedule.problem.graph.latencies (q + k))
    → map (λ (o : Operation). o.latency) (operations_from schedule allotment q statements) ≡ ls
latencies-kept schedule allotment q [] [] long each = refl
latencies-kept schedule allotment q [] (t ∷ ts) long each = absurd (omega arith)
latencies-kept schedule allotment q (s ∷ statements) [] long each = absurd (omega arith)
latencies-kept schedule allotment q (s ∷ statements) (l ∷ ls) long each =
    let z : q + 0 ≡ q = omega arith in
    let e : l ≡ slice_index schedule.problem.graph.latencies (q + 0) = each 0 (omega arith) in
    let rest = latencies-kept schedule allotment (q + 1) statements ls (omega arith) (λ k lt. (let y : q + suc k ≡ (q + 1) + k = omega arith in each (suc k) (omega arith) ∙ ap (slice_index schedule.problem.graph.latencies) y)) in
    ap (λ n. n ∷ map (λ (o : Operation). o.latency) (operations_from schedule allotment (q + 1) statements)) (sym (e ∙ ap (slice_index schedule.problem.graph.latencies) z)) ∙ ap (λ ns. l ∷ ns) rest

opcodes-kept : (schedule : ScheduleData) (allotment : AllotmentData) (q : ℕ) (statements : List Statement)
    → map (λ (o : Operation). o.opcode) (operations_from schedule allotment q statements) ≡ map (λ (s : Statement). s.opcode) statements
opcodes-kept schedule allotment q [] = refl
opcodes-kept schedule allotment q (s ∷ statements) = ap (λ os. s.opcode ∷ os) (opcodes-kept schedule allotment (q + 1) statements)

pub kernels-keep_schedules : KernelsKeepSchedules
unfolding emitted
kernels-keep_schedules schedule allotment s =
    let p = s.lawful.plan in
    let a = p.each_time in
    let b = p.each_choice in
    let c = s.problem.each_operation in
    let d = s.problem.is_problem.each_latency in record {
      times = times-kept schedule allotment 0 schedule.problem.loop.statements schedule.times (omega arith) (λ k lt. (let z : k ≡ 0 + k = omega arith in ap (slice_index schedule.times) z));
      choices = choices-kept schedule allotment 0 schedule.problem.loop.statements schedule.choices (omega arith) (λ k lt. (let z : k ≡ 0 + k = omega arith in ap (slice_index schedule.choices) z));
      opcodes = opcodes-kept schedule allotment 0 schedule.problem.loop.statements;
      latencies = latencies-kept schedule allotment 0 schedule.problem.loop.statements schedule.problem.graph.latencies (omega arith) (λ k lt. (let z : k ≡ 0 + k = omega arith in ap (slice_index schedule.problem.graph.latencies) z));
    }
