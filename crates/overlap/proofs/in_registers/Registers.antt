-- A register holds, when it is read, the value of the instance that is wanted.
use Rattle.std.proofs.Common.{◌≡◌, ℕ, ◌+◌, ◌-◌, ◌<◌, ◌≤◌, true, length, Some, None, ℤ, pos, ◌-ℤ◌, sym, ap, ◌∙◌, subst, inl, inr, arith}
use Rattle.std.specs.Prelude.{slice_get, slice_index, is_some}
use Rattle.std.specs.List.{Contains}
use Rattle.std.proofs.lemmas.Bool.{cases_lt}
use Rattle.std.proofs.lemmas.Int.{ints}
use Rattle.std.proofs.lemmas.Option.{same_Some}
use Rattle.loop_data.specs.declared.language.statement.Statement.{Statement}
use Rattle.loop_data.specs.Run.{MemoryData, initial_of}
use Rattle.graph.specs.Dependences.{Uses}
use Rattle.graph.specs.Promises.{issue_of}
use Rattle.kernel.specs.Overlapped.{InRegister, Write, physical, last_landed, preloaded}
use Rattle.registers.specs.declared.value.Read.{Read}
use Rattle.registers.specs.Values as values
use Rattle.instances.specs.Runs as lists
use Rattle.instances.proofs.Turned.{destination-is, source-is}
use Rattle.instances.proofs.Lives.{carried-far}
use Rattle.instances.proofs.Standing.{read-lands, read-opens}
use Rattle.overlap.specs.Allotments.{AllotmentData, allotted_number}
use Rattle.overlap.specs.Emission.{emitted}
use Rattle.overlap.specs.Lifetimes.{rank_of}
use Rattle.loop_schedules.specs.Schedules.{ScheduleData}
use Rattle.overlap.specs.Sequence.{write_of_instance, given_by, sequence_before}
use Rattle.overlap.specs.Overlap.{IsRun}
use Rattle.overlap.proofs.in_flight.Issued.{IsIssued, issued-from_sequence, sequence-from_issued}
use Rattle.overlap.proofs.in_flight.Landing.{IsEarlier, last-landed_is, none-landed}
use Rattle.overlap.proofs.in_flight.Writes.{takes-time, into-register, makes-value}
use Rattle.overlap.proofs.in_registers.Lives.{rank-one, value-at_rank}
use Rattle.overlap.proofs.in_registers.OfSchedule.{run_of, is-run, rank-carried, rank-place, rank-within, read_of, read-of_use, value-is}
use Rattle.overlap.proofs.in_registers.Preloaded.{preloaded-is}

-- the write of an instance of a statement that gives a value
abbrev pub made-write : ScheduleData → AllotmentData → MemoryData → ℕ → ℕ → Statement → Write
made-write schedule allotment memory x k s = record {
  target = InRegister (physical allotment.registers (allotted_number schedule.problem.loop allotment x) (pos k));
  value = given_by schedule.problem.loop memory.arrays x k s;
  start = issue_of schedule.ii schedule.times x k + slice_index schedule.problem.graph.latencies x;
}

module _ (schedule : ScheduleData) (allotment : AllotmentData) (memory : MemoryData) (run : IsRun schedule allotment memory) (x : ℕ) (s : Statement) (there : slice_get schedule.problem.loop.statements x ≡ Some s) (named : is_some s.name ≡ true) where
  -- where and when an instance lands
  pub rank-destination : (k : ℕ) → lists.destination (run_of schedule allotment) (rank_of schedule.problem.loop x) k
      ≡ lists.InRegister 0 (physical allotment.registers (allotted_number schedule.problem.loop allotment x) (pos k))
  rank-destination k =
      destination-is (run_of schedule allotment) (is-run schedule allotment run.belong).homes (rank_of schedule.problem.loop x) k
      ∙ rank-place schedule allotment run.belong x s there named (pos k)

  rank-landing : (k : ℕ) → lists.landing (run_of schedule allotment) (rank_of schedule.problem.loop x) k ≡ issue_of schedule.ii schedule.times x k + slice_index schedule.problem.graph.latencies x
  rank-landing k = let e = ap (values.landing_of schedule.times) (value-is schedule allotment run.belong (rank_of schedule.problem.loop x) x (value-at_rank schedule.problem.loop x s there named)) in omega arith

  -- a use as a read: its place is that of the instance that is wanted
  use-source : (q d j : ℕ) → lists.source (run_of schedule allotment) (read_of (rank_of schedule.problem.loop x) q d) j
      ≡ lists.InRegister 0 (physical allotment.registers (allotted_number schedule.problem.loop allotment x) (pos j -ℤ pos d))
  use-source q d j =
      source-is (run_of schedule allotment) (is-run schedule allotment run.belong).homes (read_of (rank_of schedule.problem.loop x) q d) j
      ∙ rank-place schedule allotment run.belong x s there named (pos j -ℤ pos d)

-- what is issued for a register is an instance of the run of lists that lands there
pub record IsLanding (schedule : ScheduleData) (allotment : AllotmentData) (v : Write) (op iteration register : ℕ) (s : Statement) : Type 0 where
  pub named : is_some s.name ≡ true
  pub within : rank_of schedule.problem.loop op < length (run_of schedule allotment).values
  pub here : lists.destination (run_of schedule allotment) (rank_of schedule.problem.loop op) iteration ≡ lists.InRegister 0 register
  pub at : lists.landing (run_of schedule allotment) (rank_of schedule.problem.loop op) iteration ≡ v.start

is-landing : (schedule : ScheduleData) (allotment : AllotmentData) (memory : MemoryData) → IsRun schedule allotment memory → (cycle : ℕ) (v : Write)
    → (is : IsIssued schedule allotment memory cycle v) → (register : ℕ) → v.target ≡ InRegister register → IsLanding schedule allotment v is.op is.iteration register is.statement
is-landing schedule allotment memory run cycle v is register target =
    let shape = (run.belong.scheduled.problem.loop.each is.op is.statement is.is_statement).shape in
    let w = into-register schedule allotment memory.arrays is.op is.iteration is.statement v register shape is.is_write target in
    record {
      named = w.0;
      within = rank-within schedule allotment run.belong is.op is.statement is.is_statement w.0;
      here = rank-destination schedule allotment memory run is.op is.statement is.is_statement w.0 is.iteration ∙ ap (lists.InRegister 0) (sym w.1);
      at = rank-landing schedule allotment memory run is.op is.statement is.is_statement w.0 is.iteration ∙ sym w.2;
    }

module _ (schedule : ScheduleData) (allotment : AllotmentData) (memory : MemoryData) (run : IsRun schedule allotment memory) (x : ℕ) (s : Statement) (there : slice_get schedule.problem.loop.statements x ≡ Some s) (named : is_some s.name ≡ true) where
  -- what lands in the register of an instance that stands there has landed before it
  pub lands-before : (final by k : ℕ)
      → lists.StandsIn (run_of schedule allotment) memory.trip (lists.InRegister 0 (physical allotment.registers (allotted_number schedule.problem.loop allotment x) (pos k))) by (rank_of schedule.problem.loop x) k
      → (v : Write) → Contains (sequence_before schedule allotment memory final) v → v.target ≡ (made-write schedule allotment memory x k s).target → v.start ≤ by
      → IsEarlier (made-write schedule allotment memory x k s) v
  lands-before final by k stands v c target early =
      let loop = schedule.problem.loop in
      let is = issued-from_sequence schedule allotment memory final v c in
      let shape = (run.belong.scheduled.problem.loop.each x s there).shape in
      let landing = is-landing schedule allotment memory run final v is (physical allotment.registers (allotted_number loop allotment x) (pos k)) target in
      let at = landing.at in
      let this = rank-landing schedule allotment memory run x s there named k in
      elim (stands.last (rank_of loop is.op) is.iteration landing.within is.within landing.here (omega arith)) [
        | inl same ↦
            let op : is.op ≡ x = rank-one loop is.op x is.statement s is.is_statement landing.named there named same.0 in
            let statement : is.statement ≡ s = same_Some is.statement s (sym is.is_statement ∙ ap (slice_get loop.statements) op ∙ there) in
            inl (same_Some v (made-write schedule allotment memory x k s) (sym is.is_write
            ∙ ap (λ n. write_of_instance schedule allotment memory.arrays n is.iteration is.statement) op
            ∙ ap (λ n. write_of_instance schedule allotment memory.arrays x n is.statement) same.1
            ∙ ap (write_of_instance schedule allotment memory.arrays x k) statement ∙ makes-value schedule allotment memory.arrays x k s shape named))
        | inr before ↦ inr (omega arith)
      ]

  -- so that one is what landed last
  stands-last : (cycle k : ℕ)
      → lists.StandsIn (run_of schedule allotment) memory.trip (lists.InRegister 0 (physical allotment.registers (allotted_number schedule.problem.loop allotment x) (pos k))) cycle (rank_of schedule.problem.loop x) k
      → last_landed (sequence_before schedule allotment memory cycle) (InRegister (physical allotment.registers (allotted_number schedule.problem.loop allotment x) (pos k))) cycle
      ≡ write_of_instance schedule allotment memory.arrays x k s
  stands-last cycle k stands =
      let sc = run.belong.scheduled in
      let is_write = makes-value schedule allotment memory.arrays x k s (sc.problem.loop.each x s there).shape named in
      let takes = takes-time schedule sc x s there in
      let at = rank-landing schedule allotment memory run x s there named k in
      let landed = stands.landed in
      last-landed_is (sequence_before schedule allotment memory cycle) cycle (made-write schedule allotment memory x k s)
      (sequence-from_issued schedule allotment memory cycle (made-write schedule allotment memory x k s) sc.ii_some x k s there stands.within (omega arith) is_write) (omega arith)
      (lands-before cycle cycle k stands)
      ∙ sym is_write

  -- of a value of the run
  pub register-lands : (q d j : ℕ) → Uses schedule.problem.loop q x d → j < memory.trip → d ≤ j
      → last_landed (sequence_before schedule allotment memory (issue_of schedule.ii schedule.times q j))
      (InRegister (physical allotment.registers (allotted_number schedule.problem.loop allotment x) (pos j -ℤ pos d))) (issue_of schedule.ii schedule.times q j)
      ≡ write_of_instance schedule allotment memory.arrays x (j - d) s
  register-lands q d j u within le =
      let loop = schedule.problem.loop in
      let cycle : ℕ = issue_of schedule.ii schedule.times q j in
      let rank : ℕ = rank_of loop x in
      let r : Read = read_of rank q d in
      let n = read-of_use loop rank x q d (value-at_rank loop x s there named) u in
      let same : (pos j -ℤ pos d) ≡ pos (j - d) = omega (arith, ints) in
      let at : lists.reading_cycle (run_of schedule allotment) r j ≡ cycle = omega arith in
      let place = use-source schedule allotment memory run x s there named q d j ∙ ap (λ z. lists.InRegister 0 (physical allotment.registers (allotted_number loop allotment x) z)) same in
      let stands = read-lands (run_of schedule allotment) (is-run schedule allotment run.belong) n.0 r n.1 memory.trip j within le in
      ap (λ z. last_landed (sequence_before schedule allotment memory cycle) (InRegister (physical allotment.registers (allotted_number loop allotment x) z)) cycle) same
      ∙ stands-last cycle (j - d)
      (subst (λ p. lists.StandsIn (run_of schedule allotment) memory.trip p cycle rank (j - d)) place
      (subst (λ c. lists.StandsIn (run_of schedule allotment) memory.trip (lists.source (run_of schedule allotment) r j) c rank (j - d)) at stands))

  -- and of one before the first iteration: nothing has landed there, and it opens with the initial value
  pub register-opens : (q d j : ℕ) → Uses schedule.problem.loop q x d → j < d
      → (last_landed (sequence_before schedule allotment memory (issue_of schedule.ii schedule.times q j))
      (InRegister (physical allotment.registers (allotted_number schedule.problem.loop allotment x) (pos j -ℤ pos d))) (issue_of schedule.ii schedule.times q j) ≡ None)
      × (preloaded (emitted schedule allotment) (physical allotment.registers (allotted_number schedule.problem.loop allotment x) (pos j -ℤ pos d)) ≡ initial_of schedule.problem.loop x (d - j))
  register-opens q d j u lt =
      let loop = schedule.problem.loop in
      let lists_run = run_of schedule allotment in
      let is = is-run schedule allotment run.belong in
      let cycle : ℕ = issue_of schedule.ii schedule.times q j in
      let register : ℤ → ℕ = physical allotment.registers (allotted_number loop allotment x) in
      let r : Read = read_of (rank_of loop x) q d in
      let n = read-of_use loop (rank_of loop x) x q d (value-at_rank loop x s there named) u in
      let at : lists.reading_cycle lists_run r j ≡ cycle = omega arith in
      let opening = subst (λ p. lists.IsOpening lists_run memory.trip p cycle) (use-source schedule allotment memory run x s there named q d j)
      (subst (lists.IsOpening lists_run memory.trip (lists.source lists_run r j)) at (read-opens lists_run is n.0 r n.1 memory.trip j lt)) in
      let z : (pos j -ℤ pos d) ≡ (pos 0 -ℤ pos (d - j)) = omega (arith, ints) in
      let far = carried-far lists_run is n.0 r n.1 in
      let same = rank-carried schedule allotment run.belong x s there named in (
        none-landed (sequence_before schedule allotment memory cycle) (InRegister (register (pos j -ℤ pos d))) cycle (λ v c target.
            let issued = issued-from_sequence schedule allotment memory cycle v c in
            let landing = is-landing schedule allotment memory run cycle v issued (register (pos j -ℤ pos d)) target in
            let start = landing.at in
            elim (cases_lt cycle v.start) [
              | inl late ↦ late
              | inr early ↦ absurd (opening (rank_of loop issued.op) issued.iteration landing.within issued.within landing.here (omega arith))
            ]),
        ap (λ i. preloaded (emitted schedule allotment) (register i)) z ∙ preloaded-is schedule allotment run.belong x (d - j) s there named (omega arith) (omega arith),
      )
