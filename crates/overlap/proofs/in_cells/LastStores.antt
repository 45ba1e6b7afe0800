-- Each cell holds, before each instance of the plain run, what the last store before put there.
use Rattle.std.proofs.Common.{◌≡◌, ◌⊎◌, ℕ, suc, zero, ◌<◌, ◌≤◌, length, Option, Some, None, refl, sym, ap, ◌∙◌, subst, inl, inr, arith}
use Rattle.std.specs.Prelude.{slice_get}
use Rattle.std.proofs.lemmas.Bool.{cases_Bool, true≢false, cond-true, cond-false}
use Rattle.std.proofs.lemmas.Option.{same_Some}
use Rattle.loop_data.specs.declared.language.statement.Statement.{Statement}
use Rattle.loop_data.specs.Run.{MemoryData}
use Rattle.graph.specs.Dependences.{ComesFirst}
use Rattle.kernel.specs.Overlapped.{InCell, Write, same_target}
use Rattle.overlap.specs.Allotments.{AllotmentData}
use Rattle.loop_schedules.specs.Schedules.{ScheduleData}
use Rattle.overlap.specs.Sequence.{state_before, write_of_instance}
use Rattle.overlap.specs.Overlap.{IsLastStore}
use Rattle.overlap.proofs.in_flight.Landing.{target-from_same, same-self}
use Rattle.loop_data.proofs.Instances.{arrays-next, slice_get-within}
use Rattle.loop_data.proofs.InstanceCells.{HaveBlocks, cell, blocks-next, there-is}
use Rattle.loop_data.proofs.LastStores.{before-cases, before-more, nothing-first, before-iteration, before-iteration_back}
use Rattle.overlap.proofs.in_cells.Cells.{put, cell-next}

-- no store before writes the cell
abbrev pub HasNoStore : ScheduleData → AllotmentData → MemoryData → ℕ → ℕ → ℕ → ℕ → Type 0
HasNoStore schedule allotment memory op j a i =
    (p k : ℕ) (s : Statement) (w : Write) → slice_get schedule.problem.loop.statements p ≡ Some s → ComesFirst p k op j
    → write_of_instance schedule allotment memory.arrays p k s ≡ Some w → w.target ≡ InCell a i → ⊥

abbrev pub HoldsLast : ScheduleData → AllotmentData → MemoryData → ℕ → ℕ → ℕ → ℕ → Type 0
HoldsLast schedule allotment memory op j a i =
    ((w : Write) × IsLastStore schedule allotment memory op j a i w × (cell (state_before schedule.problem.loop memory.arrays op j).arrays a i ≡ w.value))
    ⊎ (HasNoStore schedule allotment memory op j a i × (cell (state_before schedule.problem.loop memory.arrays op j).arrays a i ≡ cell memory.arrays a i))

-- an instance that doesn't write the cell changes nothing
skip : (schedule : ScheduleData) (allotment : AllotmentData) (memory : MemoryData) (op j a i : ℕ) (s : Statement) → slice_get schedule.problem.loop.statements op ≡ Some s
    → ((w : Write) → write_of_instance schedule allotment memory.arrays op j s ≡ Some w → w.target ≡ InCell a i → ⊥)
    → cell (state_before schedule.problem.loop memory.arrays (suc op) j).arrays a i ≡ cell (state_before schedule.problem.loop memory.arrays op j).arrays a i
    → HoldsLast schedule allotment memory op j a i → HoldsLast schedule allotment memory (suc op) j a i
skip schedule allotment memory op j a i s there unmet same (inl last) =
    let l = last.1 in
    inl (
      last.0,
      record {
        store = l.store;
        stored_in = l.stored_in;
        statement = l.statement;
        is_statement = l.is_statement;
        before = before-more l.store l.stored_in op j l.before;
        is_write = l.is_write;
        same_cell = l.same_cell;
        last = λ p k x w g f e t. elim (before-cases p k op j f) [
          | inl old ↦ l.last p k x w g old e t
          | inr now ↦
              let px : x ≡ s = same_Some x s (sym (sym (ap (slice_get schedule.problem.loop.statements) now.0) ∙ g) ∙ there) in
              absurd (unmet w (sym (ap (λ n. write_of_instance schedule allotment memory.arrays n k x) now.0 ∙ ap (λ n. write_of_instance schedule allotment memory.arrays op n x) now.1 ∙ ap (write_of_instance schedule allotment memory.arrays op j) px) ∙ e) t)
        ];
      },
      same ∙ last.2,
    )
skip schedule allotment memory op j a i s there unmet same (inr none) =
    inr (
      λ p k x w g f e t. elim (before-cases p k op j f) [
        | inl old ↦ none.0 p k x w g old e t
        | inr now ↦
            let px : x ≡ s = same_Some x s (sym (sym (ap (slice_get schedule.problem.loop.statements) now.0) ∙ g) ∙ there) in
            unmet w (sym (ap (λ n. write_of_instance schedule allotment memory.arrays n k x) now.0 ∙ ap (λ n. write_of_instance schedule allotment memory.arrays op n x) now.1 ∙ ap (write_of_instance schedule allotment memory.arrays op j) px) ∙ e) t
      ],
      same ∙ none.1,
    )

-- one instance more
take-in : (schedule : ScheduleData) (allotment : AllotmentData) (memory : MemoryData) (op j a i : ℕ) (s : Statement) → slice_get schedule.problem.loop.statements op ≡ Some s
    → (o : Option Write) → write_of_instance schedule allotment memory.arrays op j s ≡ o
    → cell (state_before schedule.problem.loop memory.arrays (suc op) j).arrays a i ≡ put o a i (cell (state_before schedule.problem.loop memory.arrays op j).arrays a i)
    → HoldsLast schedule allotment memory op j a i → HoldsLast schedule allotment memory (suc op) j a i
take-in schedule allotment memory op j a i s there None e same h =
    skip schedule allotment memory op j a i s there (λ w is _. let x : None ≡ Some w = sym e ∙ is in cc) same h
take-in schedule allotment memory op j a i s there (Some w) e same h =
    elim (cases_Bool (same_target w.target (InCell a i))) [
      | inl met ↦
          inl (
            w,
            record {
              store = op;
              stored_in = j;
              statement = s;
              is_statement = there;
              before = inr (refl, let l : op < suc op = omega arith in l);
              is_write = e;
              same_cell = target-from_same w.target (InCell a i) met;
              last = λ p k x v g f _ _. elim (before-cases p k op j f) [
                | inl old ↦ inr old
                | inr now ↦ inl now
              ];
            },
            same ∙ cond-true (same_target w.target (InCell a i)) w.value (cell (state_before schedule.problem.loop memory.arrays op j).arrays a i) met,
          )
      | inr unmet ↦
          skip schedule allotment memory op j a i s there
          (λ v is t.
          let x : Some w ≡ Some v = sym e ∙ is in
          let vw : w ≡ v = cc in
          true≢false (sym (same-self (InCell a i)) ∙ sym (ap (λ u. same_target u (InCell a i)) (ap (λ (u : Write). u.target) vw ∙ t)) ∙ unmet))
          (same ∙ cond-false (same_target w.target (InCell a i)) w.value (cell (state_before schedule.problem.loop memory.arrays op j).arrays a i) unmet) h
    ]

next-iteration : (schedule : ScheduleData) (allotment : AllotmentData) (memory : MemoryData) (j a i : ℕ)
    → HoldsLast schedule allotment memory (length schedule.problem.loop.statements) j a i → HoldsLast schedule allotment memory 0 (suc j) a i
next-iteration schedule allotment memory j a i (inl last) =
    let l = last.1 in
    let n : ℕ = length schedule.problem.loop.statements in
    inl (
      last.0,
      record {
        store = l.store;
        stored_in = l.stored_in;
        statement = l.statement;
        is_statement = l.is_statement;
        before = before-iteration_back l.store l.stored_in n j l.before;
        is_write = l.is_write;
        same_cell = l.same_cell;
        last = λ p k x w g f e t. l.last p k x w g (before-iteration p k n j (slice_get-within schedule.problem.loop.statements p x g) f) e t;
      },
      ap (λ x. cell x a i) (arrays-next schedule.problem.loop memory.arrays j) ∙ last.2,
    )
next-iteration schedule allotment memory j a i (inr none) =
    let n : ℕ = length schedule.problem.loop.statements in
    inr (
      λ p k x w g f e t. none.0 p k x w g (before-iteration p k n j (slice_get-within schedule.problem.loop.statements p x g) f) e t,
      ap (λ x. cell x a i) (arrays-next schedule.problem.loop memory.arrays j) ∙ none.1,
    )

abbrev Both : ScheduleData → AllotmentData → MemoryData → ℕ → ℕ → ℕ → ℕ → ℕ → ℕ → Type 0
Both schedule allotment memory count cells op j a i =
    HaveBlocks count cells (state_before schedule.problem.loop memory.arrays op j).arrays × HoldsLast schedule allotment memory op j a i

along : (schedule : ScheduleData) (allotment : AllotmentData) (memory : MemoryData) (count cells j a i : ℕ) → a < count → i < cells
    → Both schedule allotment memory count cells 0 j a i
    → (op : ℕ) → op ≤ length schedule.problem.loop.statements → Both schedule allotment memory count cells op j a i
along schedule allotment memory count cells j a i ha hi first zero le = first
along schedule allotment memory count cells j a i ha hi first (suc op) le =
    let before = along schedule allotment memory count cells j a i ha hi first op (omega arith) in
    let found = there-is schedule.problem.loop.statements op (omega arith) in (
      blocks-next schedule.problem.loop memory.arrays op j found.0 count cells found.1 before.0,
      take-in schedule allotment memory op j a i found.0 found.1 (write_of_instance schedule allotment memory.arrays op j found.0) refl
          (cell-next schedule allotment memory.arrays op j found.0 count cells a i found.1 before.0 ha hi) before.1,
    )

at-start : (schedule : ScheduleData) (allotment : AllotmentData) (memory : MemoryData) (count cells a i : ℕ) → HaveBlocks count cells memory.arrays → Both schedule allotment memory count cells 0 0 a i
unfolding state_before
at-start schedule allotment memory count cells a i h = (h, inr (λ p k s w g f e t. nothing-first p k f, refl))

pub holds-last : (schedule : ScheduleData) (allotment : AllotmentData) (memory : MemoryData) (count cells a i : ℕ) → a < count → i < cells → HaveBlocks count cells memory.arrays
    → (j op : ℕ) → op ≤ length schedule.problem.loop.statements → Both schedule allotment memory count cells op j a i
holds-last schedule allotment memory count cells a i ha hi h zero op le =
    along schedule allotment memory count cells 0 a i ha hi (at-start schedule allotment memory count cells a i h) op le
holds-last schedule allotment memory count cells a i ha hi h (suc j) op le =
    let n : ℕ = length schedule.problem.loop.statements in
    let before = holds-last schedule allotment memory count cells a i ha hi h j n (omega arith) in
    along schedule allotment memory count cells (suc j) a i ha hi
    (subst (HaveBlocks count cells) (sym (arrays-next schedule.problem.loop memory.arrays j)) before.0, next-iteration schedule allotment memory j a i before.1) op le
