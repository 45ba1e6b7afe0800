-- The memory at the end.
use Rattle.std.proofs.Common.{◌≡◌, ℕ, suc, zero, ◌+◌, ◌-◌, ◌*◌, ◌/◌, ◌%◌, ◌<◌, ◌≤◌, ◌||◌, Bool, true, false, eqb, List, [], ◌∷◌, length, get_or, map, Some, ℤ, pos, ◌+ℤ◌, ◌-ℤ◌, refl, sym, ap, ◌∙◌, subst, inl, inr, arith}
use Rattle.std.specs.Prelude.{slice_get, slice_index, is_some, ◌≤ℤ◌, nat_abs, neg_ℤ}
use Rattle.std.specs.List.{Contains, list_any}
use Rattle.std.proofs.lemmas.Bool.{eq-eqb}
use Rattle.std.proofs.lemmas.Int.{ints}
use Rattle.std.proofs.lemmas.List.{same_lists, get_or_default}
use Rattle.std.proofs.lemmas.List.Elements.{All-contains, Contains-get_or}
use Rattle.std.proofs.Math.Nat.{mul-add, lt-div-mul-add}
use Rattle.std.proofs.lemmas.Option.{same_Some}
use Rattle.loop_data.specs.declared.language.statement.Statement.{Statement}
use Rattle.loop_data.specs.Loops.{LoopData, GivesValue, HasInitial}
use Rattle.loop_data.specs.Run.{MemoryData, RunState, start, after_iterations, end_of, earlier_value, plain, cell_index}
use Rattle.graph.specs.Dependences.{ComesFirst}
use Rattle.graph.specs.Promises.{issue_of}
use Rattle.kernel.specs.declared.kernels.parts.Parts.{Parts}
use Rattle.kernel.specs.Overlapped.{InRegister, InCell, Write, physical, value_or, preloaded, last_of_all, all_writes, overlapped, turns_of, cells_after, arrays_left, out_after}
use Rattle.overlap.specs.Allotments.{AllotmentData, allotted_number}
use Rattle.overlap.specs.Lifetimes.{is_out, rank_of}
use Rattle.loop_schedules.specs.Schedules.{ScheduleData, IsSchedule, stages_of}
use Rattle.overlap.specs.Emission.{out_of, emitted}
use Rattle.overlap.specs.Sequence.{state_before, given_by, write_of_instance, sequence_before}
use Rattle.overlap.specs.Overlap.{IsRun, IsLastStore, OverlapIsSequence}
use Rattle.loop_data.proofs.InstanceCells.{HaveBlocks, cell, blocks-at}
use Rattle.overlap.proofs.in_flight.Issued.{issued-from_sequence, sequence-from_issued}
use Rattle.overlap.proofs.in_flight.Landing.{contains-cases, last-of_all_is, none-of_all}
use Rattle.overlap.proofs.in_cells.LastStores.{holds-last}
use Rattle.registers.proofs.Whole.{times-more}
use Rattle.overlap.proofs.in_registers.Lives.{greatest-of, contains-map, value-at_rank}
use Rattle.overlap.proofs.in_cells.Loads.{lands-first}
use Rattle.overlap.proofs.in_flight.Made.{writes-are_of_values}
use Rattle.loop_data.proofs.Instances.{arrays-first, earlier-at, initial-at, slice_get-within}
use Rattle.overlap.proofs.in_registers.Preloaded.{preloaded-is}
use Rattle.overlap.proofs.in_registers.OfSchedule.{run_of, is-run, rank-within, value-is}
use Rattle.overlap.proofs.in_registers.Registers.{made-write, lands-before, rank-destination}
use Rattle.registers.specs.declared.value.Value.{Value}
use Rattle.instances.specs.Runs.{StandsIn, destination}
use Rattle.instances.proofs.Lives.{if-on}
use Rattle.instances.proofs.Standing.{ends-hold_last}
use Rattle.instances.proofs.Turned.{physical-wrapped, physical-later}
use Rattle.overlap.specs.LoopValues as overlap
use Rattle.overlap.proofs.in_flight.Values.{map-same, map-map, blocks-of}
use Rattle.overlap.proofs.in_flight.Writes.{makes-value}

-- each instance is issued before the last turn ends

stage-early : (schedule : ScheduleData) → IsSchedule schedule → (q : ℕ) (s : Statement) → slice_get schedule.problem.loop.statements q ≡ Some s
    → slice_index schedule.times q < schedule.ii * stages_of schedule
stage-early schedule sc q s there =
    let ii : ℕ = schedule.ii in
    let within = slice_get-within schedule.problem.loop.statements q s there in
    let many = sc.problem.each_operation in
    let times = sc.lawful.plan.each_time in
    let time : ℕ = slice_index schedule.times q in
    let g = greatest-of (map (λ t. t / ii) schedule.times) (time / ii) (contains-map (λ t. t / ii) schedule.times time (Contains-get_or schedule.times q 0 (omega arith))) in
    let some : 0 < ii = sc.ii_some in
    let l : time < time / ii * ii + ii = lt-div-mul-add some in
    let m : ii * stages_of schedule ≡ ii * (time / ii + 1) + ii * (stages_of schedule - (time / ii + 1)) = times-more ii (time / ii + 1) (stages_of schedule) (omega arith) in
    let n : ii * (time / ii + 1) ≡ ii * (time / ii) + ii * 1 = mul-add ii (time / ii) 1 in
    omega arith

abbrev cycles : ScheduleData → AllotmentData → ℕ → ℕ
cycles schedule allotment trip = turns_of (emitted schedule allotment) trip * schedule.ii

issued-early : (schedule : ScheduleData) (allotment : AllotmentData) → IsSchedule schedule → (trip q j : ℕ) (s : Statement) → slice_get schedule.problem.loop.statements q ≡ Some s → j < trip
    → issue_of schedule.ii schedule.times q j < cycles schedule allotment trip
unfolding emitted
issued-early schedule allotment sc zero q j s there h = absurd (omega arith)
issued-early schedule allotment sc (suc n) q j s there h =
    let ii : ℕ = schedule.ii in
    let e = stage-early schedule sc q s there in
    let turns : suc n + stages_of schedule - 1 ≡ n + stages_of schedule = omega arith in
    let m : ii * (n + stages_of schedule) ≡ ii * n + ii * stages_of schedule = mul-add ii n (stages_of schedule) in
    let k : ii * n ≡ ii * j + ii * (n - j) = times-more ii j n (omega arith) in
    let c : (suc n + stages_of schedule - 1) * ii ≡ ii * (n + stages_of schedule) = ap (λ t. t * ii) turns ∙ (let x : (n + stages_of schedule) * ii ≡ ii * (n + stages_of schedule) = omega arith in x) in
    omega arith

-- cells

before-end : (p k n : ℕ) → ComesFirst p k 0 n → k < n
before-end p k n (inl less) = less
before-end p k n (inr same) = absurd (let l = same.1 in omega arith)

cell-end : (schedule : ScheduleData) (allotment : AllotmentData) (memory : MemoryData) → IsRun schedule allotment memory
    → (a i : ℕ) → a < length memory.arrays → i < memory.trip + 128
    → value_or (last_of_all (sequence_before schedule allotment memory (cycles schedule allotment memory.trip)) (InCell a i)) (cell memory.arrays a i)
    ≡ cell (after_iterations schedule.problem.loop memory.trip (start memory.arrays)).arrays a i
cell-end schedule allotment memory r a i ha hi =
    let loop = schedule.problem.loop in
    let sc = r.belong.scheduled in
    let some : 0 < schedule.ii = sc.ii_some in
    let final : ℕ = cycles schedule allotment memory.trip in
    let issued : List Write = sequence_before schedule allotment memory final in
    let opening : ℤ = cell memory.arrays a i in
    let c : ℤ = pos i -ℤ pos 64 in
    let back : (c +ℤ pos 64) ≡ pos i = omega (arith, ints) in
    let index : cell_index c ≡ i = ap nat_abs back in
    let low : neg_ℤ (pos 64) ≤ℤ c = omega (arith, ints) in
    let h = holds-last schedule allotment memory (length memory.arrays) (memory.trip + 128) a i ha hi (blocks-of loop memory r.is_memory r.shape) memory.trip 0 (omega arith) in
    let state : (state_before loop memory.arrays 0 memory.trip).arrays ≡ (after_iterations loop memory.trip (start memory.arrays)).arrays = arrays-first loop memory.arrays memory.trip in
    elim h.1 [
      | inl found ↦
          let w : Write = found.0 in
          let last : IsLastStore schedule allotment memory 0 memory.trip a i w = found.1 in
          let within : last.stored_in < memory.trip = before-end last.store last.stored_in memory.trip last.before in
          let there : Contains issued w = sequence-from_issued schedule allotment memory final w some last.store last.stored_in last.statement last.is_statement within
          (issued-early schedule allotment sc memory.trip last.store last.stored_in last.statement last.is_statement within) last.is_write in
          ap (λ t. value_or (last_of_all issued t) opening) (sym last.same_cell)
          ∙ ap (λ o. value_or o opening) (last-of_all_is issued w there (λ v d t.
          let is = issued-from_sequence schedule allotment memory final v d in
          let target : v.target ≡ InCell a i = t ∙ last.same_cell in
          elim (last.last is.op is.iteration is.statement v is.is_statement (inl is.within) is.is_write target) [
            | inl same ↦
                let x : is.statement ≡ last.statement = same_Some is.statement last.statement (sym is.is_statement ∙ ap (slice_get loop.statements) same.0 ∙ last.is_statement) in
                inl (same_Some v w (sym is.is_write
                ∙ ap (λ n. write_of_instance schedule allotment memory.arrays n is.iteration is.statement) same.0
                ∙ ap (λ n. write_of_instance schedule allotment memory.arrays last.store n is.statement) same.1
                ∙ ap (write_of_instance schedule allotment memory.arrays last.store last.stored_in) x ∙ last.is_write))
            | inr o ↦ inr (lands-first schedule allotment memory sc a c low is.op is.iteration last.store last.stored_in is.statement last.statement v w is.is_statement last.is_statement is.is_write last.is_write
                (target ∙ ap (InCell a) (sym index)) (last.same_cell ∙ ap (InCell a) (sym index)) o)
          ]))
          ∙ sym found.2 ∙ ap (λ x. cell x a i) state
      | inr none ↦
          ap (λ o. value_or o opening) (none-of_all issued (InCell a i) (λ v d t.
          let is = issued-from_sequence schedule allotment memory final v d in
          none.0 is.op is.iteration is.statement v is.is_statement (inl is.within) is.is_write t))
          ∙ sym none.1 ∙ ap (λ x. cell x a i) state
    ]

-- lists of cells

cells-at : (issued : List Write) (a n : ℕ) (cells : List ℤ) (k : ℕ) (d : ℤ) → k < length cells
    → get_or (cells_after issued a n cells) k d ≡ value_or (last_of_all issued (InCell a (n + k))) (get_or cells k d)
cells-at issued a n [] k d h = absurd (omega arith)
cells-at issued a n (c ∷ cells) zero d h = ap (λ i. value_or (last_of_all issued (InCell a i)) c) (let e : n ≡ n + 0 = omega arith in e)
cells-at issued a n (c ∷ cells) (suc k) d h =
    cells-at issued a (n + 1) cells k d (omega arith)
    ∙ ap (λ i. value_or (last_of_all issued (InCell a i)) (get_or cells k d)) (let e : (n + 1) + k ≡ n + suc k = omega arith in e)

length-cells : (issued : List Write) (a n : ℕ) (cells : List ℤ) → length (cells_after issued a n cells) ≡ length cells
length-cells issued a n [] = refl
length-cells issued a n (c ∷ cells) = ap suc (length-cells issued a (n + 1) cells)

array-at : (issued : List Write) (n : ℕ) (arrays : List (List ℤ)) (k : ℕ) → k < length arrays → get_or (arrays_left issued n arrays) k [] ≡ cells_after issued (n + k) 0 (get_or arrays k [])
array-at issued n [] k h = absurd (omega arith)
array-at issued n (cells ∷ arrays) zero h = ap (λ i. cells_after issued i 0 cells) (let e : n ≡ n + 0 = omega arith in e)
array-at issued n (cells ∷ arrays) (suc k) h =
    array-at issued (n + 1) arrays k (omega arith) ∙ ap (λ i. cells_after issued i 0 (get_or arrays k [])) (let e : (n + 1) + k ≡ n + suc k = omega arith in e)

length-arrays_left : (issued : List Write) (n : ℕ) (arrays : List (List ℤ)) → length (arrays_left issued n arrays) ≡ length arrays
length-arrays_left issued n [] = refl
length-arrays_left issued n (cells ∷ arrays) = ap suc (length-arrays_left issued (n + 1) arrays)

blocks-end : (schedule : ScheduleData) (allotment : AllotmentData) (memory : MemoryData) → IsRun schedule allotment memory
    → HaveBlocks (length memory.arrays) (memory.trip + 128) (after_iterations schedule.problem.loop memory.trip (start memory.arrays)).arrays
blocks-end schedule allotment memory r =
    let loop = schedule.problem.loop in
    subst (HaveBlocks (length memory.arrays) (memory.trip + 128)) (arrays-first loop memory.arrays memory.trip)
    (blocks-at schedule.problem.loop memory.arrays (length memory.arrays) (memory.trip + 128) (blocks-of loop memory r.is_memory r.shape) memory.trip 0 (omega arith))

arrays-end : (schedule : ScheduleData) (allotment : AllotmentData) (memory : MemoryData) → IsRun schedule allotment memory
    → arrays_left (sequence_before schedule allotment memory (cycles schedule allotment memory.trip)) 0 memory.arrays
    ≡ (after_iterations schedule.problem.loop memory.trip (start memory.arrays)).arrays
arrays-end schedule allotment memory r =
    let loop = schedule.problem.loop in
    let issued : List Write = sequence_before schedule allotment memory (cycles schedule allotment memory.trip) in
    let after : List (List ℤ) = (after_iterations loop memory.trip (start memory.arrays)).arrays in
    let before = blocks-of loop memory r.is_memory r.shape in
    let zeroes : 0 < memory.trip + 128 = omega arith in
    let blocks : HaveBlocks (length memory.arrays) (memory.trip + 128) after
    = blocks-end schedule allotment memory r in
    same_lists (arrays_left issued 0 memory.arrays) after (length-arrays_left issued 0 memory.arrays ∙ sym blocks.many) (λ k d h.
    let hk : k < length memory.arrays = let e = length-arrays_left issued 0 memory.arrays in omega arith in
    let z : 0 + k ≡ k = omega arith in
    let one : get_or (arrays_left issued 0 memory.arrays) k d ≡ cells_after issued k 0 (get_or memory.arrays k [])
    = get_or_default (arrays_left issued 0 memory.arrays) k d [] h ∙ array-at issued 0 memory.arrays k hk ∙ ap (λ i. cells_after issued i 0 (get_or memory.arrays k [])) z in
    let two : get_or after k d ≡ get_or after k [] = get_or_default after k d [] (let e = blocks.many in omega arith) in
    let long : length (get_or memory.arrays k []) ≡ memory.trip + 128 = before.long k hk in
    let length_one : length (cells_after issued k 0 (get_or memory.arrays k [])) ≡ memory.trip + 128 = length-cells issued k 0 (get_or memory.arrays k []) ∙ long in
    one
    ∙ same_lists (cells_after issued k 0 (get_or memory.arrays k [])) (get_or after k []) (length_one ∙ sym (blocks.long k hk)) (λ i e hi.
    let within : i < memory.trip + 128 = omega arith in
    let y : 0 + i ≡ i = omega arith in
    get_or_default (cells_after issued k 0 (get_or memory.arrays k [])) i e (pos 0) hi
    ∙ cells-at issued k 0 (get_or memory.arrays k []) i (pos 0) (omega arith)
    ∙ ap (λ n. value_or (last_of_all issued (InCell k n)) (cell memory.arrays k i)) y
    ∙ cell-end schedule allotment memory r k i hk within
    ∙ sym (get_or_default (get_or after k []) i e (pos 0) (let b = blocks.long k hk in omega arith)))
    ∙ sym two)

-- live values

or-true : (b : Bool) → (b || true) ≡ true
or-true true = refl
or-true false = refl

any-there : (xs : List ℕ) (x : ℕ) → Contains xs x → list_any (λ o. eqb o x) xs ≡ true
any-there [] x c = absurd (let l = c.1 in omega arith)
any-there (y ∷ xs) x c = elim (contains-cases y xs x c) [
  | inl e ↦ ap (λ b. b || list_any (λ o. eqb o x) xs) (eq-eqb y x e)
  | inr d ↦ ap (λ b. eqb y x || b) (any-there xs x d) ∙ or-true (eqb y x)
]

-- the register of a live value is that of its last instance
out-name : (registers number stages trip : ℕ) → 0 < registers → 1 ≤ stages
    → physical registers ((number + 0 + (stages - 1)) % registers) (pos (trip + stages) -ℤ pos 2) ≡ physical registers number (pos trip -ℤ pos 1)
out-name registers number stages trip some one =
    physical-wrapped registers (number + 0 + (stages - 1)) (pos (trip + stages) -ℤ pos 2) some
    ∙ ap (λ n. physical registers n (pos (trip + stages) -ℤ pos 2)) (let e : number + 0 + (stages - 1) ≡ number + (stages - 1) = omega arith in e)
    ∙ ap (λ z. physical registers (number + (stages - 1)) z) (let e : (pos (trip + stages) -ℤ pos 2) ≡ ((pos trip -ℤ pos 1) +ℤ pos (stages - 1)) = omega (arith, ints) in e)
    ∙ physical-later registers number (stages - 1) (pos trip -ℤ pos 1) some

-- at the end it holds the value of the last iteration
out-lands : (schedule : ScheduleData) (allotment : AllotmentData) (memory : MemoryData) → IsRun schedule allotment memory
    → (x k : ℕ) (s : Statement) → slice_get schedule.problem.loop.statements x ≡ Some s → is_some s.name ≡ true → is_out schedule.problem.loop x ≡ true → memory.trip ≡ suc k
    → last_of_all (sequence_before schedule allotment memory (cycles schedule allotment memory.trip)) (InRegister (physical allotment.registers (allotted_number schedule.problem.loop allotment x) (pos k)))
    ≡ write_of_instance schedule allotment memory.arrays x k s
out-lands schedule allotment memory r x k s there named out trip =
    let loop = schedule.problem.loop in
    let sc = r.belong.scheduled in
    let ii : ℕ = schedule.ii in
    let some : 0 < ii = sc.ii_some in
    let final : ℕ = cycles schedule allotment memory.trip in
    let issued : List Write = sequence_before schedule allotment memory final in
    let shape = (sc.problem.loop.each x s there).shape in
    let w : Write = made-write schedule allotment memory x k s in
    let is_write : write_of_instance schedule allotment memory.arrays x k s ≡ Some w = makes-value schedule allotment memory.arrays x k s shape named in
    let c : Contains issued w = sequence-from_issued schedule allotment memory final w some x k s there (omega arith) (issued-early schedule allotment sc memory.trip x k s there (omega arith)) is_write in
    let rank : ℕ = rank_of loop x in
    let is = is-run schedule allotment r.belong in
    let value = value-is schedule allotment r.belong rank x (value-at_rank loop x s there named) in
    let last : memory.trip - 1 ≡ k = omega arith in
    last-of_all_is issued w c (λ v d t.
    let by : ℕ = overlap.end_of schedule + ii * (memory.trip - 1) + v.start in
    let stands = (ends-hold_last (run_of schedule allotment) memory.trip is rank by (rank-within schedule allotment r.belong x s there named) (ap (λ (y : Value). y.out) value ∙ out)).0 (omega arith) (omega arith) in
    lands-before schedule allotment memory r x s there named final by k
    (subst (λ p. StandsIn (run_of schedule allotment) memory.trip p by rank k) (rank-destination schedule allotment memory r x s there named k)
    (subst (λ n. StandsIn (run_of schedule allotment) memory.trip (destination (run_of schedule allotment) rank n) by rank n) last stands)) v d t (omega arith))
    ∙ sym is_write

named-in : (loop : LoopData) (x : ℕ) → GivesValue loop x → (s : Statement) × (slice_get loop.statements x ≡ Some s) × (is_some s.name ≡ true)
named-in loop x g = (g.0, g.1, g.2)

out-same : (schedule : ScheduleData) (allotment : AllotmentData) (memory : MemoryData) → IsRun schedule allotment memory
    → (trip : ℕ) → memory.trip ≡ trip → (x : ℕ) → Contains schedule.problem.loop.outs x
    → value_or (last_of_all (sequence_before schedule allotment memory (cycles schedule allotment memory.trip)) (InRegister (physical allotment.registers (allotted_number schedule.problem.loop allotment x) (pos trip -ℤ pos 1))))
    (preloaded (emitted schedule allotment) (physical allotment.registers (allotted_number schedule.problem.loop allotment x) (pos trip -ℤ pos 1)))
    ≡ earlier_value schedule.problem.loop (after_iterations schedule.problem.loop trip (start memory.arrays)).history x 1
out-same schedule allotment memory r zero none x c =
    let loop = schedule.problem.loop in
    let sc = r.belong.scheduled in
    let gives = named-in loop x (All-contains (λ o. GivesValue loop o × HasInitial loop o 1) loop.outs x sc.problem.loop.outs c).0 in
    let out : is_out loop x ≡ true = any-there loop.outs x c in
    let flag = if-on (is_out loop x) 1 out in
    let register : ℕ = physical allotment.registers (allotted_number loop allotment x) (pos 0 -ℤ pos 1) in
    ap (λ o. value_or o (preloaded (emitted schedule allotment) register)) (none-of_all (sequence_before schedule allotment memory (cycles schedule allotment memory.trip)) (InRegister register) (λ v d t.
    let is = issued-from_sequence schedule allotment memory (cycles schedule allotment memory.trip) v d in
    let w = is.within in absurd (omega arith)))
    ∙ preloaded-is schedule allotment r.belong x 1 gives.0 gives.1 gives.2 (omega arith) (omega arith)
    ∙ sym (initial-at loop memory.arrays x 0 1 (omega arith))
out-same schedule allotment memory r (suc k) trip x c =
    let loop = schedule.problem.loop in
    let sc = r.belong.scheduled in
    let gives = named-in loop x (All-contains (λ o. GivesValue loop o × HasInitial loop o 1) loop.outs x sc.problem.loop.outs c).0 in
    let out : is_out loop x ≡ true = any-there loop.outs x c in
    let shape = (sc.problem.loop.each x gives.0 gives.1).shape in
    let issued : List Write = sequence_before schedule allotment memory (cycles schedule allotment memory.trip) in
    let e : (pos (suc k) -ℤ pos 1) ≡ pos k = omega (arith, ints) in
    let at : ℤ → ℤ = λ z. value_or (last_of_all issued (InRegister (physical allotment.registers (allotted_number loop allotment x) z))) (preloaded (emitted schedule allotment) (physical allotment.registers (allotted_number loop allotment x) z)) in
    ap at e
    ∙ ap (λ o. value_or o (preloaded (emitted schedule allotment) (physical allotment.registers (allotted_number loop allotment x) (pos k))))
    (out-lands schedule allotment memory r x k gives.0 gives.1 gives.2 out trip ∙ makes-value schedule allotment memory.arrays x k gives.0 shape gives.2)
    ∙ ap (λ n. given_by loop memory.arrays x n gives.0) (let z : k ≡ suc k - 1 = omega arith in z)
    ∙ sym (earlier-at loop memory.arrays x (suc k) 1 gives.0 gives.1 (omega arith) (omega arith))

out-end : (schedule : ScheduleData) (allotment : AllotmentData) (memory : MemoryData) → IsRun schedule allotment memory
    → (x : ℕ) → Contains schedule.problem.loop.outs x
    → out_after (emitted schedule allotment) memory.trip (sequence_before schedule allotment memory (cycles schedule allotment memory.trip)) (out_of schedule allotment x)
    ≡ earlier_value schedule.problem.loop (after_iterations schedule.problem.loop memory.trip (start memory.arrays)).history x 1
unfolding emitted
out-end schedule allotment memory r x c =
    let issued : List Write = sequence_before schedule allotment memory (cycles schedule allotment memory.trip) in
    ap (λ n. value_or (last_of_all issued (InRegister n)) (preloaded (emitted schedule allotment) n))
    (out-name allotment.registers (allotted_number schedule.problem.loop allotment x) (stages_of schedule) memory.trip r.belong.allotted.some (omega arith))
    ∙ out-same schedule allotment memory r memory.trip refl x c

whole : ℕ → List (List ℤ) → List ℤ → MemoryData
whole trip arrays outs = record { trip = trip; arrays = arrays; outs = outs }

pub overlap-is_sequence : OverlapIsSequence
unfolding emitted overlapped all_writes plain end_of whole
overlap-is_sequence schedule allotment memory r =
    let loop = schedule.problem.loop in
    let parts : Parts = emitted schedule allotment in
    let final : ℕ = cycles schedule allotment memory.trip in
    let issued : List Write = sequence_before schedule allotment memory final in
    let end : RunState = after_iterations loop memory.trip (start memory.arrays) in
    ap (λ w. whole memory.trip (arrays_left w 0 memory.arrays) (map (out_after parts memory.trip w) parts.outs)) (writes-are_of_values schedule allotment memory r final)
    ∙ ap (λ a. whole memory.trip a (map (out_after parts memory.trip issued) parts.outs)) (arrays-end schedule allotment memory r)
    ∙ ap (whole memory.trip end.arrays) (map-map (out_after parts memory.trip issued) (out_of schedule allotment) loop.outs
    ∙ map-same (λ x. out_after parts memory.trip issued (out_of schedule allotment x)) (λ x. earlier_value loop end.history x 1) loop.outs (λ x c. out-end schedule allotment memory r x c))
