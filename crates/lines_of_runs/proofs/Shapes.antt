-- The shapes of the memories before and after a plain run.
use Rattle.std.proofs.Common.{◌≡◌, ◌≤◌, ℕ, zero, suc, ℤ, Bool, true, false, List, [], ◌∷◌, length, Option, Some, None, refl, ◌∙◌}
use Rattle.std.specs.Prelude.{if◌then◌else◌}
use Rattle.std.proofs.lemmas.List.{length-map, length-set}
use Rattle.machine_data.specs.declared.opcode.Opcode.{Opcode}
use Rattle.machine_data.specs.declared.opcode.Opcode.TheVariants.{Load, Store, Add, Sub, Mul, And, Or, Xor, Min, Max, Lt, Sel, Mov}
use Rattle.loop_data.specs.declared.language.statement.Place.{Place}
use Rattle.loop_data.specs.declared.language.statement.Statement.{Statement}
use Rattle.loop_data.specs.Loops.{LoopData}
use Rattle.loop_data.specs.Run.{HasShapeOf, IsMemory, MemoryData, RunState, after_iteration, after_iterations, after_statement, after_statements, arrays_after, end_of, opening_of, plain, start, writes}
use Rattle.loop_data.proofs.Openings.{opening_long, opening_shape}

either : (b : Bool) (xs ys : List (List ℤ)) → length xs ≡ length ys → length (if b then xs else ys) ≡ length ys
either true xs ys h = h
either false xs ys h = refl

-- a store keeps the number of arrays, and so does every other statement
arrays_after-many : (state : RunState) (opcode : Opcode) (place : Option Place) (operands : List ℤ) → length (arrays_after state opcode place operands) ≡ length state.arrays
arrays_after-many state Store None operands = refl
arrays_after-many state Store (Some place) operands = either (writes operands) _ _ (length-set state.arrays place.array _)
arrays_after-many state Load place operands = refl
arrays_after-many state Add place operands = refl
arrays_after-many state Sub place operands = refl
arrays_after-many state Mul place operands = refl
arrays_after-many state And place operands = refl
arrays_after-many state Or place operands = refl
arrays_after-many state Xor place operands = refl
arrays_after-many state Min place operands = refl
arrays_after-many state Max place operands = refl
arrays_after-many state Lt place operands = refl
arrays_after-many state Sel place operands = refl
arrays_after-many state Mov place operands = refl

after_statement-many : (loop : LoopData) (state : RunState) (s : Statement) → length (after_statement loop state s).arrays ≡ length state.arrays
unfolding after_statement
after_statement-many loop state s = arrays_after-many state s.opcode s.place _

after_statements-many : (loop : LoopData) (state : RunState) (statements : List Statement) → length (after_statements loop state statements).arrays ≡ length state.arrays
after_statements-many loop state [] = refl
after_statements-many loop state (s ∷ statements) = after_statements-many loop (after_statement loop state s) statements ∙ after_statement-many loop state s

after_iteration-many : (loop : LoopData) (state : RunState) → length (after_iteration loop state).arrays ≡ length state.arrays
unfolding after_iteration
after_iteration-many loop state = after_statements-many loop state loop.statements

after_iterations-many : (loop : LoopData) (n : ℕ) (state : RunState) → length (after_iterations loop n state).arrays ≡ length state.arrays
after_iterations-many loop zero state = refl
after_iterations-many loop (suc n) state = after_iteration-many loop (after_iterations loop n state) ∙ after_iterations-many loop n state

plain-many : (loop : LoopData) (memory : MemoryData) → length (plain loop memory).arrays ≡ length memory.arrays
unfolding plain end_of
plain-many loop memory = after_iterations-many loop memory.trip (start memory.arrays)

plain-outs : (loop : LoopData) (memory : MemoryData) → length (plain loop memory).outs ≡ length loop.outs
unfolding plain
plain-outs loop memory = length-map loop.outs _

-- the memory before the first iteration
pub opening_trip : (loop : LoopData) (trip : ℕ) → (opening_of loop trip).trip ≡ trip
unfolding opening_of
opening_trip loop trip = refl

pub opening_memory : (loop : LoopData) (trip : ℕ) → trip ≤ 100000 → IsMemory (opening_of loop trip)
unfolding opening_of
opening_memory loop trip few = record { trips = few; cells = opening_long trip loop.arrays }

-- the memory after a plain run has the loop's shape, as the one before it has
pub plain_shape : (loop : LoopData) (trip : ℕ) → HasShapeOf loop (plain loop (opening_of loop trip))
plain_shape loop trip = record {
  same_arrays = plain-many loop (opening_of loop trip) ∙ (opening_shape loop trip).same_arrays;
  same_outs = plain-outs loop (opening_of loop trip);
}

-- and its trip count
pub plain_trip : (loop : LoopData) (memory : MemoryData) → (plain loop memory).trip ≡ memory.trip
unfolding plain
plain_trip loop memory = refl
