-- Answers for a text, from answers for the same text.
use Rattle.std.proofs.Common.{List}
use Rattle.std.specs.Prelude.{Option, Result, Ok, Err, ℕ}
use Rattle.machine.specs.Opcode.{Opcode}
use Rattle.reader_faults.specs.declared.loops.LoopFault.{LoopFault}
use Rattle.loop_data.specs.Loops.{LoopData}
use Rattle.file_faults.specs.Answers.{AnswersLoops}
use Rattle.file_faults.proofs.Answering.{on_more, on_ok}

abbrev Lacking : Type 0
Lacking = Option (List ℕ × Opcode)

-- what follows from what is right
pub right_more : {A B : Type 0} (F : List LoopData → A → Type 0) (G : List LoopData → B → Type 0) (lacking : List LoopData → Lacking) (loops : Result (List LoopData) LoopFault) (x : A) (y : B)
    → ((xs : List LoopData) → F xs x → G xs y) → AnswersLoops F lacking loops (Ok x) → AnswersLoops G lacking loops (Ok y)
right_more F G lacking (Err e) x y more a = cc
right_more F G lacking (Ok xs) x y more a = on_more (F xs) (G xs) (lacking xs) x y (more xs) a

-- what holds where something is right
pub right_gives : {A : Type 0} (F : List LoopData → A → Type 0) (lacking : List LoopData → Lacking) (loops : Result (List LoopData) LoopFault) (x : A) (P : Type 0)
    → ((xs : List LoopData) → F xs x → P) → AnswersLoops F lacking loops (Ok x) → P
right_gives F lacking (Err e) x P f a = cc
right_gives F lacking (Ok xs) x P f a = f xs (on_ok (F xs) (lacking xs) x a).1
