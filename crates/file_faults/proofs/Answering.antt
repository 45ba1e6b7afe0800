-- Answers for texts from those of their parts.
use Rattle.std.proofs.Common.{◌≡◌, ℕ, List, refl, sym, subst}
use Rattle.std.specs.Prelude.{Option, Some, None, Result, Ok, Err}
use Rattle.reader_faults.specs.declared.machine.MachineFault.{MachineFault}
use Rattle.reader_faults.specs.declared.machine.MachineFault.TheVariants as machine_fault
use Rattle.machine_data.specs.declared.opcode.Opcode.{Opcode}
use Rattle.reader_faults.specs.MachineFaults.{MachineAnswer}
use Rattle.machine_data.specs.Machines.{MachineData}
use Rattle.reader_faults.specs.declared.loops.LoopFault.{LoopFault}
use Rattle.reader_faults.specs.declared.loops.LoopFaultKind.{LoopFaultKind}
use Rattle.reader_faults.specs.declared.loops.LoopFaultKind.TheVariants as kind
use Rattle.loop_data.specs.Loops.{LoopData}
use Rattle.reader_faults.specs.LoopFaults.{AnswersFault, LoopsAnswer}
use Rattle.graph.specs.Units.{first_lacking}
use Rattle.lower_bounds.specs.Faults.{TextAnswers}
use Rattle.lower_bounds.specs.declared.fault.TextFault.{TextFault}
use Rattle.lower_bounds.specs.declared.fault.TextFault.TheVariants as text
use Rattle.file_faults.specs.declared.fault.FileFault.{FileFault}
use Rattle.file_faults.specs.declared.fault.FileFault.TheVariants.{Machine, Loops, NoTable, Memory}
use Rattle.file_faults.specs.Answers.{AnswersFile, AnswersIn, AnswersLoops, AnswersOn}
use Rattle.file_faults.specs.Faults.{of_kind, of_loops, of_machine, of_text}

abbrev Lacking : Type 0
Lacking = Option (List ℕ × Opcode)

module _ {A : Type 0} where
  -- the machine's text is accepted, or refused
  pub file_of : (F : MachineData → List LoopData → A → Type 0) (m : MachineData) (meaning : Result MachineData MachineFault) (ls : Result (List LoopData) LoopFault) (answer : Result A FileFault)
      → Ok m ≡ meaning → AnswersIn (F m) m ls answer → AnswersFile F meaning ls answer
  file_of F m meaning ls answer is a = subst (λ x. AnswersFile F x ls answer) is (go answer a)
    where
      go : (answer : Result A FileFault) → AnswersIn (F m) m ls answer → AnswersFile F (Ok m) ls answer
      go (Ok x) a = a
      go (Err (Machine f)) a = a
      go (Err (Loops f)) a = a
      go (Err (NoTable n o)) a = a
      go (Err Memory) a = tt

  pub file_refused : (F : MachineData → List LoopData → A → Type 0) (fault : MachineFault) (meaning : Result MachineData MachineFault) (ls : Result (List LoopData) LoopFault)
      → MachineAnswer {A = MachineData} (Err fault) meaning → AnswersFile F meaning ls (Err (of_machine fault))
  file_refused F machine_fault.Memory meaning ls a = tt
  file_refused F fault meaning ls a = subst (λ m. AnswersFile F m ls (Err (Machine fault))) a refl

  -- the loops' text is accepted, or refused
  pub loops_of : (F : List LoopData → A → Type 0) (lacking : List LoopData → Lacking) (xs : List LoopData) (meaning : Result (List LoopData) LoopFault) (answer : Result A FileFault)
      → Ok xs ≡ meaning → AnswersOn (F xs) (lacking xs) answer → AnswersLoops F lacking meaning answer
  loops_of F lacking xs meaning answer is a = subst (λ x. AnswersLoops F lacking x answer) is (go answer a)
    where
      go : (answer : Result A FileFault) → AnswersOn (F xs) (lacking xs) answer → AnswersLoops F lacking (Ok xs) answer
      go (Ok x) a = a
      go (Err (Machine f)) a = a
      go (Err (Loops f)) a = a
      go (Err (NoTable n o)) a = a
      go (Err Memory) a = tt

  loops_refused_at : (F : List LoopData → A → Type 0) (lacking : List LoopData → Lacking) (fault : LoopFault) (kind : LoopFaultKind) (meaning : Result (List LoopData) LoopFault)
      → AnswersFault {A = List LoopData} kind fault meaning → AnswersLoops F lacking meaning (Err (of_kind kind fault))
  loops_refused_at F lacking fault kind.Memory meaning a = tt
  loops_refused_at F lacking fault kind meaning a = subst (λ ls. AnswersLoops F lacking ls (Err (Loops fault))) a refl

  pub loops_refused : (F : List LoopData → A → Type 0) (lacking : List LoopData → Lacking) (fault : LoopFault) (meaning : Result (List LoopData) LoopFault)
      → LoopsAnswer {A = List LoopData} (Err fault) meaning → AnswersLoops F lacking meaning (Err (of_loops fault))
  loops_refused F lacking fault meaning a = loops_refused_at F lacking fault fault.kind meaning a

  -- what is answered is right, and nothing is lacking
  pub on_ok : (P : A → Type 0) (lacking : Lacking) (x : A) → AnswersOn P lacking (Ok x) → (lacking ≡ None) × P x
  on_ok P None x a = (refl, a)
  on_ok P (Some l) x a = cc

  pub on_none : (P : A → Type 0) (lacking : Lacking) (x : A) → lacking ≡ None → P x → AnswersOn P lacking (Ok x)
  on_none P lacking x is holds = subst (λ o. AnswersOn P o (Ok x)) (sym is) holds

module _ {A B : Type 0} where
  -- what follows from what is right
  pub on_more : (P : A → Type 0) (Q : B → Type 0) (lacking : Lacking) (x : A) (y : B) → (P x → Q y) → AnswersOn P lacking (Ok x) → AnswersOn Q lacking (Ok y)
  on_more P Q None x y more a = more a
  on_more P Q (Some l) x y more a = cc

  -- a fault stays one, whatever is right
  pub on_err : (P : A → Type 0) (Q : B → Type 0) (lacking : Lacking) (fault : FileFault) → AnswersOn P lacking (Err fault) → AnswersOn Q lacking (Err fault)
  on_err P Q lacking Memory a = tt
  on_err P Q None (Machine f) a = absurd a
  on_err P Q None (Loops f) a = absurd a
  on_err P Q None (NoTable n o) a = absurd a
  on_err P Q (Some l) (Machine f) a = cc
  on_err P Q (Some l) (Loops f) a = cc
  on_err P Q (Some l) (NoTable n o) a = cc

  loops_err : (F : List LoopData → A → Type 0) (G : List LoopData → B → Type 0) (lacking : List LoopData → Lacking) (ls : Result (List LoopData) LoopFault) (fault : FileFault)
      → AnswersLoops F lacking ls (Err fault) → AnswersLoops G lacking ls (Err fault)
  loops_err F G lacking ls Memory a = tt
  loops_err F G lacking (Err e) (Machine f) a = cc
  loops_err F G lacking (Err e) (Loops f) a = cc
  loops_err F G lacking (Err e) (NoTable n o) a = cc
  loops_err F G lacking (Ok xs) (Machine f) a = on_err (F xs) (G xs) (lacking xs) (Machine f) a
  loops_err F G lacking (Ok xs) (Loops f) a = on_err (F xs) (G xs) (lacking xs) (Loops f) a
  loops_err F G lacking (Ok xs) (NoTable n o) a = on_err (F xs) (G xs) (lacking xs) (NoTable n o) a

  pub file_err : (F : MachineData → List LoopData → A → Type 0) (G : MachineData → List LoopData → B → Type 0) (m : Result MachineData MachineFault) (ls : Result (List LoopData) LoopFault) (fault : FileFault)
      → AnswersFile F m ls (Err fault) → AnswersFile G m ls (Err fault)
  file_err F G m ls Memory a = tt
  file_err F G (Err e) ls (Machine f) a = cc
  file_err F G (Err e) ls (Loops f) a = cc
  file_err F G (Err e) ls (NoTable n o) a = cc
  file_err F G (Ok m) ls (Machine f) a = loops_err (F m) (G m) (first_lacking m) ls (Machine f) a
  file_err F G (Ok m) ls (Loops f) a = loops_err (F m) (G m) (first_lacking m) ls (Loops f) a
  file_err F G (Ok m) ls (NoTable n o) a = loops_err (F m) (G m) (first_lacking m) ls (NoTable n o) a

  -- what follows from what is right
  pub file_ok : (F : MachineData → List LoopData → A → Type 0) (G : MachineData → List LoopData → B → Type 0) (m : Result MachineData MachineFault) (ls : Result (List LoopData) LoopFault) (x : A) (y : B)
      → ((m : MachineData) (xs : List LoopData) → F m xs x → G m xs y) → AnswersFile F m ls (Ok x) → AnswersFile G m ls (Ok y)
  file_ok F G (Err e) ls x y more a = cc
  file_ok F G (Ok m) (Err e) x y more a = cc
  file_ok F G (Ok m) (Ok xs) x y more a = on_more (F m xs) (G m xs) (first_lacking m xs) x y (more m xs) a

  -- loops that have no text on a machine
  pub text_refused : (P : A → Type 0) (Q : B → Type 0) (lacking : Lacking) (fault : TextFault) → TextAnswers lacking P (Err fault) → AnswersOn Q lacking (Err (of_text fault))
  text_refused P Q lacking text.Memory a = tt
  text_refused P Q None (text.NoTable name opcode) a = absurd a
  text_refused P Q (Some l) (text.NoTable name opcode) a = cc

  -- loops that have one
  pub text_written : (P : A → Type 0) (Q : B → Type 0) (lacking : Lacking) (x : A) (y : B) → (P x → Q y) → TextAnswers lacking P (Ok x) → AnswersOn Q lacking (Ok y)
  text_written P Q None x y more a = more a
  text_written P Q (Some l) x y more a = cc
