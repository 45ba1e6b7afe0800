-- The loop that lacks a table.
use Rattle.std.proofs.Common.{◌≡◌, ℕ, ◌+◌, ◌<◌, List, [], ◌∷◌, ◌++◌, length, take, drop, get_or, Option, Some, None, refl, sym, ap, ◌∙◌, subst}
use Rattle.std.specs.Prelude.{Ok, Err}
use Rattle.std.proofs.lemmas.List.{take_more, drop_more, take-append-drop}
use Rattle.machine_data.specs.Machines.{MachineData}
use Rattle.machine_data.specs.declared.opcode.Opcode.{Opcode}
use Rattle.loop_data.specs.Loops.{LoopData}
use Rattle.graph.specs.Units.{first_lacking, first_without_table, lacking_or}
use Rattle.lower_bounds.specs.Faults.{TextAnswers, lacking_in}
use Rattle.lower_bounds.specs.declared.fault.TextFault.{TextFault}
use Rattle.lower_bounds.specs.declared.fault.TextFault.TheVariants.{NoTable, Memory}

-- nothing is lacking in front, so nothing is lacking in the first loop
lacking_or-none : (name : List ℕ) (o : Option Opcode) (rest : Option (List ℕ × Opcode)) → lacking_or name o rest ≡ None → (o ≡ None) × (rest ≡ None)
lacking_or-none name None rest h = (refl, h)
lacking_or-none name (Some opcode) rest h = cc

-- what is lacking after loops that lack nothing
pub first_lacking-append : (machine : MachineData) (xs ys : List LoopData) → first_lacking machine xs ≡ None → first_lacking machine (xs ++ ys) ≡ first_lacking machine ys
first_lacking-append machine [] ys h = refl
first_lacking-append machine (x ∷ xs) ys h =
    let parts = lacking_or-none x.name (first_without_table machine x) (first_lacking machine xs) h in
    ap (λ o. lacking_or x.name o (first_lacking machine (xs ++ ys))) parts.0 ∙ first_lacking-append machine xs ys parts.1

-- what an answer tells
pub answered : {A : Type 0} (lacking : Option (List ℕ × Opcode)) (P : A → Type 0) (v : A) → TextAnswers lacking P (Ok v) → (lacking ≡ None) × P v
answered (Some lacking) P v h = cc
answered None P v h = (refl, h)

-- a loop that lacks nothing has an answer
pub complete : {A : Type 0} (lacking : Option (List ℕ × Opcode)) (P : A → Type 0) (v : A) → lacking ≡ None → P v → TextAnswers lacking P (Ok v)
complete lacking P v none h = rw none h

pub refused_or : {A B : Type 0} (P : A → Type 0) (Q : B → Type 0) (fault : TextFault) (name : List ℕ) (o : Option Opcode) (rest : Option (List ℕ × Opcode))
    → TextAnswers {A = A} (lacking_or name o None) P (Err fault) → TextAnswers {A = B} (lacking_or name o rest) Q (Err fault)
refused_or P Q Memory name o rest h = tt
refused_or P Q (NoTable n opcode) name None rest h = absurd h
refused_or P Q (NoTable n opcode) name (Some other) rest h = cc

-- a step of the loop over loops: the loop at hand lacks nothing
pub lacking-more : (machine : MachineData) (loops : List LoopData) (i : ℕ) (x : LoopData) → i < length loops → x ≡ get_or loops i x
    → first_lacking machine (take i loops) ≡ None → lacking_in machine x ≡ None → first_lacking machine (take (i + 1) loops) ≡ None
lacking-more machine loops i x h is before none =
    let e : take (i + 1) loops ≡ take i loops ++ x ∷ [] = take_more loops i x h ∙ ap (λ y. take i loops ++ y ∷ []) (sym is) in
    ap (first_lacking machine) e ∙ first_lacking-append machine (take i loops) (x ∷ []) before ∙ none

-- the loop at hand lacks a table, or memory ran out
pub lacking-here : {A B : Type 0} (P : A → Type 0) (Q : B → Type 0) (machine : MachineData) (loops : List LoopData) (i : ℕ) (x : LoopData) (fault : TextFault)
    → i < length loops → x ≡ get_or loops i x → first_lacking machine (take i loops) ≡ None → TextAnswers (lacking_in machine x) P (Err fault)
    → TextAnswers (first_lacking machine loops) Q (Err fault)
lacking-here {A = A} {B = B} P Q machine loops i x fault h is before lacks =
    let e : take i loops ++ x ∷ drop (i + 1) loops ≡ loops = ap (λ y. take i loops ++ y ∷ drop (i + 1) loops) is ∙ (ap (λ ys. take i loops ++ ys) (sym (drop_more loops i x h)) ∙ take-append-drop i loops) in
    let all : first_lacking machine loops ≡ lacking_or x.name (first_without_table machine x) (first_lacking machine (drop (i + 1) loops))
    = ap (first_lacking machine) (sym e) ∙ first_lacking-append machine (take i loops) (x ∷ drop (i + 1) loops) before in
    subst (λ (o : Option (List ℕ × Opcode)). TextAnswers {A = B} o Q (Err fault)) (sym all)
    (refused_or P Q fault x.name (first_without_table machine x) (first_lacking machine (drop (i + 1) loops)) lacks)
