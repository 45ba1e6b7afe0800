-- Problems that are those of their loops on the machine, which lacks no table.
use Rattle.std.proofs.Common.{◌≡◌, ℕ, List, [], ◌∷◌, refl, sym, subst}
use Rattle.std.specs.Prelude.{Option, Some, None}
use Rattle.std.specs.List.{All, AllZip}
use Rattle.std.proofs.lemmas.List.Elements.{All-cons, All-nil}
use Rattle.machine_data.specs.declared.opcode.Opcode.{Opcode}
use Rattle.machine_data.specs.Machines.{MachineData}
use Rattle.loop_data.specs.Loops.{LoopData}
use Rattle.graph.specs.Units.{first_lacking, first_without_table, lacking_or}
use Rattle.loop_schedules.specs.Problems.{IsProblemOf, ProblemData}
use Rattle.variants.specs.Findings.{IsOn}

lacking-first : (machine : MachineData) (loop : LoopData) (loops : List LoopData) → lacking_or loop.name (first_without_table machine loop) (first_lacking machine loops) ≡ None
    → (first_without_table machine loop ≡ None) × (first_lacking machine loops ≡ None)
lacking-first machine loop loops none = go (first_without_table machine loop) none
  where
    go : (found : Option Opcode) → lacking_or loop.name found (first_lacking machine loops) ≡ None → (found ≡ None) × (first_lacking machine loops ≡ None)
    go None e = (refl, e)
    go (Some o) e = cc

pub on-machine : (machine : MachineData) (loop : LoopData) (ratio ceiling : ℕ) (p : ProblemData) → IsProblemOf machine loop ratio ceiling p → first_without_table machine loop ≡ None → IsOn machine p
on-machine machine loop ratio ceiling p is none =
    let a : IsProblemOf machine p.loop ratio ceiling p = subst (λ (l : LoopData). IsProblemOf machine l ratio ceiling p) (sym is.same_loop) is in
    let b : IsProblemOf machine p.loop p.ratio ceiling p = subst (λ r. IsProblemOf machine p.loop r ceiling p) (sym is.same_ratio) a in
    record {
      is_problem = subst (λ k. IsProblemOf machine p.loop p.ratio k p) (sym is.same_ceiling) b;
      tables = subst (λ (l : LoopData). first_without_table machine l ≡ None) (sym is.same_loop) none;
    }

pub all-on : (machine : MachineData) (ratio ceiling : ℕ) (loops : List LoopData) (problems : List ProblemData) → AllZip (λ loop problem. IsProblemOf machine loop ratio ceiling problem) loops problems
    → first_lacking machine loops ≡ None → All (IsOn machine) problems
all-on machine ratio ceiling [] [] all none = All-nil (IsOn machine)
all-on machine ratio ceiling [] (p ∷ problems) all none = absurd all
all-on machine ratio ceiling (loop ∷ loops) [] all none = absurd all
all-on machine ratio ceiling (loop ∷ loops) (p ∷ problems) all none =
    let both = lacking-first machine loop loops none in
    All-cons (IsOn machine) p problems (on-machine machine loop ratio ceiling p all.0 both.0) (all-on machine ratio ceiling loops problems all.1 both.1)
