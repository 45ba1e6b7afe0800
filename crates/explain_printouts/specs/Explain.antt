-- What `explain` writes.
use Rattle.std.specs.Prelude.{◌≡◌, ℕ, List}
use Rattle.machine.specs.Machines.{MachineData}
use Rattle.loop_data.specs.Loops.{LoopData}
use Rattle.explain.specs.declared.file.Explained.{Explained}
use Rattle.explain.specs.Explanations.{IsExplanationOf}
use Rattle.written.specs.Written.{Written}

-- what is told of each loop, and then `loops A met B failed F`; with whether every loop has a kernel
pub record IsExplainText (ratio ceiling : ℕ) (machine : MachineData) (loops : List LoopData) (written : Written) : Type 0 where
  pub explained : Explained
  pub is_explained : IsExplanationOf machine ratio ceiling loops explained
  pub is_text : written.text ≡ explained.text.items
  pub met : written.all_met ≡ explained.all_met
