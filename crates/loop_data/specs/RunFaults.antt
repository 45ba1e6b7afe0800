-- How the faults of a run are told.
use Rattle.std.specs.Prelude.{ℕ, codes, List}
use Rattle.loop_data.specs.declared.running.run.RunFault.{RunFault}
use Rattle.loop_data.specs.declared.running.run.RunFault.TheVariants.{Trip, Shape, Memory}

abbrev pub run_fault_text : RunFault → List ℕ
run_fault_text Trip = codes "more than 100000 iterations"
run_fault_text Shape = codes "a memory of another shape"
run_fault_text Memory = codes "out of memory"
