use Rattle.std.proofs.Common.{◌≡◌, map, take}
use Rattle.loop_data.specs.declared.language.lists.Array.{Array}
use Rattle.loop_data.specs.Run.{opening_cells}
use Rattle.loop_data.proofs.running.run.opening_arrays.Given as goal

abbrev pub invariant-loop-array : goal.invariant-loop-array
invariant-loop-array l = l.opened.items ≡ map (λ (a : Array). opening_cells l.trip a.cells) (take l.array-index l.arrays)
