use Rattle.std.proofs.Common.{◌≡◌, ◌++◌, take, string_bytes}
use Rattle.std.specs.List.{flat_map}
use Rattle.loop_data.specs.declared.language.lists.Array.{Array}
use Rattle.loops.specs.Text.{line_text, array_words}
use Rattle.loops.proofs.write.write_arrays.Given as goal

abbrev pub invariant-loop-array : goal.invariant-loop-array
invariant-loop-array l = string_bytes l.text ≡ string_bytes l.initial.text ++ flat_map (λ (a : Array). line_text (array_words a)) (take l.array-index l.arrays)
