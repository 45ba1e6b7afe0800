use Rattle.std.proofs.Common.{◌≡◌, ◌++◌}
use Rattle.std.specs.List.{flat_map, range_with_len}
use Rattle.solution_text.specs.Files.{file_line}
use Rattle.solution_text.proofs.files.push_files.Given as goal

abbrev pub invariant-loop-file : goal.invariant-loop-file
invariant-loop-file l = l.text.items ≡ l.initial.text.items ++ flat_map (file_line l.solution) (range_with_len 0 l.file)
