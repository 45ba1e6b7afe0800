use Rattle.std.proofs.Common.{◌≡◌, map}
use Rattle.std.specs.List.{range_with_len}
use Rattle.serde_json.specs.View.{view}
use Rattle.solution_json.specs.Values.{file_object}
use Rattle.solution_json.proofs.values.told_files.Given as goal

abbrev pub invariant-loop-file : goal.invariant-loop-file
invariant-loop-file l = map view l.values.items ≡ map (file_object l.solution) (range_with_len 0 l.file)
