use Rattle.std.proofs.Common.{◌≡◌, ◌<◌, take, length}
use Rattle.std.specs.Prelude.{◌==◌, count_by, slice_index}
use Rattle.solutions.specs.Files.{place_in}
use Rattle.solutions.proofs.values.files.value_at.Given as goal

abbrev pub invariant-loop-k : goal.invariant-loop-k
invariant-loop-k l = record {
  counted : l.before ≡ count_by (λ other. other == l.file) (take l.k l.files);
  there : l.place < l.before → l.found < length l.files;
  is_file : l.place < l.before → slice_index l.files l.found ≡ l.file;
  is_place : l.place < l.before → place_in l.files l.file l.found ≡ l.place;
}
