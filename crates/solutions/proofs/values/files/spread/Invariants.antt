use Rattle.std.proofs.Common.{◌≡◌, ◌≢◌, ℕ, take}
use Rattle.std.specs.Prelude.{◌==◌, count_by, slice_index}
use Rattle.solutions.specs.Files.{in_file}
use Rattle.solutions.proofs.values.files.spread.Given as goal

abbrev pub invariant-loop-k : goal.invariant-loop-k
invariant-loop-k l = record {
  counted : l.count ≡ count_by (λ other. other == l.file) (take l.k l.files);
  entries : in_file (take l.k l.files) l.file (take l.k l.numbers) ≡ take l.count l.from;
  others : (k : ℕ) → slice_index l.files k ≢ l.file → slice_index l.numbers k ≡ slice_index l.initial.numbers k;
}
