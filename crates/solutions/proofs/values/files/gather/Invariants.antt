use Rattle.std.proofs.Common.{◌≡◌, ◌≤◌, ◌++◌, drop, take}
use Rattle.std.specs.Prelude.{◌==◌, count_by}
use Rattle.solutions.specs.Files.{in_file}
use Rattle.solutions.proofs.values.files.gather.Given as goal

abbrev pub invariant-loop-k : goal.invariant-loop-k
invariant-loop-k g l = record {
  few : l.count ≤ l.k;
  counted : l.count ≡ count_by (λ other. other == l.file) (take l.k l.files);
  entries : take l.count l.into ++ in_file (drop l.k l.files) l.file (drop l.k l.items) ≡ in_file l.files l.file l.items;
}
