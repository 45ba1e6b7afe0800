use Rattle.solutions.proofs.Filling.{FilledBelow, Zeros}
use Rattle.solutions.proofs.values.found.find_numbers.Given as goal

abbrev pub invariant-loop-file : goal.invariant-loop-file
invariant-loop-file l = record {
  filled : FilledBelow l.ii l.kinds l.files l.lives l.numbers l.file;
  zeros : Zeros l.kinds l.files l.numbers;
}
