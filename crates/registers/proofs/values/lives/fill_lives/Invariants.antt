use Rattle.std.proofs.Common.{◌≡◌, ◌++◌, drop, take}
use Rattle.registers.specs.Values.{lives_from}
use Rattle.registers.proofs.values.lives.fill_lives.Given as goal

abbrev pub invariant-loop-k : goal.invariant-loop-k
invariant-loop-k l = record {
  front : take l.k l.lives ++ lives_from l.ii l.times l.end l.reads l.k (drop l.k l.values) ≡ lives_from l.ii l.times l.end l.reads 0 l.values;
  rest : drop l.k l.lives ≡ drop l.k l.initial.lives;
}
