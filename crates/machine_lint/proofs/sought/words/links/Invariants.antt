use Rattle.std.proofs.Common.{◌≡◌, length}
use Rattle.machine_lint.specs.inner.Sought.{AreLinks, texts}
use Rattle.machine_lint.proofs.sought.words.links.Given as goal

abbrev pub invariant-loop-word : goal.invariant-loop-word
invariant-loop-word l = record {
  are : AreLinks (texts l.words) l.links.items;
  all : length l.links.items ≡ l.word-index;
}
