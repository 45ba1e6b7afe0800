use Rattle.std.proofs.Common.{◌≡◌, ◌+◌, ℕ, ◌<◌, length, true, IfSome}
use Rattle.std.specs.Option.{option_map_or}
use Rattle.machine_lint.specs.inner.Sought.{Reaches, begins, nth, texts}
use Rattle.machine_lint.proofs.sought.words.descend.Given as goal

abbrev pub invariant-loop-now : goal.invariant-loop-now
invariant-loop-now l = record {
  inside : IfSome l.now (λ k. k < length l.links);
  part : IfSome l.now (λ k. Reaches (texts l.words) l.fn.from k);
  others : (j : ℕ) → begins (nth (texts l.words) j) l.text ≡ true → Reaches (texts l.words) l.fn.from j → Reaches (texts l.words) l.now j;
}

abbrev pub decreases-loop-now : goal.decreases-loop-now
decreases-loop-now l = option_map_or (λ k. k + 1) l.now 0
