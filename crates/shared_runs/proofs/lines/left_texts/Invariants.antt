use Rattle.std.proofs.Common.{◌≡◌, ◌<◌, ℕ, length, get_or}
use Rattle.std.specs.Prelude.{Vec}
use Rattle.std.specs.Global.{Global}
use Rattle.loop_data.specs.declared.language.lists.Array.{Array}
use Rattle.shared_runs.specs.declared.lines.Lines.{Lines}
use Rattle.shared_runs.specs.inner.Lines.{bytes_left}
use Rattle.shared_runs.proofs.lines.left_texts.Given as goal

abbrev pub invariant-loop-number : goal.invariant-loop-number
invariant-loop-number g l = record {
  many : length l.texts.items ≡ l.number;
  each : (k : ℕ) (t : Vec ℕ Global) (one : Lines) (e : Array) → k < l.number → (get_or l.texts.items k t).items ≡ bytes_left e (get_or l.lines k one);
}
