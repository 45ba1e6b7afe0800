use Rattle.std.proofs.Common.{◌-◌, ◌≡◌, ◌<◌, ◌≤◌, length}
use Rattle.devices.proofs.TextLemmas.{ReadSoFar}
use Rattle.devices.proofs.text.fill.Given as goal

abbrev pub invariant-loop-filled : goal.invariant-loop-filled
invariant-loop-filled g l = record {
  some : 0 < length l.buffer.items;
  room : l.filled ≤ length l.buffer.items;
  bound : length l.buffer.items ≤ l.most;
  read : ReadSoFar (g.I.Input.left l.fn.input) (g.I.Input.left l.input) l.buffer.items l.filled;
  fine : g.I.Input.failed l.input ≡ g.I.Input.failed l.fn.input;
}

-- each read gives a byte or ends the loop
abbrev pub decreases-loop-filled : goal.decreases-loop-filled
decreases-loop-filled g l = l.most - l.filled
