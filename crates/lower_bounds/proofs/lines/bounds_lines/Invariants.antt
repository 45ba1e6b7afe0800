use Rattle.std.proofs.Common.{◌≡◌, None, take}
use Rattle.graph.specs.Units.{first_lacking}
use Rattle.lower_bounds.specs.Bounds.{IsLines}
use Rattle.lower_bounds.proofs.lines.bounds_lines.Given as goal

abbrev pub invariant-loop-innermost : goal.invariant-loop-innermost
invariant-loop-innermost l = record {
  complete : first_lacking l.machine (take l.innermost-index l.loops) ≡ None;
  lines : IsLines l.machine (take l.innermost-index l.loops) l.text.items;
}
