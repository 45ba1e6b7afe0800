use Rattle.std.proofs.Common.{◌≡◌, true, length, map}
use Rattle.problem_lines.specs.Fits.{surplus}
use Rattle.problem_lines.specs.Lines.{places_fault, unit_places}
use Rattle.loop_lines.specs.Columns.{Placed}
use Rattle.problem_faults.specs.declared.expected.Expected.TheVariants.{UnitName}
use Rattle.problem_lines.specs.inner.Cursors.{are_unit_names}
use Rattle.problem_lines.proofs.lists.take_units.Given as goal

-- what is left decides the fault, and whether all are names of units
abbrev pub invariant-loop-left : goal.invariant-loop-left
invariant-loop-left l = record {
  fault : places_fault surplus l.left.after (map (λ (w : Placed). UnitName) l.left.words) l.left.words ≡ places_fault surplus l.fn.left.after (unit_places l.fn.left.words) l.fn.left.words;
  sound : are_unit_names l.left.words ≡ true → are_unit_names l.fn.left.words ≡ true;
}

abbrev pub decreases-loop-left : goal.decreases-loop-left
decreases-loop-left l = length l.left.words
