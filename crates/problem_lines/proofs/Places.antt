-- Words against their places, from left to right.
use Rattle.std.proofs.Common.{◌≡◌, ℕ, List, ◌∷◌, Option, Some, None, refl}
use Rattle.problem_lines.specs.Fits.{misfit}
use Rattle.problem_lines.specs.Lines.{places_fault}
use Rattle.loop_lines.specs.Columns.{Placed, column_after}
use Rattle.problem_faults.specs.declared.expected.Expected.{Expected}
use Rattle.problem_lines.specs.declared.fault.LineFault.{LineFault}

-- a word that fits its place
pub goes_on : (end : List Placed → Option LineFault) (column after : ℕ) (what : Expected) (more : List Expected) (ws rest : List Placed) (w : Placed)
    → ws ≡ w ∷ rest → after ≡ column_after w → None ≡ misfit column what ws → places_fault end column (what ∷ more) ws ≡ places_fault end after more rest
goes_on end column after what more ws rest w e a h = rw (← h, e, a) refl

-- one that does not
pub stops : (end : List Placed → Option LineFault) (column : ℕ) (what : Expected) (more : List Expected) (ws : List Placed) (fault : LineFault)
    → Some fault ≡ misfit column what ws → places_fault end column (what ∷ more) ws ≡ Some fault
stops end column what more ws fault h = rw (← h) refl
