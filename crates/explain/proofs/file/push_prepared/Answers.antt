use Rattle.std.proofs.Common.{◌≡◌, ◌++◌, ℕ, List}
use Rattle.graph.specs.Units.{operations_of}
use Rattle.lower_bounds.specs.Faults.{lacking_in}
use Rattle.lower_bounds.proofs.Lacking.{answered}
use Rattle.resource_bound.specs.Choices.{AreUnitChoices}
use Rattle.resource_bound.specs.UnitLines.{unit_lines_of}
use Rattle.explain.proofs.Parts.{told-on}
use Rattle.explain.specs.SetLines.{set_line}
use Rattle.explain.specs.declared.file.UnitLines.{UnitLines}
use Rattle.unit_sets.specs.Fullest.{IsFullest}
use Rattle.explain.proofs.file.push_prepared.Goals as goal

pub returns-in-Ok : goal.returns-in-Ok
returns-in-Ok c =
    let m = c.args.machine.now in
    let x = c.innermost.result.now in
    let u = answered (lacking_in m x) (λ (lines : UnitLines). (alternatives : List ℕ) × AreUnitChoices (operations_of m x) alternatives × IsFullest (operations_of m x) lines.set × (lines.text.items ≡ unit_lines_of m x alternatives ++ set_line m lines.set)) c.in_ok-units.units c.in_ok-units.ensures.exact in
    record {
      exact = told-on m x c.args.prepared.now c.in-Ok.choice c.in_ok-units.units.set c.in_ok-units.units.text.items u.1.0 c.args.text.now.items c.push_part.new.text.items c.innermost.ensures.value u.0 u.1.1 u.1.2 u.1.3
          c.in-Ok.ensures.exact;
    }
