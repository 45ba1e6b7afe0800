use Rattle.std.proofs.Common.{◌≡◌, [], option_map, ◌∙◌}
use Rattle.toml.specs.View.{view}
use Rattle.machine.specs.MachineText.{faults_of_alternatives, alternatives_of}
use Rattle.machine.proofs.checks.Faults.{ReadsPart-err, first-append, first-then, none-append}
use Rattle.machine.proofs.checks.Parts.{alternatives-of, alternatives-rows}
use Rattle.machine.proofs.Laws.{alternatives-law}
use Rattle.machine.proofs.read.rows.read_alternatives.Goals as goal
use Rattle.machine.proofs.read.rows.read_alternatives.Goals.{In_ok-add_alternatives}

pub returns-in_err-values : goal.returns-in_err-values
returns-in_err-values c = ReadsPart-err _ _ c.from_residual.result c.in_err-values.field-0.0 c.from_residual.ensures.1 (λ ne.
    rw (alternatives-of _ _ _) (first-append _ _ _ (c.in_err-values.ensures ne)))

pub returns-in_err-add_alternatives : goal.returns-in_err-add_alternatives
returns-in_err-add_alternatives c = ReadsPart-err _ _ c.from_residual-in_err-add_alternatives.result c.in_err-add_alternatives.field-0.0 c.from_residual-in_err-add_alternatives.ensures.1 (λ ne.
    let first = rw c.in_ok-values.ensures.1 at (c.in_err-add_alternatives.ensures ne) in
    rw (alternatives-of _ _ _) (first-then _ _ _ c.in_ok-values.ensures.0 first))

read : (c : In_ok-add_alternatives) → let found = option_map (λ v. view v.now) c.args.value in (faults_of_alternatives c.args.path.now c.args.units.now found ≡ []) × (c.add_alternatives.new.alternatives.items ≡ alternatives_of c.args.units.now found)
read c =
    let listed = c.in_ok-values.ensures in
    let added = rw (c.in_ok-alternatives.ensures.items, listed.1) at c.in_ok-add_alternatives.ensures in
    (rw (alternatives-of _ _ _) (none-append _ _ listed.0 added.0), added.1 ∙ alternatives-rows _ _)

pub shared-requires : goal.shared-requires
shared-requires c = rw (read c).1 (alternatives-law c.args.path.now _ c.requires _ (read c).0).0

pub returns : goal.returns
returns c = let h = read (goal.at.returns c).In_ok-add_alternatives in (h.0, c.in_ok-shared.ensures ∙ h.1)
