use Rattle.std.proofs.Common.{◌≡◌, [], ◌∙◌}
use Rattle.toml.specs.View.{view}
use Rattle.machine.specs.MachineText.{alternative_faults, rows_of}
use Rattle.machine.proofs.checks.Faults.{ReadsPart-err, first-append, first-then, none-append}
use Rattle.machine.proofs.checks.Parts.{alternative-of, alternative-rows}
use Rattle.machine.proofs.Laws.{alternative-law}
use Rattle.machine.proofs.read.rows.read_alternative.Goals as goal
use Rattle.machine.proofs.read.rows.read_alternative.Goals.{In_ok-add_rows}

pub returns-in_err-values : goal.returns-in_err-values
returns-in_err-values c = ReadsPart-err _ _ c.from_residual.result c.in_err-values.field-0.0 c.from_residual.ensures.1 (λ ne.
    rw (alternative-of _ _ _) (first-append _ _ _ (c.in_err-values.ensures ne)))

pub returns-in_err-add_rows : goal.returns-in_err-add_rows
returns-in_err-add_rows c = ReadsPart-err _ _ c.from_residual-in_err-add_rows.result c.in_err-add_rows.field-0.0 c.from_residual-in_err-add_rows.ensures.1 (λ ne.
    let first = rw (c.new-rows.ensures.items, c.in_ok-values.ensures.1) at (c.in_err-add_rows.ensures ne) in
    rw (alternative-of _ _ _) (first-then _ _ _ c.in_ok-values.ensures.0 first))

read : (c : In_ok-add_rows) → (alternative_faults c.args.path.now c.args.units.now (view c.args.value.now) ≡ []) × (c.add_rows.new.rows.items ≡ rows_of c.args.units.now (view c.args.value.now))
read c =
    let listed = c.in_ok-values.ensures in
    let added = rw (c.new-rows.ensures.items, listed.1) at c.in_ok-add_rows.ensures in
    (rw (alternative-of _ _ _) (none-append _ _ listed.0 added.0), added.1 ∙ alternative-rows _ _)

pub new-requires : goal.new-requires
new-requires c = rw (read c).1 (alternative-law c.args.path.now _ c.requires _ (read c).0).0

pub returns : goal.returns
returns c = let h = read (goal.at.returns c).In_ok-add_rows in (h.0, c.new.ensures ∙ h.1)
