use Rattle.std.proofs.Common.{◌≡◌, refl, sym, subst}
use Rattle.std.specs.List.{All}
use Rattle.machine_variants.specs.Variants.{IsVariantOf, variants_of}
use Rattle.machine_variants.proofs.Chosen.{all-variants}
use Rattle.machine_variants.proofs.variant.variants_of.Goals as goal

pub returns-clause-value : goal.returns-clause-value
returns-clause-value c =
    rw (c.in_ok-push_registers.ensures, c.registers.ensures.value, c.in_ok-push_shortened.ensures, c.in_ok-push_doubled.ensures, c.units.ensures.value, c.new-list.ensures.items) refl

pub returns-clause-each : goal.returns-clause-each
returns-clause-each c =
    let m = c.args.machine.now in
    let is : c.push_registers.new.list.items ≡ variants_of m
    = rw (c.in_ok-push_registers.ensures, c.registers.ensures.value, c.in_ok-push_shortened.ensures, c.in_ok-push_doubled.ensures, c.units.ensures.value, c.new-list.ensures.items) refl in
    subst (All (IsVariantOf m)) (sym is) (all-variants m)
