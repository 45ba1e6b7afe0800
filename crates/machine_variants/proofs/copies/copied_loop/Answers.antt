use Rattle.machine_variants.proofs.copies.copied_loop.Goals as goal

pub new-requires : goal.new-requires
new-requires c =
    rw (
      c.in_ok-arrays.ensures,
      c.arrays.ensures.value,
      c.in_ok-params.ensures,
      c.params.ensures.value,
      c.in_ok-statements.ensures,
      c.statements.ensures.value,
      c.in_ok-inits.ensures.items,
      c.inits.ensures.value,
      c.in_ok-outs.ensures.items,
      c.outs.ensures.value,
      c.copied-name.ensures,
      c.name.ensures.value,
    ) c.name.ensures.well_formed
