use Rattle.std.proofs.Common.{map, ap, ◌∙◌}
use Rattle.loop_data.specs.declared.language.lists.Array.{Array}
use Rattle.loop_data.specs.Loops.{LoopData}
use Rattle.overlap.specs.Emission.{emitted}
use Rattle.rotating.proofs.emitted.Emitted.{parts-same}
use Rattle.rotating.proofs.kernels.emission.parts_of.Goals as goal

pub returns-clause-exact : goal.returns-clause-exact
unfolding emitted
returns-clause-exact c =
    parts-same c.ii.ensures.value c.stages.ensures.value c.registers.ensures.value
    (c.in_ok-params.ensures ∙ ap (λ (l : LoopData). l.params) c.requires)
    (c.in_ok-array_names.ensures ∙ ap (λ (l : LoopData). map (λ (a : Array). a.name) l.arrays) c.requires)
    c.in_ok-operations.ensures c.in_ok-preloads.ensures c.in_ok-outs.ensures
