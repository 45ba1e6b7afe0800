use Rattle.std.proofs.Common.{◌≡◌, ◌++◌, take}
use Rattle.std.specs.Prelude.{codes}
use Rattle.std.specs.List.{flat_map}
use Rattle.explain_printouts.specs.declared.objects.Object.{Object}
use Rattle.explain_printouts.proofs.objects.push_others.Given as goal

abbrev pub invariant-loop-object : goal.invariant-loop-object
invariant-loop-object l = l.text.items ≡ l.initial.text.items ++ flat_map (λ (object : Object). codes "," ++ object.text.items) (take l.object-index l.objects)
