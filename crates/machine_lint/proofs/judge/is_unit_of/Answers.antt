use Rattle.std.proofs.Common.{◌∙◌}
use Rattle.machine_lint.proofs.Values.{unit-of-some}
use Rattle.machine_lint.proofs.judge.is_unit_of.Goals as goal

pub returns-in-Some-as_array : goal.returns-in-Some-as_array
returns-in-Some-as_array c = c.is_among.ensures ∙ rw (c.in-Some.is, c.deref.ensures.value) (unit-of-some _ c.in-Some-as_array.units.now c.args.name.now c.in-Some-as_array.ensures)
