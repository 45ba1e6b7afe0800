use Rattle.machine_lint.proofs.Values.{shown-elements, shown-nothing}
use Rattle.machine_lint.proofs.spots.shown.Goals as goal

pub returns-in-Some-as_array : goal.returns-in-Some-as_array
returns-in-Some-as_array c = shown-elements _ c.in-Some-as_array.elements.now _ c.in-Some-as_array.ensures c.len.ensures

pub returns : goal.returns
returns c = shown-nothing _ c.in_default.ensures c.in_default-as_integer.ensures c.in_default-as_array.ensures
