use Rattle.machine_lint.proofs.Values.{elements-all, elements-some}
use Rattle.machine_lint.proofs.tree.elements.Goals as goal

pub returns-in-Some-2 : goal.returns-in-Some-2
returns-in-Some-2 c = rw (c.in-Some.is, c.deref-in-Some-2.ensures.value) (elements-all _ c.in-Some-as_array.elements.now _ _ c.in-Some-as_array.ensures c.len.ensures c.if-len-most.false)

pub returns-in-Some-as_array : goal.returns-in-Some-as_array
returns-in-Some-as_array c = rw (c.in-Some.is, c.deref.ensures.value) (elements-some _ c.in-Some-as_array.elements.now _ c.in-Some-as_array.ensures)
