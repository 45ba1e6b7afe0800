use Rattle.std.proofs.Common.{sym, ◌∙◌}
use Rattle.machine.proofs.checks.Parts.{list-missing, list-wrong_type, list-limit, list-fine, list-is}
use Rattle.machine.proofs.checks.Turns.{count-data_of, data_of-view}
use Rattle.machine.proofs.read.read_list.Goals as goal

pub returns-in_default : goal.returns-in_default
returns-in_default c = λ ne. rw (c.missing.ensures ne, c.in_default.is) (list-missing _ _ _)

pub returns-in_default-as_array : goal.returns-in_default-as_array
returns-in_default-as_array c = λ ne. rw (c.wrong_type.ensures ne, c.in-Some.is) (list-wrong_type _ _ _ _ c.in_default-as_array.ensures)

pub returns-then-not-is_within : goal.returns-then-not-is_within
returns-then-not-is_within c = λ ne.
    let count = count-data_of c.in-Some-as_array.values.now c.len.result c.len.ensures in
    rw (c.limit.ensures ne, c.in-Some.is) (list-limit _ _ _ _ _ c.in-Some-as_array.ensures (rw count (sym c.if-not-is_within.ensures)))

pub returns : goal.returns
returns c =
    let vs = c.in-Some-as_array.values.now in
    let count = count-data_of vs c.len.result c.len.ensures in
    rw (c.in-Some.is, c.as_slice.ensures.value) (
      list-fine _ _ _ _ _ c.in-Some-as_array.ensures (rw count (sym c.if-not-is_within.ensures)),
      sym (data_of-view vs.items) ∙ list-is _ _ c.in-Some-as_array.ensures,
    )
