use Rattle.std.proofs.Common.{sym, ◌∙◌}
use Rattle.problems.proofs.faults.Sound.{hold-equal}
use Rattle.problems.proofs.made.Lists.{same-alternatives}
use Rattle.problems.proofs.making.tables.are_same.Goals as goal

pub returns : goal.returns
returns c same = same-alternatives _ hold-equal c.args.kind.now.alternatives.items c.args.other.now.alternatives.items (sym c.eq.ensures ∙ same)
