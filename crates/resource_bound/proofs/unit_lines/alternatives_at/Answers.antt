use Rattle.std.proofs.Common.{sym, ap, ◌∙◌}
use Rattle.graph.specs.Units.{alternatives_in}
use Rattle.resource_bound.proofs.RowsAt.{operation-read}
use Rattle.resource_bound.proofs.unit_lines.alternatives_at.Goals as goal

pub returns-in-Some : goal.returns-in-Some
returns-in-Some c =
    c.as_slice.ensures.value ∙ c.alternatives.ensures ∙ ap alternatives_in c.in-Some.ensures.value
    ∙ sym (operation-read c.args.machine.now c.args.innermost.now c.statements.result.now c.args.number c.index-statements-number.result c.statements.ensures.value c.requires)

pub returns-in-None : goal.returns-in-None
returns-in-None c =
    ap alternatives_in c.in-None.ensures.value
    ∙ sym (operation-read c.args.machine.now c.args.innermost.now c.statements.result.now c.args.number c.index-statements-number.result c.statements.ensures.value c.requires)
