use Rattle.std.proofs.Common.{◌++◌, ap, ◌∙◌}
use Rattle.unit_bound.specs.Units.{use_of}
use Rattle.graph.specs.Units.{operations_of}
use Rattle.lower_bounds.proofs.Texts.{numbered-more}
use Rattle.resource_bound.specs.Choices.{rows_at}
use Rattle.resource_bound.specs.UnitLines.{user_text}
use Rattle.resource_bound.proofs.unit_lines.push_users.Goals as goal

pub loop-number-preserved : goal.loop-number-preserved
loop-number-preserved c =
    let operations = operations_of c.args.machine.now c.args.innermost.now in
    let n = c.loop-number.number in
    let here = c.loop-number.text.items in
    numbered-more (λ number. user_text c.args.innermost.now number (use_of (rows_at operations c.args.choices.now number) c.args.unit)) c.args.text.now.items here c.push_user.new.text.items n
    c.loop-number.invariant
    (c.in_ok-push_user.ensures.ok ∙ ap (λ k. here ++ user_text c.args.innermost.now n k) (c.use_of-uses.ensures ∙ ap (λ rows. use_of rows c.args.unit) c.rows_at.ensures.value))
