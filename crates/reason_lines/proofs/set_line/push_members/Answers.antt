use Rattle.lower_bounds.proofs.Texts.{numbered-more}
use Rattle.reason_lines.specs.SetLines.{member_text}
use Rattle.reason_lines.proofs.set_line.push_members.Goals as goal

pub loop-unit-preserved : goal.loop-unit-preserved
loop-unit-preserved g c =
    numbered-more (member_text (g.N.UnitNames.name c.args.units.now) c.args.set.now) c.args.text.now.items c.loop-unit.text.items c.push_member.new.text.items c.loop-unit.unit c.loop-unit.invariant
    c.in_ok-push_member.ensures.ok
