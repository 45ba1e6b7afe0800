use Rattle.std.proofs.Common.{ap}
use Rattle.serde_json.specs.View.{members_view}
use Rattle.lint_text.proofs.document.told_fault.Goals as goal

pub returns : goal.returns
returns c = λ w m word message.
    let column = c.with_value-members.ensures _ _ (ap members_view c.new.ensures.empty) c.from.ensures in
    let line = c.with_value-members-2.ensures _ _ column c.from-2.ensures in
    let said = c.with-members.ensures _ _ line (c.text_value.ensures m message) in
    let at = c.with-members-2.ensures _ _ said c.to_value.ensures in
    c.object_of.ensures _ (c.with.ensures _ _ at (c.text_value-2.ensures w word))
