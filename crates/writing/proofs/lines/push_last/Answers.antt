-- A part of what was pushed is a part of the line.
use Rattle.std.proofs.Common.{◌≡◌, rules, ◌++◌}
use Rattle.std.specs.Prelude.{codes}
use Rattle.writing.specs.Words.{told, last_line}
use Rattle.writing.specs.Texts.{HasPart}
use Rattle.writing.proofs.Beginnings.{front_part, later_part, two_pushed}
use Rattle.writing.proofs.lines.push_last.Goals as goal

pub returns-in_err-push_told-clause-err : goal.returns-in_err-push_told-clause-err
returns-in_err-push_told-clause-err g c =
    let part : HasPart (g.T.Text.bytes c.args.text.now) (last_line c.args.word.now c.args.all c.args.met c.args.failed) (g.T.Text.bytes c.push_told.new.text) =
    front_part _ _ _ _ (front_part _ _ _ _ (front_part _ _ _ _ c.in_err-push_told.ensures.err))
    in search rules

pub returns-in_err-push_told-2-clause-err : goal.returns-in_err-push_told-2-clause-err
returns-in_err-push_told-2-clause-err g c =
    let part : HasPart (g.T.Text.bytes c.args.text.now) (last_line c.args.word.now c.args.all c.args.met c.args.failed) (g.T.Text.bytes c.push_told-2.new.text) =
    front_part _ _ _ _ (front_part _ _ _ _ (later_part _ _ _ _ _ c.in_ok-push_told.ensures.ok c.in_err-push_told-2.ensures.err))
    in search rules

pub returns-in_err-push_told-3-clause-err : goal.returns-in_err-push_told-3-clause-err
returns-in_err-push_told-3-clause-err g c =
    let two : g.T.Text.bytes c.push_told-2.new.text ≡ g.T.Text.bytes c.args.text.now ++ (told c.args.word.now c.args.all ++ told (codes " met ") c.args.met) =
    two_pushed _ _ _ _ _ c.in_ok-push_told.ensures.ok c.in_ok-push_told-2.ensures.ok in
    let part : HasPart (g.T.Text.bytes c.args.text.now) (last_line c.args.word.now c.args.all c.args.met c.args.failed) (g.T.Text.bytes c.push_told-3.new.text) =
    front_part _ _ _ _ (later_part _ _ _ _ _ two c.in_err-push_told-3.ensures.err)
    in search rules
