use Rattle.std.proofs.Common.{[], ◌∷◌, ◌++◌, ◌∙◌, sym, subst}
use Rattle.std.specs.Prelude.{Some}
use Rattle.std.specs.List.{AllZip}
use Rattle.board.specs.declared.word.WordPass.{WordPass}
use Rattle.reports.specs.Entries.{ReportData}
use Rattle.board_workers.specs.inner.Places.{AreBack, IsReportOn}
use Rattle.board_workers.proofs.Sharing.{zip_push}
use Rattle.board_workers.proofs.run.collect.Goals as goal

pub returns-clause-on : goal.returns-clause-on
returns-clause-on g c =
    let goes_on = g.G.Gate.always_goes_on c.args._gate.now in
    let pass : WordPass = c.in-Some.pass in
    let report : ReportData = c.in-Some-report.report in
    let passes = c.args.back.now.passes.items in
    let reports = c.args.back.now.reports.items in
    let on : IsReportOn c.args._board.now c.args._loops.now c.args._pieces.now goes_on pass report =
    subst (λ r. AreBack c.args._board.now c.args._loops.now c.args._pieces.now goes_on (Some pass) r) (sym c.into_parts-pass.ensures.report ∙ c.in-Some-report.is)
    (subst (λ p. AreBack c.args._board.now c.args._loops.now c.args._pieces.now goes_on p c.args.place.report) (sym c.into_parts-pass.ensures.pass ∙ c.in-Some.is) c.requires.done) in
    subst (λ ps. AllZip (IsReportOn c.args._board.now c.args._loops.now c.args._pieces.now goes_on) ps c.push-2.new.self.items) (sym c.in_ok-push.ensures.items)
    (subst (λ rs. AllZip (IsReportOn c.args._board.now c.args._loops.now c.args._pieces.now goes_on) (passes ++ pass ∷ []) rs) (sym c.in_ok-push-2.ensures.items)
    (zip_push (IsReportOn c.args._board.now c.args._loops.now c.args._pieces.now goes_on) passes reports pass report c.requires.others on))
