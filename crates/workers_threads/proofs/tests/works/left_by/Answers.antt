use Rattle.std.proofs.Common.{◌∙◌, refl, subst}
use Rattle.std.proofs.lemmas.Result.{IfOk-at_ok}
use Rattle.std.specs.List.{All}
use Rattle.workers.specs.Entries.{HasNoRefusal, ReportData}
use Rattle.workers_threads.proofs.Leaving.{none_left}
use Rattle.workers_threads.proofs.tests.works.left_by.Goals as goal

pub returns : goal.returns
returns g c =
    let loops = c.as_slice-loops.result.now in
    let reports = c.expect-reports.result.items in
    let chosen = c.expect-chosen.result in
    let left = IfOk-at_ok _ c.expect-reports.ensures c.run_workers.ensures.left in
    let dry = IfOk-at_ok _ c.expect-reports.ensures (c.run_workers.ensures.ends_dry refl) in
    let same = IfOk-at_ok _ c.expect-reports.ensures c.run_workers.ensures.same in
    let worked = IfOk-at_ok _ c.expect-reports.ensures c.run_workers.ensures.worked in
    let choices = IfOk-at_ok _ c.expect-chosen.ensures c.gather.ensures.choices in
    let retried = IfOk-at_ok _ c.expect-chosen.ensures c.gather.ensures.retried in
    let whole : All (λ (r : ReportData). HasNoRefusal r.loops r) reports = subst (All (λ (r : ReportData). HasNoRefusal r.loops r)) c.as_slice.ensures.value (c.if-not-all_whole.ensures refl) in
    record {
      left = c.retried.ensures.value ∙ none_left loops reports chosen.choices c.args.workers chosen.retried left dry same whole worked.each c.requires.some choices retried;
    }
