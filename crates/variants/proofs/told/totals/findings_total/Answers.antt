use Rattle.std.proofs.Common.{◌≡◌, ◌∙◌, ◌++◌, ◌<◌, ◌^◌, List, length, sym, ap, subst}
use Rattle.std.specs.Prelude.{codes, count_by, is_some}
use Rattle.loop_schedules.specs.Problems.{ProblemData}
use Rattle.variants.specs.declared.found.finding.LoopFindings.{LoopFindings}
use Rattle.writing.specs.Words.{told}
use Rattle.variants.specs.inner.Columns.{own_failed, own_interval, own_sum, sum_at, sums_text, total_lines}
use Rattle.variants.proofs.Totals.{is-total, own_sum-few, sum_at-few}
use Rattle.variants.proofs.told.totals.findings_total.Goals as goal

pub own_sum-requires : goal.own_sum-requires
own_sum-requires c =
    let found = c.args.found.now in
    subst (λ (fs : List LoopFindings). own_sum fs < 2 ^ 64) (sym c.as_slice-loops.ensures.value)
    (own_sum-few c.args.machine.now found.prepared.items found.loops.items c.requires.found c.requires.few)

pub push_totals-requires-clause-few : goal.push_totals-requires-clause-few
push_totals-requires-clause-few c number =
    let found = c.args.found.now in
    subst (λ (fs : List LoopFindings). sum_at number fs < 2 ^ 64) (sym c.as_slice-loops.ensures.value)
    (sum_at-few c.args.machine.now found.prepared.items found.loops.items c.requires.found c.requires.few number)

pub returns : goal.returns
returns c =
    let m = c.args.machine.now in
    let found = c.args.found.now in
    let loops = found.loops.items in
    let problems = found.prepared.items in
    let same : c.as_slice-loops.result.now ≡ loops = c.as_slice-loops.ensures.value in
    let count = length c.as_slice-prepared.result.now in
    let number : count ≡ length problems = ap (λ (ps : List ProblemData). length ps) c.as_slice-prepared.ensures.value in
    let met = c.own_met.ensures ∙ ap (λ (fs : List LoopFindings). count_by (λ (e : LoopFindings). is_some (own_interval e)) fs) same in
    let failed : c.own_failed-failed.result ≡ own_failed loops = c.own_failed-failed.ensures ∙ ap own_failed same in
    let sum : c.own_sum.result ≡ own_sum loops = c.own_sum.ensures ∙ ap own_sum same in
    let head = c.in_ok-push_own.ensures.ok
    ∙ (λ i. c.new-text.ensures.items i ++ ((told (codes "total loops ") count ++ sums_text (sum i) (failed i)) ++ codes "\n")) in
    let lines = c.in_ok-push_totals.ensures.ok
    ∙ (λ i. c.push_own.new.text.items ++ total_lines m (same i) ((c.as_slice.ensures.value ∙ c.in_ok-variants.ensures.value) i)) in
    is-total m problems loops count c.own_met.result c.own_failed-failed.result c.push_own.new.text.items c.push_totals.new.text.items c.push_last.new.text.items c.new.result
    c.requires.found number met failed head lines c.in_ok-push_last.ensures.ok c.new.ensures.text c.new.ensures.all_met
