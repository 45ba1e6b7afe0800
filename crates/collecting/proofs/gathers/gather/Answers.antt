use Rattle.std.proofs.Common.{ap, sym, subst, arith, ◌≡◌, ◌∙◌, ◌+◌, length}
use Rattle.std.specs.Prelude.{◌||◌}
use Rattle.std.specs.List.{AllZip}
use Rattle.candidates.specs.Choices.{IsChoice}
use Rattle.reports.specs.Entries.{is_settled_in, mii_at}
use Rattle.reports.specs.Gathered.{retried_from}
use Rattle.collecting.specs.inner.Cells.{ChosenData, IsFirst, AreCellsOf, known_in, is_full}
use Rattle.collecting.proofs.Choosing.{both_ok, empty_full, empty_rows_of, first_all, first_retried, written}
use Rattle.collecting.proofs.Filling.{row_there}
use Rattle.collecting.proofs.gathers.gather.Goals as goal

pub fill-requires-clause-rows : goal.fill-requires-clause-rows
fill-requires-clause-rows c = subst (AllZip AreCellsOf c.args.loops.now) (sym c.as_mut_slice.ensures.value) (empty_rows_of c.args.loops.now c.in_ok-rows.rows.items c.in_ok-rows.ensures.rows c.in_ok-rows.ensures.all)

pub returns-clause-choices : goal.returns-clause-choices
returns-clause-choices c = both_ok c.choose_all.result (λ (x : ChosenData). length x.choices ≡ length c.args.loops.now) (λ x. IsFirst c.args.loops.now c.as_mut_slice-2.result.now x.choices x.retried)
    (λ x. AllZip IsChoice c.args.loops.now x.choices) (λ x all first. first_all c.args.loops.now c.as_mut_slice-2.result.now x.choices x.retried first all) c.choose_all.ensures.all c.choose_all.ensures.first

pub returns-clause-retried : goal.returns-clause-retried
returns-clause-retried c = both_ok c.choose_all.result (λ (x : ChosenData). length x.choices ≡ length c.args.loops.now) (λ x. IsFirst c.args.loops.now c.as_mut_slice-2.result.now x.choices x.retried)
    (λ x. x.retried ≡ retried_from c.args.reports.items 0 c.args.loops.now x.choices)
    (λ x all first. first_retried c.args.loops.now c.args.reports.items c.as_mut_slice-2.result.now x.choices x.retried first all
    (λ k b. ap (λ rs. is_full (known_in rs k b)) (c.as_mut_slice-2.ensures.value ∙ written c.fill.new.rows c.in_ok-rows.rows.items c.in_ok-rows.rows.len
    (row_there c.args.loops.now c.fill.new.rows c.fill.ensures.rows ∙ sym c.in_ok-rows.ensures.all) (let o = c.in_ok-rows.rows.ok.0 in omega arith)) ∙ c.fill.ensures.fills k b
    ∙ ap (λ f. f || is_settled_in c.args.reports.items k (mii_at c.args.loops.now k + b)) (ap (λ rs. is_full (known_in rs k b)) c.as_mut_slice.ensures.value ∙ empty_full c.args.loops.now c.in_ok-rows.rows.items k b c.in_ok-rows.ensures.rows)))
    c.choose_all.ensures.all c.choose_all.ensures.first
