use Rattle.std.proofs.Common.{◌≡◌, ◌∙◌, ◌+◌, ◌<◌, arith, sym, take, get_or, length, below_more}
use Rattle.std.specs.Prelude.{◌&&◌}
use Rattle.std.specs.List.{list_all}
use Rattle.std.proofs.lemmas.List.Sums.{position_or_len_is}
use Rattle.std.proofs.lemmas.List.Folds.{list_all_more}
use Rattle.loop_lines.specs.Words.{stops_word}
use Rattle.problem_lines.specs.Names.{is_printable}
use Rattle.problem_lines.proofs.Cuts.{named_all, named_goes_on, printable_goes_on, both_kept, both_false}
use Rattle.problem_lines.proofs.scan.count_odd.Goals as goal
use Rattle.problem_lines.proofs.scan.count_odd.Goals.{then-not-is_printable+else-ends_word, else-not-is_printable}

pub loop-at-init : goal.loop-at-init
loop-at-init c = record {
  within = c.requires.within;
  goes_on = named_goes_on c.args.text.now c.args.from c.requires.named;
  told = named_all c.args.text.now c.args.from c.requires.within c.requires.named;
}

pub loop-at-preserved : goal.loop-at-preserved
loop-at-preserved c =
    let here : c.loop-at.at < length c.args.text.now = c.loop-at-test.true in
    let more : list_all is_printable (take (c.loop-at.at + 1) c.args.text.now) ≡ (list_all is_printable (take c.loop-at.at c.args.text.now) && is_printable (get_or c.args.text.now c.loop-at.at 0))
    = list_all_more is_printable c.args.text.now c.loop-at.at 0 here in
    elim c.if-not-is_printable.branch [
      | then-not-is_printable+else-ends_word w ↦ record {
        within = omega arith;
        goes_on = below_more _ _ c.loop-at.invariant.goes_on (sym w.ends_word.ensures ∙ w.if-ends_word.false);
        told = w.printable-is ∙ sym (both_false _ _ _ more (sym c.is_printable.ensures ∙ w.if-not-is_printable.true));
      }
      | else-not-is_printable w ↦ record {
        within = omega arith;
        goes_on = below_more _ _ c.loop-at.invariant.goes_on (printable_goes_on (get_or c.args.text.now c.loop-at.at 0) (sym c.is_printable.ensures ∙ w.if-not-is_printable.false));
        told = w.printable-is ∙ c.loop-at.invariant.told ∙ sym (both_kept _ _ _ more (sym c.is_printable.ensures ∙ w.if-not-is_printable.false));
      }
    ]

pub returns-then-ends_word-clause-count : goal.returns-then-ends_word-clause-count
returns-then-ends_word-clause-count c =
    sym (position_or_len_is stops_word c.args.text.now c.loop-at.at 0 c.loop-at.invariant.within c.loop-at.invariant.goes_on (λ _. sym c.ends_word.ensures ∙ c.if-ends_word.true))

pub returns-clause-count : goal.returns-clause-count
returns-clause-count c =
    sym (position_or_len_is stops_word c.args.text.now _ 0 (omega arith) (λ k h. c.loop-at.invariant.goes_on k (omega arith)) (λ h. absurd (omega arith)))
