use Rattle.std.proofs.Common.{◌∙◌, arith, sym}
use Rattle.std.proofs.lemmas.List.Sums.{position_or_len_is}
use Rattle.loop_lines.specs.Words.{stops_word}
use Rattle.loop_lines.proofs.words.count_word.Goals as goal

pub returns-else-not-ends_word : goal.returns-else-not-ends_word
returns-else-not-ends_word c =
    let v = c.loop-at.invariant in
    sym (position_or_len_is stops_word c.args.text.now c.loop-at.at 0 v.within v.none (λ _. sym c.ends_word.ensures ∙ c.if-not-ends_word.false))

pub returns-after-loop-at : goal.returns-after-loop-at
returns-after-loop-at c =
    let v = c.loop-at.invariant in
    let past = c.loop-at-test.false in
    sym (position_or_len_is stops_word c.args.text.now c.loop-at.at 0 v.within v.none (λ lt. absurd (omega (arith, past, lt))))
