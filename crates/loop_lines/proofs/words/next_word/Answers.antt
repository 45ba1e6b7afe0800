use Rattle.std.proofs.Common.{◌<◌, ◌∙◌, ap, arith, not, sym}
use Rattle.std.proofs.lemmas.List.Sums.{prefix_len-le-length}
use Rattle.loop_lines.specs.Words.{stops_word}
use Rattle.std.specs.List.{position_or_len}
use Rattle.loop_lines.proofs.Cuts.{word_taken}
use Rattle.loop_lines.proofs.Ends.{word_counted}
use Rattle.loop_lines.proofs.NameBytes.{stands_in_none}
use Rattle.loop_lines.proofs.words.next_word.Goals as goal

pub split_at-requires : goal.split_at-requires
split_at-requires c = omega (arith, prefix_len-le-length (λ x. not (stops_word x)) c.without_blanks-rest.result.now)

pub invariant_of-result : goal.invariant_of-result
invariant_of-result c =
    let text = c.without_blanks-rest.result.now in
    let within = prefix_len-le-length (λ x. not (stops_word x)) text in
    record {
      counted = word_counted text c.count_name-named.result c.count_past-end.result c.count_name-named.ensures c.count_past-end.ensures.past (omega (arith, within, c.count_past-end.ensures.value))
          ∙ ap (position_or_len stands_in_none) (sym c.split_at.ensures.front);
    }

pub returns : goal.returns
returns c =
    let some : 0 < c.count_past-end.result = omega arith in
    word_taken c.args.rest.now c.without_blanks-rest.result.now _ _ c.count_past-end.result c.without_blanks-rest.ensures.same_words some c.count_past-end.ensures.value c.split_at.ensures.front c.split_at.ensures.back
