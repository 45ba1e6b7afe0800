use Rattle.std.proofs.Common.{◌≡◌, ◌<◌, arith, not, length}
use Rattle.std.proofs.lemmas.List.Sums.{prefix_len-le-length}
use Rattle.loop_lines.specs.Words.{stops_word}
use Rattle.loop_lines.proofs.Columns.{word_taken}
use Rattle.loop_lint.proofs.scan.first_word.Goals as goal

pub split_at-requires : goal.split_at-requires
split_at-requires c = omega (arith, prefix_len-le-length (λ x. not (stops_word x)) c.past_blanks-start.result.0.now)

pub returns-clause-words : goal.returns-clause-words
returns-clause-words c =
    let some : 0 < c.count_word-count.result = omega arith in
    let long : length c.split_at.result.0.now ≡ c.count_word-count.result = omega (arith, c.split_at.ensures.front_len) in
    word_taken c.args.column c.past_blanks-start.result.1 c.args.rest.now c.past_blanks-start.result.0.now _ _ c.count_word-count.result c.past_blanks-start.ensures.same_words some c.count_word-count.ensures c.split_at.ensures.front c.split_at.ensures.back long

pub returns-clause-shorter : goal.returns-clause-shorter
returns-clause-shorter c =
    omega (arith, c.past_blanks-start.ensures.no_longer, c.split_at.ensures.back_len, c.count_word-count.ensures, prefix_len-le-length (λ x. not (stops_word x)) c.past_blanks-start.result.0.now)
