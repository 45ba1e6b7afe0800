use Rattle.std.proofs.Common.{◌∙◌, sym, ap, arith, not}
use Rattle.std.proofs.lemmas.List.Sums.{prefix_len-le-length}
use Rattle.std.specs.List.{position_or_len}
use Rattle.loop_lines.specs.Words.{stops_word}
use Rattle.loop_lines.specs.inner.Stops.{begins_stop}
use Rattle.loop_lines.proofs.Ends.{ends_further, ends_here, named_within}
use Rattle.loop_lines.proofs.words.count_past.Goals as goal

pub split_at-requires : goal.split_at-requires
split_at-requires c = named_within c.args.text.now c.args.named c.requires

pub returns-then-begins_stop-clause-value : goal.returns-then-begins_stop-clause-value
returns-then-begins_stop-clause-value c =
    let text = c.args.text.now in
    ends_here text c.args.named c.requires (sym (ap begins_stop c.split_at.ensures.back) ∙ sym c.begins_stop.ensures ∙ c.if-begins_stop.true)

pub overflow_add-result : goal.overflow_add-result
overflow_add-result c =
    let text = c.args.text.now in
    let whole = ends_further text c.args.named c.count_word.result c.requires (c.count_word.ensures ∙ ap (position_or_len stops_word) c.split_at.ensures.back) in
    omega (arith, whole, prefix_len-le-length (λ x. not (stops_word x)) text)

pub returns-else-begins_stop-clause-value : goal.returns-else-begins_stop-clause-value
returns-else-begins_stop-clause-value c =
    let text = c.args.text.now in
    ends_further text c.args.named c.count_word.result c.requires (c.count_word.ensures ∙ ap (position_or_len stops_word) c.split_at.ensures.back)
