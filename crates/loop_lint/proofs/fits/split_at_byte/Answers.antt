use Rattle.std.proofs.Common.{◌+◌, ◌∙◌, ap, arith, take, drop}
use Rattle.std.proofs.lemmas.List.{take_rest}
use Rattle.loop_lint.proofs.Signs.{any_there, none_there}
use Rattle.loop_lint.proofs.fits.split_at_byte.Goals as goal

pub returns-then-end-text : goal.returns-then-end-text
returns-then-end-text c = (
  any_there c.args.byte c.args.text.now _ c.count_before-end.ensures (omega arith),
  ap (λ n. take n c.args.text.now) c.count_before-end.ensures,
  take_rest c.args.text.now (c.count_before-end.result + 1) ∙ ap (λ n. drop (n + 1) c.args.text.now) c.count_before-end.ensures,
)

pub returns-else-end-text : goal.returns-else-end-text
returns-else-end-text c = none_there c.args.byte c.args.text.now _ c.count_before-end.ensures (omega arith)
