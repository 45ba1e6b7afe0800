use Rattle.std.proofs.Common.{◌+◌, ◌∙◌, ap, arith, take, drop}
use Rattle.std.proofs.lemmas.List.{take_rest}
use Rattle.problem_lines.proofs.Signs.{any_there}
use Rattle.problem_lines.proofs.names.split_hold.Goals as goal

pub returns-then-end-word : goal.returns-then-end-word
returns-then-end-word c = (
  any_there c.args.word.now _ c.count_unit-end.ensures (omega arith),
  ap (λ n. take n c.args.word.now) c.count_unit-end.ensures,
  take_rest c.args.word.now (c.count_unit-end.result + 1) ∙ ap (λ n. drop (n + 1) c.args.word.now) c.count_unit-end.ensures,
)
