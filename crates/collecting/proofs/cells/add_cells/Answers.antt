use Rattle.std.proofs.Common.{ap, ◌∙◌, ◌+◌}
use Rattle.std.specs.Prelude.{replicate, None}
use Rattle.collecting.proofs.cells.add_cells.Goals as goal

pub returns : goal.returns
returns c = record {
  row = c.in_ok-row.row;
  empty = c.in_ok-row.ensures ∙ ap (λ k. replicate (k + 1) None) c.ceiling.ensures.value;
  rows = c.in_ok-push.ensures.items;
}
