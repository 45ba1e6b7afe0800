use Rattle.std.proofs.Common.{◌∙◌, ap}
use Rattle.solution_reader.specs.Data.{has_name}
use Rattle.solution_reader.specs.Resolved.{first_value_failing}
use Rattle.solution_reader.specs.inner.Found.{is_among}
use Rattle.solution_reader.proofs.First.{value_failing_same}
use Rattle.solution_reader.proofs.resolve.unknown_value.Goals as goal

pub returns : goal.returns
returns c =
    c.first_unknown_value.ensures
    ∙ ap (first_value_failing (is_among c.in_ok-known.known)) c.rows.ensures
    ∙ value_failing_same (is_among c.in_ok-known.known) (has_name c.args.names.now) c.in_ok-known.ensures c.args.values.now
