use Rattle.std.proofs.Common.{◌∙◌, ap, List}
use Rattle.solution_reader.specs.Data.{OpData, op_names, has_name}
use Rattle.solution_reader.proofs.Names.{has_known}
use Rattle.solution_reader.proofs.ops.Ops.has.Goals as goal

pub returns : goal.returns
returns c =
    c.contains_key.ensures ∙ has_known _ c.self.inside.numbers c.args.name.now c.self.invariant
    ∙ ap (λ (rows : List OpData). has_name (op_names rows) c.args.name.now) c.self.view_is
