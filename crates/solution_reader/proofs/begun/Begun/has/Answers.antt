use Rattle.std.proofs.Common.{◌∙◌, ap}
use Rattle.solution_reader.specs.Data.{has_name}
use Rattle.solution_reader.specs.inner.Steps.{BegunData, begun_names}
use Rattle.solution_reader.proofs.Names.{has_known}
use Rattle.solution_reader.proofs.begun.Begun.has.Goals as goal

pub returns : goal.returns
returns c =
    c.contains_key.ensures ∙ has_known _ c.self.inside.numbers c.args.name.now c.self.invariant
    ∙ ap (λ (b : BegunData). has_name (begun_names b) c.args.name.now) c.self.view_is
