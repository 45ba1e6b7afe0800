use Rattle.std.proofs.Common.{◌∙◌, ◌<◌, List, length, subst, IfSome}
use Rattle.solution_reader.specs.Data.{SolutionData}
use Rattle.solution_reader.specs.Resolved.{no_solution}
use Rattle.solution_reader.proofs.Names.{known_within}
use Rattle.solution_reader.proofs.file.SolutionFile.find.Goals as goal

pub returns-clause-within : goal.returns-clause-within
returns-clause-within c =
    subst (λ (ss : List SolutionData). IfSome c.copied.result (λ number. number < length ss)) c.self.view_is
    (known_within (λ (s : SolutionData). s.head.name.bytes) c.as_bytes.result.now no_solution c.self.inside.numbers c.self.inside.solutions.items c.copied.result c.self.invariant (c.copied.ensures ∙ c.get.ensures.value))
