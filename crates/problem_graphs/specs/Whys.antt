-- Why one operation waits for another one.
use Rattle.std.specs.Prelude.{ℕ, codes, List, ◌++◌}
use Rattle.problems.specs.declared.draft.Draft.{Draft}
use Rattle.problem_graphs.specs.declared.whys.Why.{Why}
use Rattle.problem_graphs.specs.declared.whys.Why.TheVariants.{Value, Order}
use Rattle.solution_text.specs.Names.{value_name}

-- `value V`, and `order`
abbrev pub why_text : Draft → Why → List ℕ
why_text draft (Value value) = codes "value " ++ value_name draft value
why_text draft Order = codes "order"
