use Rattle.std.proofs.Common.{◌≡◌, map, take}
use Rattle.serde_json.specs.Data.{string}
use Rattle.serde_json.specs.View.{view}
use Rattle.solution_text.specs.Names.{name_in}
use Rattle.solution_json.proofs.told.told_names.Given as goal

abbrev pub invariant-loop-number : goal.invariant-loop-number
invariant-loop-number l = map view l.values.items ≡ map (λ number. string (name_in l.names number)) (take l.number-index l.numbers)
