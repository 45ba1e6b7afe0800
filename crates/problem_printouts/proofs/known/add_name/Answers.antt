use Rattle.std.proofs.Common.{◌∙◌, sym}
use Rattle.problem_printouts.proofs.Named.{added-new}
use Rattle.problem_printouts.proofs.known.add_name.Goals as goal

pub returns-in-Ok : goal.returns-in-Ok
returns-in-Ok c = added-new c.args.numbers.now c.insert.new.self c.args.name.now c.args.number (sym c.contains_key.ensures ∙ c.if-contains_key.false) c.in-Ok.ensures.updates
