use Rattle.std.proofs.Common.{arith}
use Rattle.candidates.proofs.Listed.{choices_long}
use Rattle.candidates.proofs.listing.list_choices.Goals as goal

pub of-requires-clause-each : goal.of-requires-clause-each
of-requires-clause-each c =
    let whole = c.args.choices.ok.0 in
    let long = choices_long c.args.loops.now c.args.choices.items c.requires.choices in
    omega arith
