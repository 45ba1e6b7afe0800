use Rattle.std.proofs.Common.{◌≡◌, arith, codes}
use Rattle.clap.specs.Words.{found_of, rows_of}
use Rattle.command_line.proofs.LineLemmas.{none-further, searches-alone}
use Rattle.command_line.proofs.line.given.task_given.Goals as goal

pub returns-in_default-clause-none : goal.returns-in_default-clause-none
returns-in_default-clause-none c =
    let bounds : c.args.name.now ≡ codes "bounds" → ⊥ = grind arith in
    let edges : c.args.name.now ≡ codes "edges" → ⊥ = grind arith in
    let dot : c.args.name.now ≡ codes "dot" → ⊥ = grind arith in
    none-further c.searched.result (searches-alone (rows_of (found_of c.args.values.now)) c.args.name.now bounds edges dot) c.searched.ensures.none
