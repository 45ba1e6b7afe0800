use Rattle.command_line.proofs.LineLemmas.{schedule-formless}
use Rattle.clap.specs.Words.{found_of, rows_of}
use Rattle.command_line.proofs.line.given.search_given.Goals as goal

pub returns-in-None-clause-none : goal.returns-in-None-clause-none
returns-in-None-clause-none c = schedule-formless (rows_of (found_of c.args.values.now)) c.args.name.now c.in-schedule.is c.in-None.ensures.none
