use Rattle.std.proofs.Common.{[], subst, sym}
use Rattle.solution_reader.specs.Meaning.{forms_of, lines_from}
use Rattle.solution_reader.specs.inner.Steps.{IsSofar}
use Rattle.solution_reader.specs.inner.Taken.{sofar_seen}
use Rattle.solution_reader.proofs.Lines.{answers_text}
use Rattle.solution_reader.proofs.Steps.{first_step}
use Rattle.solution_reader.proofs.read.read_all.Goals as goal

pub returns-in-Ok : goal.returns-in-Ok
returns-in-Ok c =
    let first : IsSofar [] (sofar_seen c.args.sofar.now) = subst (IsSofar []) (sym c.requires.start) first_step in
    c.finish.ensures (forms_of c.args.text.now) (c.in-Ok.ensures [] first)

pub returns-in-Err : goal.returns-in-Err
returns-in-Err c =
    let first : IsSofar [] (sofar_seen c.args.sofar.now) = subst (IsSofar []) (sym c.requires.start) first_step in
    answers_text c.in-Err.fault.what c.in-Err.fault (lines_from 1 [] (forms_of c.args.text.now)) (c.in-Err.ensures [] first)
