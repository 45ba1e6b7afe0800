use Rattle.std.proofs.Common.{arith}
use Rattle.solution_reader.specs.Meaning.{forms_of}
use Rattle.solution_reader.specs.inner.Taken.{sofar_seen}
use Rattle.solution_reader.proofs.Lines.{goes_on}
use Rattle.solution_reader.proofs.read.take_lines.Goals as goal

pub loop-rest-preserved : goal.loop-rest-preserved
loop-rest-preserved c = record {
  room = omega (arith, c.next_line.ensures.shorter, c.loop-rest.invariant.room);
  goes = λ before is.
      let g = c.loop-rest.invariant.goes before is in
      goes_on before (forms_of c.args.text.now) c.loop-rest.number (sofar_seen c.loop-rest.sofar) (sofar_seen c.take.new.sofar) c.loop-rest.rest.now c.next_line.result.0.now c.next_line.result.1.now g c.next_line.ensures.lines
      (c.in_default.ensures g.after (forms_of c.next_line.result.1.now) g.is);
}
