use Rattle.std.proofs.Common.{◌∙◌, inl, sym, length, arith}
use Rattle.problem_tables.specs.Seen.{tables_seen}
use Rattle.problem_reader.proofs.Reading.{answer-end, answer-line, long-text, nothing-left, over, read-more, read-none, sound-file, under}
use Rattle.problem_reader.proofs.read.read_problems.Goals as goal

pub returns-then-text-gt-MAX_PROBLEM_TEXT-clause-exact : goal.returns-then-text-gt-MAX_PROBLEM_TEXT-clause-exact
returns-then-text-gt-MAX_PROBLEM_TEXT-clause-exact c = inl (long-text c.args.text.now (over (length c.args.text.now) (omega arith)))

pub loop-rest-init : goal.loop-rest-init
loop-rest-init c = record { read = read-none c.args.text.now (tables_seen c.new-tables.result) c.new-tables.ensures; within = omega arith }

pub returns-in-Err-clause-exact : goal.returns-in-Err-clause-exact
returns-in-Err-clause-exact c =
    answer-line c.args.text.now (tables_seen c.loop-rest.tables) c.loop-rest.line c.loop-rest.rest.now c.next_line.result.0.now c.next_line.result.1.now c.in-Err.fault
    (under (length c.args.text.now) (omega arith)) c.loop-rest.invariant.read c.next_line.ensures.lines c.in-Err.ensures.fault

pub loop-rest-preserved : goal.loop-rest-preserved
loop-rest-preserved c =
    let within = c.loop-rest.invariant.within in
    let shorter = c.next_line.ensures.shorter in
    record {
      read = read-more c.args.text.now (tables_seen c.loop-rest.tables) (tables_seen c.take_text.new.tables) c.loop-rest.line c.loop-rest.rest.now c.next_line.result.0.now c.next_line.result.1.now
          c.loop-rest.invariant.read c.next_line.ensures.lines c.in_default.ensures.fault c.in_default.ensures.taken;
      within = omega (arith, within, shorter);
    }

pub file_of-requires : goal.file_of-requires
file_of-requires c = sound-file (tables_seen c.loop-rest.tables) c.loop-rest.invariant.read.sofar.sound c.loop-rest.invariant.read.sofar.faultless

pub returns-clause-exact : goal.returns-clause-exact
returns-clause-exact c =
    answer-end c.args.text.now (tables_seen c.loop-rest.tables) c.loop-rest.line c.loop-rest.rest.now c.file_of.result (under (length c.args.text.now) (omega arith)) c.loop-rest.invariant.read
    (nothing-left c.loop-rest.rest.now (sym c.loop-rest-test.false ∙ c.is_empty.ensures)) c.file_of.ensures
