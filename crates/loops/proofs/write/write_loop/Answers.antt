use Rattle.std.proofs.Common.{sym, ap, ◌∙◌}
use Rattle.loop_reader.specs.Meaning.{loops_in}
use Rattle.loops.proofs.ReadBack.{read_back}
use Rattle.loops.proofs.Texts.{text_of-is}
use Rattle.loops.proofs.write.write_loop.Goals as goal

pub returns-clause-text : goal.returns-clause-text
returns-clause-text c = rw (c.in_ok-push_str.ensures.bytes, c.in_ok-write_outs.ensures, c.in_ok-write_statements.ensures, c.in_ok-write_inits.ensures, c.in_ok-write_params.ensures, c.params.ensures.value, c.in_ok-write_arrays.ensures, c.arrays.ensures.value, c.in_ok-write_head.ensures, c.in_ok-text.ensures.bytes)
    (sym (text_of-is c.args.innermost.now))

pub returns-clause-reads_back : goal.returns-clause-reads_back
returns-clause-reads_back c = ap loops_in (returns-clause-text c) ∙ read_back c.args.innermost.now c.arrays.ensures.well_formed
