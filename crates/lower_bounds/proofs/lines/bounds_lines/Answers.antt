use Rattle.std.proofs.lemmas.Result.{err_from_is_err_and}
use Rattle.lower_bounds.specs.Bounds.{bounds_line}
use Rattle.lower_bounds.proofs.Lacking.{answered, lacking-here, lacking-more}
use Rattle.lower_bounds.proofs.Texts.{texts-item}
use Rattle.lower_bounds.proofs.lines.bounds_lines.Goals as goal

pub returns-in_err-measured : goal.returns-in_err-measured
returns-in_err-measured c =
    let p = err_from_is_err_and c.from_residual-in_err-measured.result c.from_residual-in_err-measured.ensures.1 in
    record {
      exact = rw (p.1, p.2) (lacking-here _ _ c.args.machine.now c.args.loops.now c.loop-innermost.innermost-index c.innermost-item.result _ c.loop-innermost-test.true c.innermost-item.is
          c.loop-innermost.invariant.complete c.in_err-measured.ensures.exact);
    }

pub loop-innermost-preserved : goal.loop-innermost-preserved
loop-innermost-preserved c =
    let i = c.loop-innermost.innermost-index in
    let x = c.innermost-item.result in
    let a = answered _ _ _ c.in_ok-measured.ensures.exact in
    record {
      complete = lacking-more c.args.machine.now c.args.loops.now i x c.loop-innermost-test.true c.innermost-item.is c.loop-innermost.invariant.complete a.0;
      lines = rw c.in_ok-push_bounds_line.ensures.ok (texts-item _ bounds_line c.args.loops.now i x _ c.in_ok-measured.measured.bounds c.loop-innermost-test.true c.innermost-item.is
          c.loop-innermost.invariant.lines (c.in_ok-measured.measured.graph, a.1));
    }
