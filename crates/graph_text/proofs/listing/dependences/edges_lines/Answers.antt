use Rattle.std.proofs.lemmas.Result.{err_from_is_err_and}
use Rattle.lower_bounds.proofs.Lacking.{answered, lacking-here, lacking-more}
use Rattle.lower_bounds.proofs.Texts.{texts-item}
use Rattle.graph_text.proofs.listing.dependences.edges_lines.Goals as goal

pub returns-in_err-push_part : goal.returns-in_err-push_part
returns-in_err-push_part c =
    let p = err_from_is_err_and c.from_residual-in_err-push_part.result c.from_residual-in_err-push_part.ensures.1 in
    record {
      exact = rw (p.1, p.2) (lacking-here _ _ c.args.machine.now c.args.loops.now c.loop-innermost.innermost-index c.innermost-item.result _ c.loop-innermost-test.true c.innermost-item.is
          c.loop-innermost.invariant.complete c.in_err-push_part.ensures.exact);
    }

pub loop-innermost-preserved : goal.loop-innermost-preserved
loop-innermost-preserved c =
    let i = c.loop-innermost.innermost-index in
    let x = c.innermost-item.result in
    let a = answered _ _ _ c.in_ok-push_part.ensures.exact in
    record {
      complete = lacking-more c.args.machine.now c.args.loops.now i x c.loop-innermost-test.true c.innermost-item.is c.loop-innermost.invariant.complete a.0;
      parts = rw a.1.2 (texts-item _ (λ loop part. part) c.args.loops.now i x _ a.1.0 c.loop-innermost-test.true c.innermost-item.is c.loop-innermost.invariant.parts a.1.1);
    }
