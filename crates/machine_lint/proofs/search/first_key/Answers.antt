use Rattle.std.proofs.Common.{◌<◌, length, sym, ◌∙◌, arith}
use Rattle.machine_lint.specs.Words.{is_key_at}
use Rattle.machine_lint.proofs.Keys.{comment-more}
use Rattle.machine_lint.proofs.Steps.{first-next}
use Rattle.machine_lint.proofs.search.first_key.Goals as goal

pub loop-at-preserved : goal.loop-at-preserved
loop-at-preserved c =
    let below : c.loop-at.at < length c.args.text.now = omega arith in
    record {
      none = first-next (is_key_at c.args.text.now c.args.word.now) c.loop-at.at (length c.args.text.now) _ below (sym c.if-is_key_at.ensures.is) c.loop-at.invariant.none;
      begun = c.comments_on-begun.ensures ∙ comment-more c.args.text.now c.loop-at.at c.loop-at.begun below c.loop-at.invariant.begun;
    }
