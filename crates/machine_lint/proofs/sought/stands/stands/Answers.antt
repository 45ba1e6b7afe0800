use Rattle.std.proofs.Common.{rules, ◌<◌, length, take, sym, ap, ◌∙◌, arith}
use Rattle.std.proofs.lemmas.List.{take_more}
use Rattle.machine_lint.specs.Places.{place_after}
use Rattle.machine_lint.proofs.Keys.{comment-more}
use Rattle.machine_lint.proofs.Standing.{stand-more}
use Rattle.machine_lint.proofs.sought.stands.stands.Goals as goal

pub loop-byte-preserved : goal.loop-byte-preserved
loop-byte-preserved c =
    let below : c.loop-byte.byte-index < length c.args.text.now = omega arith in
    record {
      are = stand-more c.args.text.now c.loop-byte.stands.items c.push.new.self.items c.loop-byte.byte-index c.loop-byte.place c.loop-byte.begun c.in_ok-push.ensures.items
          c.loop-byte.invariant.all c.loop-byte.invariant.are c.loop-byte.invariant.place c.loop-byte.invariant.begun;
      all = search rules;
      begun = c.comments_on-begun.ensures ∙ comment-more c.args.text.now c.loop-byte.byte-index c.loop-byte.begun below c.loop-byte.invariant.begun;
      place = c.after-place.ensures.is (take c.loop-byte.byte-index c.args.text.now) c.loop-byte.invariant.place ∙ ap place_after (sym (take_more c.args.text.now c.loop-byte.byte-index 0 below));
      line = let low = c.loop-byte.invariant.line in let next = c.after-place.ensures.line in omega (arith, low, next);
      column = let low = c.loop-byte.invariant.column in let next = c.after-place.ensures.column in omega (arith, low, next);
    }
