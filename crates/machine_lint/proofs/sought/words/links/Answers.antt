use Rattle.std.proofs.Common.{rules, ◌<◌, length, sym, arith}
use Rattle.machine_lint.specs.inner.Sought.{texts}
use Rattle.machine_lint.proofs.InOrder.{link-of, links-push, nth-texts}
use Rattle.machine_lint.proofs.sought.words.links.Goals as goal

pub loop-word-preserved : goal.loop-word-preserved
loop-word-preserved c =
    let below : c.loop-word.word-index < length c.args.words.now = omega arith in
    let is = link-of c.args.words.now c.loop-word.links.items c.as_slice.result.now c.loop-word.word-index c.len.result _ c.checked_sub.result c.descend-link.result
    c.requires below c.loop-word.invariant.all c.as_slice.ensures.value (search rules) c.checked_sub.ensures (sym (nth-texts c.args.words.now c.loop-word.word-index _ below))
    c.descend-link.ensures.first c.descend-link.ensures.others in
    record {
      are = links-push (texts c.args.words.now) c.loop-word.links.items c.push.new.self.items c.descend-link.result c.loop-word.invariant.are c.in_ok-push.ensures.items is;
      all = search rules;
    }

pub descend-link-requires-clause-links : goal.descend-link-requires-clause-links
descend-link-requires-clause-links c = rw c.as_slice.ensures.value c.loop-word.invariant.are
