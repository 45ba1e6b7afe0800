use Rattle.machine_lint.proofs.InOrder.{put-last}
use Rattle.machine_lint.proofs.sought.words.put_above.Goals as goal

pub returns : goal.returns
returns c = put-last c.args.words.now.items c.push.new.self.items c.args.word c.requires c.in_ok-push.ensures.items (rw c.as_slice.ensures.value at c.is_above.ensures c.if-not-is_above.false)
