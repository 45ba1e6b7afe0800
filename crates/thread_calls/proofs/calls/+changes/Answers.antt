use Rattle.std.proofs.Common.{arith}
use Rattle.thread_calls.proofs.Changed.{changed-last}
use Rattle.thread_calls.proofs.calls.+changes.Goals as goal

pub change_all-returns : goal.change_all-returns
change_all-returns g t c =
    let cut = c.split_at_mut-others in
    changed-last g.F.Fn c.args.call.now c.args.items.now cut.result.0.now cut.result.1.now c.change_both.new.others c.index-own-0.result c.change_both.new.own _
    cut.ensures.value cut.ensures.front_len cut.ensures.back_len (omega arith) (omega arith) c.change_both.ensures.others.each c.change_both.ensures.own.by_call
