use Rattle.std.proofs.Common.{◌≡◌, List, length, sym, ap, ◌∙◌, subst, arith}
use Rattle.std.specs.Prelude.{Ok}
use Rattle.std.specs.Vec.Iter.{into_iter_items}
use Rattle.loop_data.specs.Loops.{LoopData}
use Rattle.graph.specs.Units.{first_lacking}
use Rattle.file_faults.proofs.Answering.{on_none}
use Rattle.candidates.specs.Files.{AnswersOn, Prepares}
use Rattle.candidates.proofs.Readied.{readied_all, readied_on}
use Rattle.workers.specs.inner.Found.{IsFound}
use Rattle.workers.proofs.Joined.{zipped_after, zipped_long}
use Rattle.workers.proofs.preparing.join_into.Goals as goal
use Rattle.workers.proofs.preparing.join_into.Goals.{in-Some+in_default-next, in_default}

pub loop-innermost-preserved : goal.loop-innermost-preserved
loop-innermost-preserved c =
    let m = c.args.machine.now in
    let r = c.args.settings.now.ratio in
    let k = c.args.settings.now.ceiling in
    let before = c.loop-innermost.invariant in
    let long = ap length c.in-Some.ensures.items in
    let found_long = ap length c.in-Some-next.ensures.items in
    record {
      readied = readied_on m r k (into_iter_items c.into_iter-loops.result) (into_iter_items c.loop-innermost.loops) (into_iter_items c.next.new.self)
          c.loop-innermost.prepared.items c.push_reserved.new.self.items c.in-Some.innermost c.in-Ok.one before.readied c.in-Some.ensures.items c.push_reserved.ensures.items c.in-Ok.ensures.exact;
      found = zipped_after (IsFound r k m) (into_iter_items c.loop-innermost.loops) (into_iter_items c.next.new.self) (into_iter_items c.loop-innermost.found) (into_iter_items c.next-in-Some.new.self)
          c.in-Some.innermost c.in-Some-next.part before.found c.in-Some.ensures.items c.in-Some-next.ensures.items;
      long = omega (arith, c.in-Some.ensures.len, before.long);
      found_long = omega (arith, c.in-Some-next.ensures.len, before.found_long);
      room = omega (arith, c.in-Some.ensures.len, c.push_reserved.ensures.len, c.push_reserved.ensures.capacity, before.room);
    }

pub returns : goal.returns
returns c =
    let m = c.args.machine.now in
    let r = c.args.settings.now.ratio in
    let k = c.args.settings.now.ceiling in
    let left = into_iter_items c.loop-innermost.loops in
    let before = c.loop-innermost.invariant in
    let all = into_iter_items c.into_iter-loops.result in
    let none : length left ≡ 0 = elim c.match-next.branch [
      | in-Some+in_default-next w ↦ sym (zipped_long (IsFound r k m) left (into_iter_items c.loop-innermost.found) before.found) ∙ (before.found_long ∙ w.in_default-next.ensures.cases.0)
      | in_default w ↦ before.long ∙ w.in_default.ensures.cases.0
    ] in
    let both = readied_all m r k all left c.loop-innermost.prepared.items before.readied none in
    record {
      exact = subst (λ (ls : List LoopData). AnswersOn (Prepares r k m ls) (first_lacking m ls) (Ok c.loop-innermost.prepared)) c.into_iter-loops.ensures.rest
          (on_none (Prepares r k m all) (first_lacking m all) c.loop-innermost.prepared both.1 both.0);
    }
