use Rattle.std.proofs.Common.{List, length, ap, ◌∙◌, subst, arith}
use Rattle.std.specs.Vec.Iter.{into_iter_items}
use Rattle.loop_data.specs.Loops.{LoopData}
use Rattle.graph.specs.Units.{first_lacking}
use Rattle.candidates.specs.Files.{AnswersOn, Prepares}
use Rattle.std.specs.Prelude.{Ok}
use Rattle.file_faults.proofs.Answering.{on_none}
use Rattle.candidates.proofs.Readied.{readied_all, readied_on}
use Rattle.candidates.proofs.preparing.prepare_into.Goals as goal

pub loop-innermost-preserved : goal.loop-innermost-preserved
loop-innermost-preserved c =
    let long = ap (λ (ls : List LoopData). length ls) c.in-Some.ensures.items in
    record {
      readied = readied_on c.args.machine.now c.args.settings.now.ratio c.args.settings.now.ceiling (into_iter_items c.into_iter-loops.result) (into_iter_items c.loop-innermost.loops) (into_iter_items c.next.new.self)
          c.loop-innermost.prepared.items c.push_reserved.new.self.items c.in-Some.innermost c.in-Ok.one c.loop-innermost.invariant.readied c.in-Some.ensures.items c.push_reserved.ensures.items c.in-Ok.ensures.exact;
      long = omega (arith, c.in-Some.ensures.len, c.loop-innermost.invariant.long);
      room = omega (arith, c.in-Some.ensures.len, c.push_reserved.ensures.len, c.push_reserved.ensures.capacity, c.loop-innermost.invariant.room);
    }

pub returns : goal.returns
returns c =
    let none = c.in_default.ensures.cases.0 in
    let all = readied_all c.args.machine.now c.args.settings.now.ratio c.args.settings.now.ceiling (into_iter_items c.into_iter-loops.result) (into_iter_items c.loop-innermost.loops) c.loop-innermost.prepared.items
    c.loop-innermost.invariant.readied (c.loop-innermost.invariant.long ∙ none) in
    record {
      exact = subst (λ (ls : List LoopData). AnswersOn (Prepares c.args.settings.now.ratio c.args.settings.now.ceiling c.args.machine.now ls) (first_lacking c.args.machine.now ls) (Ok c.loop-innermost.prepared)) c.into_iter-loops.ensures.rest
          (on_none (Prepares c.args.settings.now.ratio c.args.settings.now.ceiling c.args.machine.now (into_iter_items c.into_iter-loops.result)) (first_lacking c.args.machine.now (into_iter_items c.into_iter-loops.result)) c.loop-innermost.prepared all.1 all.0);
    }
