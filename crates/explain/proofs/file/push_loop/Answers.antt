use Rattle.graph.specs.Units.{first_without_table}
use Rattle.loop_schedules.specs.Problems.{IsProblemOf}
use Rattle.explain.proofs.Parts.{part-answer, prepared-ok}
use Rattle.explain.proofs.file.push_loop.Goals as goal

pub returns-in-Ok : goal.returns-in-Ok
returns-in-Ok c =
    let m = c.args.machine.now in
    let x = c.args.innermost in
    let r = c.args.settings.now.ratio in
    let k = c.args.settings.now.ceiling in
    let a = prepared-ok (first_without_table m x) (IsProblemOf m x r k) c.in-Ok.prepared c.in-Ok.ensures.exact in
    record { exact = part-answer m r k x c.in-Ok.prepared c.args.text.now.items c.push_prepared.new.text.items c.push_prepared.result a.1 c.push_prepared.ensures.exact }
