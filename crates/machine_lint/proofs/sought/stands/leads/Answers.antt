use Rattle.std.proofs.Common.{rules, ◌≡◌, ◌+◌, ◌-◌, ◌<◌, length, arith}
use Rattle.machine_lint.proofs.Standing.{lead-more}
use Rattle.machine_lint.proofs.sought.stands.leads.Goals as goal

pub loop-at-preserved : goal.loop-at-preserved
loop-at-preserved c =
    let back : c.loop-at.at - 1 + 1 ≡ c.loop-at.at = omega arith in
    let below : c.loop-at.at - 1 < length c.args.text.now = omega arith in
    record {
      are = lead-more c.args.text.now c.loop-at.leads.items (c.loop-at.at - 1) c.leads_by.result c.index.result.now below c.loop-at.invariant.all (rw back c.loop-at.invariant.are) c.leads_by.ensures (search rules);
      all = search rules;
    }
