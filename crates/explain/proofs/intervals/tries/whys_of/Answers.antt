use Rattle.std.proofs.Common.{ℕ, sym, subst}
use Rattle.told_choices.specs.declared.why.Why.{Why}
use Rattle.told_choices.specs.Whys.{IsWhy}
use Rattle.explain.proofs.intervals.tries.whys_of.Goals as goal

pub why_of-requires : goal.why_of-requires
why_of-requires c = record {
  is = subst (λ (r : Why). (x : ℕ) × IsWhy c.args.prepared.now x r) (sym c.reason-item.is)
      (c.requires.are c.loop-reason.reason-index c.reason-item.result c.loop-reason-test.true);
}
