use Rattle.std.proofs.Common.{◌+◌, ◌≤◌, length, sym, ap, ◌∙◌, subst, arith}
use Rattle.loop_schedules.specs.Problems.{ProblemData, mii_of}
use Rattle.told_intervals.specs.Reasons.{FailsFor, IsMet, IsTried}
use Rattle.told_choices.proofs.Telling.{all-of, handed-met, told-more, told-none, told-unmet}
use Rattle.told_choices.proofs.told.choose_by.Goals as goal

pub loop-above-init : goal.loop-above-init
loop-above-init c = record { same = c.requires.trials; told = told-none c.args.prepared.now _ _ _ c.requires.are (ap length c.requires.none) }

pub loop-above-preserved : goal.loop-above-preserved
loop-above-preserved c =
    let p = c.args.prepared.now in
    let at = c.loop-above in
    let told = at.invariant.told in
    let ii = c.mii.result + at.above in
    let tried = subst (λ (q : ProblemData). IsTried q ii c.in-Ok-Failed.field-0) at.invariant.same c.in-Ok-Failed.ensures.exact in
    let there : FailsFor p ii c.in-Ok-Failed.reason = subst (IsTried p ii) c.in-Ok-Failed.field-0-is tried in
    let fails : FailsFor p (mii_of p + at.above) c.in-Ok-Failed.reason = subst (λ m. FailsFor p (m + at.above) c.in-Ok-Failed.reason) c.mii.ensures.value there in
    let next : FailsFor p (mii_of p + length at.failures.list.items) c.in-Ok-Failed.reason = subst (λ n. FailsFor p (mii_of p + n) c.in-Ok-Failed.reason) (sym told.many) fails in
    let added = c.in_default.ensures in
    record {
      same = c.try_told.ensures.same ∙ at.invariant.same;
      told = told-more p at.above at.last c.cause-last.result c.in-Ok-Failed.reason at.failures.list.items c.add.new.self.list.items at.failures.lack c.add.new.self.lack
          c.mii.ensures.well_formed told fails c.cause-last.ensures.value (added.are p told.are next) added.more;
    }

pub with_figures-requires : goal.with_figures-requires
with_figures-requires c = (c.args.prepared.now, c.loop-above.invariant.told.are)

pub returns-in-Ok-Met : goal.returns-in-Ok-Met
returns-in-Ok-Met c =
    let p = c.args.prepared.now in
    let at = c.loop-above in
    let told = at.invariant.told in
    let ii = c.mii.result + at.above in
    let few : at.above ≤ p.ceiling = (let e = c.ceiling-above-end.ensures.value in let t = c.loop-above-test.true in omega arith) in
    let tried = subst (λ (q : ProblemData). IsTried q ii c.in-Ok-Met.field-0) at.invariant.same c.in-Ok-Met.ensures.exact in
    let is : IsMet p ii c.in-Ok-Met.met = subst (IsTried p ii) c.in-Ok-Met.field-0-is tried in
    handed-met p at.above c.mii.result at.last at.failures.list.items at.failures.lack c.with_figures.new.failures.list c.in-Ok-Met.met c.with_figures.result c.mii.ensures.value told is few
    (c.with_figures.ensures p told.are)

pub tell_last-requires : goal.tell_last-requires
tell_last-requires c = (c.args.prepared.now, c.loop-above.invariant.told.are)

pub returns-in-Ok : goal.returns-in-Ok
returns-in-Ok c =
    let p = c.args.prepared.now in
    let at = c.loop-above in
    let told = at.invariant.told in
    let reasons = c.tell_last.new.self.list in
    told-unmet p at.above at.last reasons told.risen (all-of p at.above at.last at.failures.list.items reasons.items at.failures.lack told (c.in-Ok.ensures p told.are))
    (let e = c.ceiling-above-end.ensures.value in let t = c.loop-above-test.false in let u = at.auto.above-end in omega arith)
