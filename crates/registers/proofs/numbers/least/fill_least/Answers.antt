use Rattle.std.proofs.Common.{◌≡◌, ◌<◌, ◌*◌, ◌∷◌, [], ◌++◌, ℕ, List, Some, None, length, get_or, set, sym, ap, ◌∙◌, ◌+◌, refl, subst, arith}
use Rattle.registers.specs.declared.lifetime.Lifetime.{Lifetime}
use Rattle.registers.specs.inner.Gaps.{place_at, number_of}
use Rattle.registers.specs.inner.Turns.{arc_of}
use Rattle.registers.specs.declared.numbers.gaps.Gap.{Gap}
use Rattle.registers.specs.declared.values.turns.Arc.{Arc}
use Rattle.registers.proofs.allotted.Freed.{one-there, span-at}
use Rattle.registers.proofs.allotted.Filled.{LeastBelow, below-lawful, below-least, below-none_at, below-more}
use Rattle.registers.proofs.allotted.Taking.{LeavesFits}
use Rattle.registers.proofs.allotted.Placing.{HaveGaps, ArcFits, FoundFit, gaps-none, gaps-more, found-least}
use Rattle.registers.proofs.numbers.least.fill_least.Goals as goal

pub loop-k-init : goal.loop-k-init
loop-k-init c = record {
  gaps = subst (HaveGaps c.args.ii c.args.registers c.point_of-origin.result c.args.lives.now c.args.numbers.now 0)
      (sym (c.push_reserved.ensures.items ∙ ap (λ (gaps : List Gap). gaps ++ record { start = 0; room = c.args.registers * 16384 } ∷ []) c.in_ok-gaps.ensures.items))
      (gaps-none c.args.ii c.args.registers c.point_of-origin.result c.args.lives.now c.args.numbers.now (record { start = 0; room = c.args.registers * 16384 }) refl refl);
  least = λ n life lt e. absurd (omega arith);
}

pub returns-in_default-clause-first : goal.returns-in_default-clause-first
returns-in_default-clause-first c =
    let none : Lifetime = record { operation = 0; first = 0; last = 0 } in
    let a = c.requires.each in
    let b = c.loop-k.auto.numbers in
    let t : c.loop-k.k < length c.args.lives.now = c.loop-k-test.true in
    let first = one-there c.args.lives.now 0 none (omega arith) in
    let here = one-there c.args.lives.now c.loop-k.k none t in
    let i = c.loop-k.invariant in
    let lawful = below-lawful c.args.ii c.args.registers c.args.lives.now c.loop-k.numbers c.loop-k.k (omega arith) (omega arith) i.least in
    let fit : FoundFit c.args.ii c.args.registers c.point_of-origin.result (get_or c.args.lives.now c.loop-k.k none) c.loop-k.gaps.items None
    = subst (λ (arc : Arc). ArcFits c.args.registers c.loop-k.gaps.items arc None) c.of-arc.ensures.value
    (subst (λ (gaps : List Gap). ArcFits c.args.registers gaps c.of-arc.result None) c.as_slice.ensures.value c.in_default.ensures) in
    below-none_at c.args.ii c.args.registers c.args.lives.now c.loop-k.numbers c.loop-k.k (get_or c.args.lives.now c.loop-k.k none) (omega arith) t here i.least
    (found-least c.args.ii c.args.registers c.point_of-origin.result c.args.lives.now c.loop-k.numbers c.loop-k.k c.loop-k.gaps.items
    (get_or c.args.lives.now 0 none) (get_or c.args.lives.now c.loop-k.k none) None c.requires.some c.requires.few c.requires.registers_some c.requires.lives
    (span-at c.args.lives.now c.loop-k.k (get_or c.args.lives.now c.loop-k.k none) here c.requires.lives) first here c.point_of-origin.ensures.value i.gaps lawful fit)

pub loop-k-preserved : goal.loop-k-preserved
loop-k-preserved c =
    let none : Lifetime = record { operation = 0; first = 0; last = 0 } in
    let other : Lifetime = get_or c.args.lives.now c.loop-k.k none in
    let origin : ℕ = c.point_of-origin.result in
    let a = c.requires.each in
    let b = c.loop-k.auto.numbers in
    let t : c.loop-k.k < length c.args.lives.now = c.loop-k-test.true in
    let first = one-there c.args.lives.now 0 none (omega arith) in
    let here = one-there c.args.lives.now c.loop-k.k none t in
    let span = span-at c.args.lives.now c.loop-k.k other here c.requires.lives in
    let i = c.loop-k.invariant in
    let lawful = below-lawful c.args.ii c.args.registers c.args.lives.now c.loop-k.numbers c.loop-k.k (omega arith) (omega arith) i.least in
    let fit : FoundFit c.args.ii c.args.registers origin other c.loop-k.gaps.items (Some c.in-Some.fit)
    = subst (λ (arc : Arc). ArcFits c.args.registers c.loop-k.gaps.items arc (Some c.in-Some.fit)) c.of-arc.ensures.value
    (subst (λ (gaps : List Gap). ArcFits c.args.registers gaps c.of-arc.result (Some c.in-Some.fit)) c.as_slice.ensures.value c.in-Some.ensures) in
    let number : c.number_of.result ≡ number_of c.args.registers (arc_of c.args.ii c.args.registers origin other).turn c.in-Some.fit.turn
    = c.number_of.ensures.value ∙ ap (λ (arc : Arc). number_of c.args.registers arc.turn c.in-Some.fit.turn) c.of-arc.ensures.value in
    let left : LeavesFits c.loop-k.gaps.items c.take.new.gaps.items (place_at (arc_of c.args.ii c.args.registers origin other).phase c.in-Some.fit.turn) (arc_of c.args.ii c.args.registers origin other).length
    = subst (λ (arc : Arc). LeavesFits c.loop-k.gaps.items c.take.new.gaps.items (place_at arc.phase c.in-Some.fit.turn) arc.length) c.of-arc.ensures.value c.in_ok-take.ensures.left in
    let least = found-least c.args.ii c.args.registers origin c.args.lives.now c.loop-k.numbers c.loop-k.k c.loop-k.gaps.items (get_or c.args.lives.now 0 none) other (Some c.in-Some.fit)
    c.requires.some c.requires.few c.requires.registers_some c.requires.lives span first here c.point_of-origin.ensures.value i.gaps lawful fit in
    record {
      gaps = subst (λ n. HaveGaps c.args.ii c.args.registers origin c.args.lives.now (set c.loop-k.numbers c.loop-k.k n) (c.loop-k.k + 1) c.take.new.gaps.items) (sym number)
          (gaps-more c.args.ii c.args.registers origin c.args.lives.now c.loop-k.numbers c.loop-k.k c.loop-k.gaps.items c.take.new.gaps.items (get_or c.args.lives.now 0 none) other c.in-Some.fit
          c.requires.some c.requires.few c.requires.registers_some c.requires.lives span first here c.point_of-origin.ensures.value (omega arith) i.gaps fit
          (c.in_ok-take.ensures.order (c.args.registers * 16384) i.gaps.order) left);
      least = subst (λ n. LeastBelow c.args.ii c.args.registers c.args.lives.now (set c.loop-k.numbers c.loop-k.k n) (c.loop-k.k + 1)) (sym number)
          (below-more c.args.ii c.args.registers c.args.lives.now c.loop-k.numbers c.loop-k.k (number_of c.args.registers (arc_of c.args.ii c.args.registers origin other).turn c.in-Some.fit.turn) other (omega arith) here i.least least);
    }

pub returns-clause-first : goal.returns-clause-first
returns-clause-first c =
    let a = c.requires.each in
    let b = c.loop-k.auto.numbers in
    let t = c.loop-k-test.false in
    below-least c.args.ii c.args.registers c.args.lives.now c.loop-k.numbers c.loop-k.k (omega arith) (omega arith) c.loop-k.invariant.least
