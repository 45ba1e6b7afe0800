use Rattle.std.proofs.Common.{◌≡◌, Some, sym, ap, ◌∙◌, subst, List, refl, arith}
use Rattle.std.specs.Prelude.{slice_get}
use Rattle.registers.proofs.allotted.Least.{place-within}
use Rattle.registers.specs.inner.Gaps.{AreInOrder}
use Rattle.registers.specs.declared.numbers.gaps.Gap.{Gap}
use Rattle.registers.proofs.allotted.Freed.{one-there}
use Rattle.registers.proofs.allotted.Taking.{LeavesFits, start-left, between-order, between-left}
use Rattle.registers.proofs.numbers.gaps.take.Goals as goal

pub returns-then-before-eq0-clause-left : goal.returns-then-before-eq0-clause-left
returns-then-before-eq0-clause-left c =
    let gap : Gap = c.index-gap.result.now in
    let f = c.requires.fits in
    let here : slice_get c.args.gaps.now.items c.args.k ≡ Some gap = one-there c.args.gaps.now.items c.args.k gap (place-within c.args.gaps.now.items f.0 c.args.k f.1) ∙ ap (λ (x : Gap). Some x) (sym c.index-gap.ensures) in
    let e : Some f.0 ≡ Some gap = sym f.1 ∙ here in
    let same : f.0 ≡ gap = cc in
    let s : f.0.start ≡ gap.start = ap (λ (x : Gap). x.start) same in
    let r : f.0.room ≡ gap.room = ap (λ (x : Gap). x.room) same in
    let low = f.2 in let high = f.3 in let first = c.if-before-eq0.true in
    start-left c.args.gaps.now.items 4194304 c.args.k c.args.at c.args.length gap _ c.requires.order here (omega arith) (omega arith) refl (omega arith)

pub returns-in_ok-insert-clause-order : goal.returns-in_ok-insert-clause-order
returns-in_ok-insert-clause-order c = λ around is.
    let gap : Gap = c.index-gap.result.now in
    let f = c.requires.fits in
    let here : slice_get c.args.gaps.now.items c.args.k ≡ Some gap = one-there c.args.gaps.now.items c.args.k gap (place-within c.args.gaps.now.items f.0 c.args.k f.1) ∙ ap (λ (x : Gap). Some x) (sym c.index-gap.ensures) in
    let e : Some f.0 ≡ Some gap = sym f.1 ∙ here in
    let same : f.0 ≡ gap = cc in
    let s : f.0.start ≡ gap.start = ap (λ (x : Gap). x.start) same in
    let r : f.0.room ≡ gap.room = ap (λ (x : Gap). x.room) same in
    let low = f.2 in let high = f.3 in
    subst (AreInOrder around) (sym c.in_ok-insert.ensures.items)
    (between-order c.args.gaps.now.items around c.args.k gap _ _ is here refl (omega arith) (omega arith))

pub returns-in_ok-insert-clause-left : goal.returns-in_ok-insert-clause-left
returns-in_ok-insert-clause-left c =
    let gap : Gap = c.index-gap.result.now in
    let f = c.requires.fits in
    let here : slice_get c.args.gaps.now.items c.args.k ≡ Some gap = one-there c.args.gaps.now.items c.args.k gap (place-within c.args.gaps.now.items f.0 c.args.k f.1) ∙ ap (λ (x : Gap). Some x) (sym c.index-gap.ensures) in
    let e : Some f.0 ≡ Some gap = sym f.1 ∙ here in
    let same : f.0 ≡ gap = cc in
    let s : f.0.start ≡ gap.start = ap (λ (x : Gap). x.start) same in
    let r : f.0.room ≡ gap.room = ap (λ (x : Gap). x.room) same in
    let low = f.2 in let high = f.3 in
    subst (λ (gaps : List Gap). LeavesFits c.args.gaps.now.items gaps c.args.at c.args.length) (sym c.in_ok-insert.ensures.items)
    (between-left c.args.gaps.now.items 4194304 c.args.k c.args.at c.args.length gap _ _ c.requires.order here (omega arith) (omega arith) refl (omega arith) refl (omega arith))
