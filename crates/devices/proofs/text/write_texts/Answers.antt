use Rattle.std.proofs.Common.{ℕ, List, Result, Ok, Err, OnErr, subst, sym, suc, take, drop}
use Rattle.devices.specs.Devices.{TakesBeginning, joined_text}
use Rattle.devices.specs.declared.device.Fault.{Fault}
use Rattle.devices.proofs.TextLemmas.{begins_after, joined-apart}
use Rattle.devices.proofs.text.write_texts.Goals as goal

-- what holds anyway
on_err : (p : Type 0) (r : Result (Unit {0}) Fault) → p → OnErr r p
on_err p (Ok done) h = tt
on_err p (Err fault) h = h

pub returns-in_err-give-clause-beginning : goal.returns-in_err-give-clause-beginning
returns-in_err-give-clause-beginning g c =
    let texts = c.args.texts.now in
    let text = c.text-item.result in
    let taken = g.O.Output.taken c.args.output.now in
    let before = g.O.Output.taken c.loop-text.output in
    let after = g.O.Output.taken c.give.new.output in
    let begun : TakesBeginning before after text.items = subst (λ (t : List ℕ). TakesBeginning before after t) c.as_slice.ensures.value c.in_err-give.ensures.beginning in
    on_err _ c.from_residual.result
    (subst (λ (t : List ℕ). TakesBeginning taken after t) (sym (joined-apart texts c.loop-text.text-index text c.loop-text-test.true c.text-item.is))
    (begins_after taken before after (joined_text (take c.loop-text.text-index texts)) text.items (joined_text (drop (suc c.loop-text.text-index) texts)) c.loop-text.invariant.written begun))
