use Rattle.devices.specs.declared.text.ReadTextError.{ReadTextError}
use Rattle.std.proofs.Common.{ap, Err, ◌∙◌}
use Rattle.devices.proofs.TextLemmas.{IfSome-from, fault_exactly}
use Rattle.devices.proofs.text.read_text_of.Goals as goal

pub returns-clause-text : goal.returns-clause-text
returns-clause-text g c = IfSome-from _ _ (λ bytes h. c.truncate.ensures.items ∙ c.in_ok-filled.ensures.read.text bytes h)

pub returns-clause-rest : goal.returns-clause-rest
returns-clause-rest g c = IfSome-from _ _ c.in_ok-filled.ensures.read.rest

pub returns-in_err-filled-clause-fault : goal.returns-in_err-filled-clause-fault
returns-in_err-filled-clause-fault g c =
    fault_exactly _ c.in_err-filled.field-0.0 _ _ c.from_residual-in_err-filled.ensures.1
    (λ e. c.in_err-filled.ensures.fault (ap (λ (x : ReadTextError). Err x) e))
    (λ e. c.in_err-filled.ensures.memory (ap (λ (x : ReadTextError). Err x) e))
