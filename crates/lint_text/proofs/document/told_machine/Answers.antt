use Rattle.lint_text.proofs.document.told_machine.Goals as goal

pub returns : goal.returns
returns c = c.told_fault.ensures _ _ c.machine_word-word.ensures c.machine_message-message.ensures
