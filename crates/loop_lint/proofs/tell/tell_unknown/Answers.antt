use Rattle.std.proofs.Common.{◌∙◌, ◌++◌, ◌∷◌, [], ap, sym}
use Rattle.loop_lines.specs.Words.{words_of}
use Rattle.reader_faults.specs.declared.loops.LoopFaultKind.TheVariants.{UnknownName}
use Rattle.loop_lint.specs.Hints.{hint_for, hint_of}
use Rattle.loop_lint.specs.Lints.{fault_at}
use Rattle.loop_lines.specs.Columns.{placed_words}
use Rattle.loop_lint.specs.Words.{spot_at}
use Rattle.loop_lint.specs.inner.Founds.{told_if}
use Rattle.loop_lint.proofs.tell.tell_unknown.Goals as goal

pub returns : goal.returns
returns c = λ forms is.
    let line = c.args.line.bytes.now in
    let old = c.args.faults.now.items in
    c.in_ok-tell_at.ensures
    ∙ ap (λ h. old ++ fault_at c.args.line.number UnknownName (spot_at (placed_words line) c.in-Some.word) h ∷ [])
    (c.in_ok-hint.ensures forms is ∙ ap (λ b. hint_for forms (words_of line) b UnknownName) c.word_at.ensures)
    ∙ ap (λ o. old ++ told_if c.args.line.number (placed_words line) (hint_of forms (words_of line)) UnknownName o) (sym c.in-Some.is)
