use Rattle.std.proofs.Common.{◌≡◌, ◌∙◌, ℕ, List, ap₂, string_bytes, subst, IfOk}
use Rattle.serde_json.specs.View.{view}
use Rattle.loop_lint.specs.Lacks.{column_of}
use Rattle.lint_text.specs.Document.{fault_value}
use Rattle.lint_text.specs.Lines.{word_in}
use Rattle.lint_text.specs.What.{message_of}
use Rattle.lint_text.specs.Words.{piece_at, shown}
use Rattle.lint_text.proofs.document.told_loop.Goals as goal

pub returns : goal.returns
returns c =
    let line : List ℕ = c.args.line.now in
    let lint = c.args.lint.now in
    let there : List ℕ = word_in line lint in
    let piece : c.piece_at-piece.result.now ≡ there = c.piece_at-piece.ensures ∙ ap₂ (λ a b. piece_at line a b) c.column.ensures c.width.ensures in
    let word = subst (λ (p : List ℕ). IfOk c.shown_word-word.result (λ t. string_bytes t ≡ shown p)) piece c.shown_word-word.ensures in
    let message = subst (λ (p : List ℕ). IfOk c.loop_message-message.result (λ t. string_bytes t ≡ message_of line p lint)) piece c.loop_message-message.ensures in
    let told = c.told_fault.ensures (shown there) (message_of line there lint) word message in
    subst (λ (n : ℕ). IfOk c.told_fault.result (λ v. view v ≡ fault_value c.args.path.now n (column_of lint) (shown there) (message_of line there lint))) c.line.ensures
    (subst (λ (n : ℕ). IfOk c.told_fault.result (λ v. view v ≡ fault_value c.args.path.now c.line.result n (shown there) (message_of line there lint))) c.column-2.ensures told)
