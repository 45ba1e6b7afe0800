use Rattle.std.proofs.Common.{[], ◌∷◌, ap, sym, ◌∙◌, arith}
use Rattle.std.proofs.lemmas.Bool.{false≢true}
use Rattle.std.proofs.lemmas.Result.{IfOk-weaker}
use Rattle.reader_faults.specs.declared.machine.MachineFault.TheVariants.{Limit}
use Rattle.machine_lint.specs.Places.{nowhere}
use Rattle.machine_lint.specs.declared.place.MachineLint.{MachineLint}
use Rattle.machine_lint.proofs.Told.{IsRight, right-long, right-not_utf8, right-not_toml, right-tree}
use Rattle.machine_lint.proofs.lint.lint_machine.Goals as goal

pub returns-then-text-gt-MAX_TEXT : goal.returns-then-text-gt-MAX_TEXT
returns-then-text-gt-MAX_TEXT c =
    let lint = c.nowhere.ensures ∙ ap (λ key. nowhere (Limit key)) (c.new-limit.ensures ∙ c.in_ok-from_str.ensures.ok) in
    let right = IfOk-weaker c.only.result _ (λ lints. IsRight c.args.text.now lints.items) (λ lints are. right-long c.args.text.now lints.items c.if-text-gt-MAX_TEXT.true (are ∙ ap (λ (l : MachineLint). l ∷ []) lint)) c.only.ensures in
    record { exact = IfOk-weaker c.only.result _ _ (λ lints h. h.exact) right; first = IfOk-weaker c.only.result _ _ (λ lints h. h.first) right; faults = IfOk-weaker c.only.result _ _ (λ lints h. h.faults) right }

pub returns-in-Err : goal.returns-in-Err
returns-in-Err c =
    let lint = c.at-lint.ensures in
    let right = IfOk-weaker c.only-in-Err.result _ (λ lints. IsRight c.args.text.now lints.items) (λ lints are. right-not_utf8 c.args.text.now lints.items c.if-text-gt-MAX_TEXT.false c.valid_up_to.result (rw c.valid_up_to.ensures (c.in-Err.ensures.cases.1)) (are ∙ ap (λ (l : MachineLint). l ∷ []) lint)) c.only-in-Err.ensures in
    record { exact = IfOk-weaker c.only-in-Err.result _ _ (λ lints h. h.exact) right; first = IfOk-weaker c.only-in-Err.result _ _ (λ lints h. h.first) right; faults = IfOk-weaker c.only-in-Err.result _ _ (λ lints h. h.faults) right }

pub returns-in-Ok-table_from_str : goal.returns-in-Ok-table_from_str
returns-in-Ok-table_from_str c =
    let utf8 = c.in-Ok.ensures.cases in
    let parsed = rw utf8.0 at c.in-Ok-table_from_str.ensures.ok in
    let right = IfOk-weaker c.judge_tree.result _ (λ lints. IsRight c.args.text.now lints.items) (λ lints are. right-tree c.args.text.now lints.items c.if-text-gt-MAX_TEXT.false utf8.1 _ parsed are) c.judge_tree.ensures in
    record { exact = IfOk-weaker c.judge_tree.result _ _ (λ lints h. h.exact) right; first = IfOk-weaker c.judge_tree.result _ _ (λ lints h. h.first) right; faults = IfOk-weaker c.judge_tree.result _ _ (λ lints h. h.faults) right }

pub returns : goal.returns
returns c =
    let utf8 = c.in-Ok.ensures.cases in
    let refused = rw utf8.0 at (c.in-Err-table_from_str.ensures.refused (λ memory. false≢true (sym (c.in-Some.ensures.none.1 memory)))) in
    let span = rw utf8.0 at c.in-Err-table_from_str.ensures.span in
    let range = c.in-Some.ensures.range in
    let right = IfOk-weaker c.only-2.result _ (λ lints. IsRight c.args.text.now lints.items) (λ lints are. right-not_toml c.args.text.now lints.items c.if-text-gt-MAX_TEXT.false utf8.1 _ refused (omega (arith, range.0, span.0, span.1)) (are ∙ ap (λ (l : MachineLint). l ∷ []) c.at.ensures)) c.only-2.ensures in
    record { exact = IfOk-weaker c.only-2.result _ _ (λ lints h. h.exact) right; first = IfOk-weaker c.only-2.result _ _ (λ lints h. h.first) right; faults = IfOk-weaker c.only-2.result _ _ (λ lints h. h.faults) right }
