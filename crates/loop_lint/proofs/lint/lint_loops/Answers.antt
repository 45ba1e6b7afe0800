use Rattle.std.proofs.Common.{◌≡◌, ◌∷◌, ◌++◌, [], ◌∙◌, ap, rules}
use Rattle.loop_lint.specs.Lints.{outside_lints, text_lines, too_long}
use Rattle.loop_lint.proofs.Lints.{begins_told, faults_long, faults_short}
use Rattle.loop_lint.proofs.lint.lint_loops.Goals as goal

pub returns-then-text-gt-MAX_TEXT : goal.returns-then-text-gt-MAX_TEXT
returns-then-text-gt-MAX_TEXT c =
    let none : c.new-faults.result.items ≡ [] = search rules in
    let are = faults_long c.args.text.now c.push.new.self.items c.if-text-gt-MAX_TEXT.true (c.in_ok-push.ensures.items ∙ ap (λ t. c.new-faults.result.items ++ t ∷ []) c.too_long.ensures ∙ ap (λ fs. fs ++ too_long ∷ []) none) in
    record { exact = are; first = begins_told c.args.text.now c.push.new.self.items are }

pub returns : goal.returns
returns c =
    let none : c.new-faults.result.items ≡ [] = search rules in
    let are = faults_short c.args.text.now c.tell_text.new.faults.items c.if-text-gt-MAX_TEXT.false (c.in_ok-tell_text.ensures ∙ ap (λ fs. fs ++ outside_lints 1 [] (text_lines c.args.text.now)) none) in
    record { exact = are; first = begins_told c.args.text.now c.tell_text.new.faults.items are }
