use Rattle.std.proofs.Common.{◌∙◌, ◌++◌, ap, refl}
use Rattle.loop_lines.specs.Words.{words_of}
use Rattle.reader_faults.specs.declared.loops.LoopFaultKind.TheVariants.{Limit, RepeatedName, UseBeforeDefinition}
use Rattle.loop_lint.specs.Hints.{hint_of}
use Rattle.loop_lines.specs.Columns.{placed_words}
use Rattle.loop_lint.proofs.Founds.{joined, told_plain}
use Rattle.loop_lint.proofs.tell.tell_all.Goals as goal

pub returns : goal.returns
returns c = λ forms is.
    let line = c.args.line.bytes.now in
    let n = c.args.line.number in
    let words = placed_words line in
    let hint = hint_of forms (words_of line) in
    joined c.args.faults.now.items _ _ _ _ _ c.tell.new.faults.items c.tell-2.new.faults.items c.tell_unknown.new.faults.items c.tell-3.new.faults.items c.tell_missing.new.faults.items
    (c.in_ok-tell.ensures ∙ ap (λ fs. c.args.faults.now.items ++ fs) (told_plain n words hint Limit c.args.found.limit (λ w. refl)))
    (c.in_ok-tell-2.ensures ∙ ap (λ fs. c.tell.new.faults.items ++ fs) (told_plain n words hint RepeatedName c.args.found.repeated (λ w. refl)))
    (c.in_ok-tell_unknown.ensures forms is)
    (c.in_ok-tell-3.ensures ∙ ap (λ fs. c.tell_unknown.new.faults.items ++ fs) (told_plain n words hint UseBeforeDefinition c.args.found.early (λ w. refl)))
    (c.in_ok-tell_missing.ensures forms is)
