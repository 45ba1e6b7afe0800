use Rattle.std.proofs.Common.{◌≡◌, ◌∙◌, ◌++◌, ◌∷◌, [], Some, is_none, length, refl, sym, ap, arith, rules, ◌||◌}
use Rattle.std.proofs.lemmas.List.{length_push}
use Rattle.loop_lines.specs.Forms.{int_of, ints_of}
use Rattle.loop_lines.specs.Words.{words_of}
use Rattle.loop_lines.proofs.Pieces.{ints-start, ints-more, any-more, none-test, length-words_of}
use Rattle.loop_lines.proofs.cells.measure.Goals as goal
use Rattle.loop_lines.proofs.cells.measure.Goals.{then-wide, else-wide}

pub loop-cell-init : goal.loop-cell-init
loop-cell-init c = ([], ints-start (ints_of (words_of c.args.rest.now)), refl, refl, omega (arith, length-words_of c.args.rest.now))

pub loop-cell-preserved : goal.loop-cell-preserved
loop-cell-preserved c =
    let v = c.loop-cell.invariant in
    let next = c.in-Some.ensures in
    let value = c.in_ok-value.value in
    let int : Some value ≡ int_of next.0 = search rules in (
      v.0 ++ value ∷ [],
      ints-more (ints_of (words_of c.args.rest.now)) v.0 next.0 (words_of c.loop-cell.left.now) (words_of c.in-Some.after.now) value v.1 next.1 int,
      any-more is_none v.0 value c.loop-cell.wide _ v.2
          (elim c.if-wide.branch [
            | then-wide w ↦ w.wide-is ∙ w.if-wide.true ∙ sym (ap (λ b. b || is_none value) w.if-wide.true)
            | else-wide w ↦ w.wide-is ∙ none-test value _ w.is_none-wide.ensures ∙ sym (ap (λ b. b || is_none value) w.if-wide.false)
          ]),
      omega (arith, v.3, length_push v.0 value),
      omega (arith, v.4, length_push v.0 value, ap length next.1),
    )
