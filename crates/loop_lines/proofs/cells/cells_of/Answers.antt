use Rattle.std.proofs.Common.{◌≡◌, ◌∙◌, ◌++◌, ◌∷◌, [], ℤ, List, Some, pos, is_none, ◌||◌, sym, ap, arith, rules, w64, to_z, of_z}
use Rattle.std.specs.Option.{unwrap_or}
use Rattle.std.proofs.lemmas.List.{map-append}
use Rattle.std.proofs.lemmas.Int.{ints, to_z-of_z}
use Rattle.loop_lines.specs.Forms.{int_of, ints_of}
use Rattle.loop_lines.specs.Words.{words_of}
use Rattle.loop_lines.proofs.Pieces.{ints-more, any-more, none-test}
use Rattle.loop_lines.proofs.cells.cells_of.Goals as goal
use Rattle.loop_lines.proofs.cells.cells_of.Goals.{then-wide, else-wide}

pub loop-cell-preserved : goal.loop-cell-preserved
loop-cell-preserved c =
    let v = c.loop-cell.invariant in
    let fits : to_z w64 (of_z w64 c.unwrap_or.result) ≡ c.unwrap_or.result = grind (arith, ints, to_z-of_z) in
    let next = c.in-Some.ensures in
    let value = c.in-Some-cell.value in
    let int : Some value ≡ int_of next.0 = search rules in
    let e = c.unwrap_or.ensures in (
      v.0 ++ value ∷ [],
      ints-more (ints_of (words_of c.args.words.words.now)) v.0 next.0 (words_of c.loop-cell.left.now) (words_of c.in-Some.after.now) value v.1 next.1 int,
      ◌∙◌ {A = List ℤ} c.in_ok-push.ensures.items
          (ap (λ x. c.loop-cell.cells.items ++ x ∷ []) fits ∙ ap (λ x. c.loop-cell.cells.items ++ x ∷ []) e ∙ ap (λ xs. xs ++ unwrap_or value (pos 0) ∷ []) v.2
          ∙ sym (map-append (λ cell. unwrap_or cell (pos 0)) v.0 (value ∷ []))),
      any-more is_none v.0 value c.loop-cell.wide _ v.3
          (elim c.if-wide.branch [
            | then-wide w ↦ w.wide-is ∙ w.if-wide.true ∙ sym (ap (λ b. b || is_none value) w.if-wide.true)
            | else-wide w ↦ w.wide-is ∙ none-test value _ w.is_none-wide.ensures ∙ sym (ap (λ b. b || is_none value) w.if-wide.false)
          ]),
    )
