use Rattle.std.proofs.Common.{Some, option_map, ap, ◌∙◌, sym}
use Rattle.std.specs.Cmp.Lexicographic.{same_text}
use Rattle.std.proofs.lemmas.Option.{slice_get-map}
use Rattle.command_line.proofs.line.form.wanted.Goals as goal

pub returns-then-eq : goal.returns-then-eq
returns-then-eq c =
    slice_get-map (λ w. w.now) c.args.words.now 0 ∙ ap (option_map (λ w. w.now)) (sym c.in_ok-first.ensures.value)
    ∙ ap Some (sym (same_text _ _ c.if-eq.ensures) ∙ c.word_of.ensures)
