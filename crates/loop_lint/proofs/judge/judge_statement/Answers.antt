use Rattle.std.proofs.Common.{◌∙◌, ap, arith, option_map, refl}
use Rattle.std.proofs.lemmas.Grind.{common_steps}
use Rattle.loop_lines.specs.Parsed.{statement_seen, subscript_seen}
use Rattle.loop_lint.specs.Parts.{first_part, is_over, is_unknown_part, place_part}
use Rattle.loop_lint.proofs.Judging.{found_by_parts}
use Rattle.loop_lint.proofs.judge.judge_statement.Goals as goal

pub returns : goal.returns
returns c = λ lines forms words is whole.
    let name = c.judge_name-name in
    let place = c.judge_place-place in
    let uses = c.judge_uses-uses in
    let at = option_map subscript_seen c.args.source.now.place in
    found_by_parts lines forms words (statement_seen c.args.source.now) c.args.before.now _ name.result.over place.result.over uses.result.over name.result.repeated place.result.unknown uses.result.unknown uses.result.early uses.result.uncovered is
    name.ensures.over (place.ensures.over ∙ ap (λ w. first_part is_over (place_part w at)) c.place_word.ensures) uses.ensures.over (name.ensures.repeated lines is)
    (place.ensures.unknown forms whole ∙ ap (λ w. first_part (is_unknown_part forms) (place_part w at)) c.place_word.ensures) (uses.ensures.unknown forms whole) (uses.ensures.early forms whole) (uses.ensures.uncovered forms whole)
    (grind (arith, common_steps)) refl (grind (arith, common_steps)) refl refl
