use Rattle.std.proofs.Common.{◌∙◌, ◌++◌, ◌-◌, List, ℕ, length, refl, ap, arith, of_calls, rules}
use Rattle.std.specs.Prelude.{count_by}
use Rattle.explain.specs.Explanations.{last_line}
use Rattle.text_parts.specs.declared.part.Part.{Part}
use Rattle.text_parts.specs.Parts.{met_of}
use Rattle.side_by_side.proofs.Explaining.{explanation}
use Rattle.side_by_side.proofs.commands.explaining.explained_by.Goals as goal

pub overflow_sub-failed : goal.overflow_sub-failed
overflow_sub-failed g c = let same = ap (λ (ps : List Part). length ps) c.as_slice.ensures.value in omega (arith, same, c.in_ok-parts.ensures.each, c.requires.each, c.met_among-met.ensures.most)

pub returns : goal.returns
returns g c ratio ceiling loops are =
    let m = c.args.machine.now in
    let problems = c.args.prepared.now in
    let parts = c.in_ok-parts.parts.items in
    let made = c.in_ok-parts.ensures in
    let met = c.met_among-met.result in
    explanation m ratio ceiling loops problems parts met _ _ are (made.each ∙ c.requires.each)
    (λ k p part h. let told = (made.made k part (omega (arith, c.requires.each, h))).met in search (rules, of_calls, told))
    (c.met_among-met.ensures.count ∙ ap (λ (ps : List Part). count_by met_of ps) c.as_slice.ensures.value)
    refl
    (c.in_ok-push_last.ensures.ok ∙ ap (λ (t : List ℕ). t ++ last_line (length problems) met (length problems - met)) c.in_ok-text.ensures)
    refl
