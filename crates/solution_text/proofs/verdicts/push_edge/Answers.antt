use Rattle.std.proofs.Common.{rules, ◌≡◌, List, ℕ, ℤ, ◌++◌, ap, ◌∙◌, refl, w8, w64, SFits}
use Rattle.std.proofs.lemmas.Int.{to_z-of_z}
use Rattle.std.proofs.lemmas.Result.{on_ok_weaker}
use Rattle.std.specs.Prelude.{codes}
use Rattle.edges.specs.Edges.{EdgeData}
use Rattle.problems.specs.declared.draft.Draft.{Draft}
use Rattle.writing.specs.Words.{told, told_signed}
use Rattle.solution_text.specs.Names.{op_name}
use Rattle.solution_text.specs.Verdicts.{edge_text}
use Rattle.solution_text.proofs.verdicts.push_edge.Goals as goal

-- the text, by the numbers as they were found
same : (draft : Draft) (edge : EdgeData) (from to distance : ℕ) (delay : ℤ) → from ≡ edge.from → to ≡ edge.to → delay ≡ edge.delay → distance ≡ edge.distance
    → (((op_name draft from ++ codes " to ") ++ op_name draft to) ++ told_signed (codes " with delay ") delay) ++ told (codes " and distance ") distance ≡ edge_text draft edge
same draft edge from to distance delay a b d e = rw (a, b, d, e) refl

pub returns : goal.returns
returns c =
    let edge = c.args.edge in
    let narrow : SFits w8 edge.delay = search rules in
    let wide : SFits w64 c.from-3.result = search rules in
    let old : List ℕ = c.args.text.now.items in
    let delay = to_z-of_z w64 c.from-3.result wide ∙ c.from-3.ensures ∙ to_z-of_z w8 edge.delay narrow in
    record {
      ok = on_ok_weaker c.push_parts.result
          (λ last. last ∙ ap (λ (t : List ℕ). old ++ t) (same c.args.draft.now edge c.from.result c.from-2.result c.from-4.result _ c.from.ensures c.from-2.ensures delay c.from-4.ensures))
          c.push_parts.ensures.ok;
    }
