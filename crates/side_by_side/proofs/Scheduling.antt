-- The graphs of loops that workers draw are those of the loops.
use Rattle.std.proofs.Common.{◌≡◌, ◌&&◌, ◌<◌, ℕ, suc, Bool, List, [], ◌∷◌, ◌++◌, length, get_or, refl, ap₂, arith}
use Rattle.std.specs.List.{flat_map, list_all}
use Rattle.loop_schedules.specs.Problems.{ProblemData}
use Rattle.scheduled_printouts.specs.Graphs.{AreDrawn}
use Rattle.text_parts.specs.declared.part.Part.{Part}
use Rattle.text_parts.specs.Parts.{met_of, text_of}
use Rattle.side_by_side.specs.inner.Scheduled.{IsDrawnPart}

pub drawn_parts : (problems : List ProblemData) (parts : List Part) → length parts ≡ length problems
    → ((k : ℕ) (p : ProblemData) (d : Part) → k < length problems → IsDrawnPart (get_or problems k p) (get_or parts k d))
    → AreDrawn problems (flat_map text_of parts) (list_all met_of parts)
drawn_parts [] [] long drawn = record { graphs = record { values = []; are_right = tt; is_text = refl }; all_met = refl }
drawn_parts [] (d ∷ parts) long drawn = absurd (omega (arith, long))
drawn_parts (p ∷ problems) [] long drawn = absurd (omega (arith, long))
drawn_parts (p ∷ problems) (d ∷ parts) long drawn =
    let rest = drawn_parts problems parts (omega (arith, long)) (λ k q e h. drawn (suc k) q e (omega (arith, h))) in
    let here = drawn 0 p d (omega arith) in
    record {
      graphs = record {
        values = here.drawn ∷ rest.graphs.values;
        are_right = (here.is_drawn, rest.graphs.are_right);
        is_text = ap₂ (λ (s t : List ℕ). s ++ t) here.is_text rest.graphs.is_text;
      };
      all_met = ap₂ (λ (a b : Bool). a && b) here.met rest.all_met;
    }
