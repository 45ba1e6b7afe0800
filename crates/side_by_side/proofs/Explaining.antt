-- What is told of prepared loops is what is told of the loops.
use Rattle.std.proofs.Common.{◌≡◌, ◌∙◌, ◌<◌, ◌+◌, ◌-◌, ℕ, suc, Bool, cond, List, [], ◌∷◌, ◌++◌, length, get_or, refl, sym, subst, ap, arith}
use Rattle.std.specs.Prelude.{◌==◌, count_by}
use Rattle.std.specs.List.{flat_map}
use Rattle.std.proofs.lemmas.List.Sums.{sum_by-cons}
use Rattle.machine.specs.Machines.{MachineData}
use Rattle.loop_data.specs.Loops.{LoopData}
use Rattle.loop_schedules.specs.Problems.{ProblemData}
use Rattle.loop_listings.specs.declared.choices.Choice.{Choice}
use Rattle.loop_listings.specs.declared.choices.Choice.TheVariants.{Met, Failed}
use Rattle.loop_listings.specs.Listings.{is_met, is_failed}
use Rattle.explain.specs.declared.file.Explained.{Explained}
use Rattle.explain.specs.Explanations.{ArePartsOf, IsExplanationOf, PartData, last_line}
use Rattle.explain.proofs.Parts.{part_of}
use Rattle.candidates.specs.Files.{ArePrepared}
use Rattle.candidates.proofs.Listed.{prepared_long}
use Rattle.text_parts.specs.declared.part.Part.{Part}
use Rattle.side_by_side.specs.inner.Explained.{IsExplainedPart}
use Rattle.text_parts.specs.Parts.{met_of, text_of}

-- a choice is met or failed
one_of : (choice : Choice) → cond (is_met choice) 1 0 + cond (is_failed choice) 1 0 ≡ 1
one_of (Met ii kernel) = refl
one_of (Failed cause) = refl

-- parts of prepared loops, with how many are met and how many are not
pub explained_parts : (machine : MachineData) (ratio ceiling : ℕ) (loops : List LoopData) (problems : List ProblemData) (parts : List Part)
    → ArePrepared machine ratio ceiling loops problems → length parts ≡ length problems
    → ((k : ℕ) (p : ProblemData) (d : Part) → k < length problems → IsExplainedPart machine (get_or problems k p) (get_or parts k d))
    → (failed : ℕ) × ArePartsOf machine ratio ceiling loops (flat_map text_of parts) (count_by met_of parts) failed × (count_by met_of parts + failed ≡ length parts)
explained_parts machine ratio ceiling [] [] [] are long told =
    (0, record { parts = record { values = []; are_right = tt; is_text = refl }; number_met = refl; number_failed = refl }, refl)
explained_parts machine ratio ceiling [] [] (d ∷ parts) are long told = absurd (omega (arith, long))
explained_parts machine ratio ceiling [] (p ∷ problems) parts are long told = absurd are
explained_parts machine ratio ceiling (l ∷ loops) [] parts are long told = absurd are
explained_parts machine ratio ceiling (l ∷ loops) (p ∷ problems) [] are long told = absurd (omega (arith, long))
explained_parts machine ratio ceiling (l ∷ loops) (p ∷ problems) (d ∷ parts) are long told =
    let rest = explained_parts machine ratio ceiling loops problems parts are.1 (omega (arith, long)) (λ k q e h. told (suc k) q e (omega (arith, h))) in
    let here = told 0 p d (omega arith) in
    let value : PartData = record { choice = here.choice; text = d.text.items } in
    let values = rest.1.parts.values in
    let met : count_by met_of (d ∷ parts) ≡ cond (is_met here.choice) 1 0 + count_by met_of parts
    = sum_by-cons (λ (e : Part). cond (met_of e) 1 0) d parts ∙ ap (λ (b : Bool). cond b 1 0 + count_by met_of parts) here.met in
    let one = one_of here.choice in (
      cond (is_failed here.choice) 1 0 + rest.0,
      record {
        parts = record {
          values = value ∷ values;
          are_right = (part_of machine ratio ceiling l p here.choice d.text.items are.0 here.told, rest.1.parts.are_right);
          is_text = ap (λ (t : List ℕ). d.text.items ++ t) rest.1.parts.is_text;
        };
        number_met = met ∙ ap (λ n. cond (is_met here.choice) 1 0 + n) rest.1.number_met ∙ sym (sum_by-cons (λ (e : PartData). cond (is_met e.choice) 1 0) value values);
        number_failed = ap (λ n. cond (is_failed here.choice) 1 0 + n) rest.1.number_failed ∙ sym (sum_by-cons (λ (e : PartData). cond (is_failed e.choice) 1 0) value values);
      },
      omega (arith, met, rest.2, one),
    )

-- and the last line after them
pub explanation : (machine : MachineData) (ratio ceiling : ℕ) (loops : List LoopData) (problems : List ProblemData) (parts : List Part) (met failed : ℕ) (explained : Explained)
    → ArePrepared machine ratio ceiling loops problems → length parts ≡ length problems
    → ((k : ℕ) (p : ProblemData) (d : Part) → k < length problems → IsExplainedPart machine (get_or problems k p) (get_or parts k d))
    → met ≡ count_by met_of parts → failed ≡ length problems - met → explained.text.items ≡ flat_map text_of parts ++ last_line (length problems) met failed
    → explained.all_met ≡ (failed == 0) → IsExplanationOf machine ratio ceiling loops explained
explanation machine ratio ceiling loops problems parts met failed explained are long told is_met is_failed is_text all_met =
    let all = explained_parts machine ratio ceiling loops problems parts are long told in
    let same : all.0 ≡ failed = omega (arith, all.2, is_met, is_failed, long) in
    let each : length problems ≡ length loops = prepared_long machine ratio ceiling loops problems are in
    record {
      text = flat_map text_of parts;
      met = met;
      failed = failed;
      parts = subst (λ (n : ℕ). ArePartsOf machine ratio ceiling loops (flat_map text_of parts) met n) same
          (subst (λ (n : ℕ). ArePartsOf machine ratio ceiling loops (flat_map text_of parts) n all.0) (sym is_met) all.1);
      is_text = is_text ∙ ap (λ (n : ℕ). flat_map text_of parts ++ last_line n met failed) each;
      all_met = all_met;
    }
