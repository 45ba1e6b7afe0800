-- What is told of loops, one after another.
use Rattle.std.proofs.Common.{◌≡◌, ◌==◌, ℕ, ◌+◌, Bool, cond, List, [], ◌∷◌, ◌++◌, length, Option, Some, None, refl, sym, ap, ◌∙◌, subst, append_assoc, arith}
use Rattle.std.specs.Prelude.{Result, Ok, Err, count_by}
use Rattle.std.proofs.lemmas.List.{append-nil}
use Rattle.std.proofs.lemmas.List.Sums.{sum_by-append}
use Rattle.machine_data.specs.Machines.{MachineData}
use Rattle.machine_data.specs.declared.opcode.Opcode.{Opcode}
use Rattle.loop_data.specs.Loops.{LoopData}
use Rattle.graph.specs.TablesAnswer.{TablesAnswer}
use Rattle.graph.specs.Units.{first_lacking, first_without_table, lacking_or, operations_of}
use Rattle.lower_bounds.specs.declared.fault.TextFault.{TextFault}
use Rattle.lower_bounds.specs.declared.fault.TextFault.TheVariants.{NoTable, Memory}
use Rattle.lower_bounds.specs.declared.measuring.LowerBounds.{LowerBounds}
use Rattle.lower_bounds.specs.Bounds.{bounds_line}
use Rattle.lower_bounds.specs.Faults.{TextAnswers, lacking_in}
use Rattle.lower_bounds.proofs.Lacking.{complete, first_lacking-append, refused_or}
use Rattle.lower_bounds.proofs.Texts.{all_zip-push, zipped-push}
use Rattle.writing.proofs.Beginnings.{two_pushed}
use Rattle.resource_bound.specs.Choices.{AreUnitChoices}
use Rattle.resource_bound.specs.UnitLines.{unit_lines_of}
use Rattle.unit_sets.specs.declared.fullest.UnitSet.{UnitSet}
use Rattle.unit_sets.specs.Fullest.{IsFullest}
use Rattle.loop_schedules.specs.Problems.{ProblemData, IsProblemOf}
use Rattle.loop_listings.specs.declared.choices.Choice.{Choice}
use Rattle.loop_listings.specs.Listings.{is_met, is_failed}
use Rattle.explain.specs.CircuitTexts.{IsCircuitText}
use Rattle.explain.specs.Explanations.{ArePartsOf, IsExplained, IsPartOf, IsTold, IsToldOn, PartData, bounds_of}
use Rattle.explain.specs.SetLines.{set_line}
use Rattle.explain.specs.Shown.{IsShown}
use Rattle.explain.specs.Tries.{AreTries}

-- the parts of what is told of a loop
pub explained : (units : List ℕ) (need : ℕ) (free : Bool) (p : ProblemData) (choice : Choice) (loop : LoopData) (bounds : LowerBounds) (old a u b new : List ℕ) → loop ≡ p.loop → bounds ≡ bounds_of p
    → a ≡ old ++ bounds_line loop bounds → u ≡ a ++ units
    → ((part : List ℕ) × (circuit : IsCircuitText p part) × (free ≡ (length circuit.circuit == 0)) × (b ≡ u ++ part)) → ((tries : List ℕ) × AreTries p need free choice tries × (new ≡ b ++ tries))
    → (part : List ℕ) × IsExplained units need p choice part × (new ≡ old ++ part)
explained units need free p choice loop bounds old a u b new same_loop same_bounds head lines circuit tries =
    let line = bounds_line p.loop (bounds_of p) in
    let first : a ≡ old ++ line = head ∙ ap (λ (l : LoopData). old ++ bounds_line l bounds) same_loop ∙ ap (λ (x : LowerBounds). old ++ bounds_line p.loop x) same_bounds in
    let both : u ≡ old ++ (line ++ units) = two_pushed old line units a u first lines in (
      ((line ++ units) ++ circuit.0) ++ tries.0,
      record { circuit = circuit.0; is_circuit = circuit.1; tries = tries.0; are_tries = subst (λ f. AreTries p need f choice tries.0) circuit.2 tries.1; is_text = refl },
      two_pushed old ((line ++ units) ++ circuit.0) tries.0 b new (two_pushed old (line ++ units) circuit.0 u b both circuit.3) tries.2,
    )

-- the schedule and the registers after that
pub told-of : (machine : MachineData) (given units : List ℕ) (need : ℕ) (p : ProblemData) (choice same : Choice) (old middle new : List ℕ) → given ≡ units → choice ≡ same
    → ((part : List ℕ) × IsExplained given need p same part × (middle ≡ old ++ part)) → ((part : List ℕ) × IsShown machine p same part × (new ≡ middle ++ part))
    → (part : List ℕ) × IsTold machine units need p choice part × (new ≡ old ++ part)
told-of machine given units need p choice same old middle new lines e explanation shown =
    subst (λ (c : Choice). (part : List ℕ) × IsTold machine units need p c part × (new ≡ old ++ part)) (sym e) (
      explanation.0 ++ shown.0,
      record { explanation = explanation.0; is_explanation = subst (λ (u : List ℕ). IsExplained u need p same explanation.0) lines explanation.1; shown = shown.0; is_shown = shown.1; is_text = refl },
      two_pushed old explanation.0 shown.0 middle new explanation.2 shown.2,
    )

-- what the preparation of a loop tells
pub prepared-ok : {A : Type 0} (missing : Option Opcode) (P : A → Type 0) (x : A) → TablesAnswer missing P (Ok x) → (missing ≡ None) × P x
prepared-ok None P x a = (refl, a)
prepared-ok (Some o) P x a = cc

-- what is told of a problem with the lines of its units
pub told-on : (machine : MachineData) (loop : LoopData) (p : ProblemData) (choice : Choice) (set : UnitSet) (units alternatives old new : List ℕ) → loop ≡ p.loop → lacking_in machine loop ≡ None
    → AreUnitChoices (operations_of machine loop) alternatives → IsFullest (operations_of machine loop) set → units ≡ unit_lines_of machine loop alternatives ++ set_line machine set
    → ((part : List ℕ) × IsTold machine units set.need p choice part × (new ≡ old ++ part))
    → TextAnswers (lacking_in machine p.loop) (λ (c : Choice). (part : List ℕ) × IsToldOn machine p c part × (new ≡ old ++ part)) (Ok choice)
told-on machine loop p choice set units alternatives old new same none best fullest lines told =
    complete (lacking_in machine p.loop) (λ (c : Choice). (part : List ℕ) × IsToldOn machine p c part × (new ≡ old ++ part)) choice
    (subst (λ (l : LoopData). lacking_in machine l ≡ None) same none) (
      told.0,
      record {
        alternatives = alternatives;
        are_best = subst (λ (l : LoopData). AreUnitChoices (operations_of machine l) alternatives) same best;
        set = set;
        is_fullest = subst (λ (l : LoopData). IsFullest (operations_of machine l) set) same fullest;
        told = subst (λ (t : List ℕ). IsTold machine t set.need p choice told.0) (lines ∙ ap (λ (l : LoopData). unit_lines_of machine l alternatives ++ set_line machine set) same) told.1;
      },
      told.2,
    )

-- what is told of a problem is told of its loop
pub part_of : (machine : MachineData) (ratio ceiling : ℕ) (loop : LoopData) (p : ProblemData) (choice : Choice) (text : List ℕ) → IsProblemOf machine loop ratio ceiling p
    → IsToldOn machine p choice text → IsPartOf machine ratio ceiling loop choice text
part_of machine ratio ceiling loop p choice text is told = record {
  problem = p;
  is_problem = is;
  alternatives = told.alternatives;
  are_best = subst (λ (l : LoopData). AreUnitChoices (operations_of machine l) told.alternatives) is.same_loop told.are_best;
  set = told.set;
  is_fullest = subst (λ (l : LoopData). IsFullest (operations_of machine l) told.set) is.same_loop told.is_fullest;
  told = subst (λ (l : LoopData). IsTold machine (unit_lines_of machine l told.alternatives ++ set_line machine told.set) told.set.need p choice text) is.same_loop told.told;
}

-- an answer that tells more
told-more : {A : Type 0} (lacking : Option (List ℕ × Opcode)) (P Q : A → Type 0) (r : Result A TextFault) → ((x : A) → P x → Q x) → TextAnswers lacking P r → TextAnswers lacking Q r
told-more lacking P Q (Err Memory) more a = tt
told-more None P Q (Ok x) more a = more x a
told-more None P Q (Err (NoTable name opcode)) more a = a
told-more (Some l) P Q (Ok x) more a = a
told-more (Some l) P Q (Err (NoTable name opcode)) more a = a

pub part-answer : (machine : MachineData) (ratio ceiling : ℕ) (loop : LoopData) (p : ProblemData) (old new : List ℕ) (r : Result Choice TextFault) → IsProblemOf machine loop ratio ceiling p
    → TextAnswers (lacking_in machine p.loop) (λ (c : Choice). (part : List ℕ) × IsToldOn machine p c part × (new ≡ old ++ part)) r
    → TextAnswers (lacking_in machine loop) (λ (c : Choice). (part : List ℕ) × IsPartOf machine ratio ceiling loop c part × (new ≡ old ++ part)) r
part-answer machine ratio ceiling loop p old new r is a =
    let P = λ (c : Choice). (part : List ℕ) × IsToldOn machine p c part × (new ≡ old ++ part) in
    told-more (lacking_in machine loop) P (λ (c : Choice). (part : List ℕ) × IsPartOf machine ratio ceiling loop c part × (new ≡ old ++ part)) r
    (λ c t. (t.0, part_of machine ratio ceiling loop p c t.0 is t.1, t.2))
    (subst (λ (l : LoopData). TextAnswers (lacking_in machine l) P r) is.same_loop a)

count-push : {X : Type 0} (p : X → Bool) (xs : List X) (y : X) → count_by p (xs ++ y ∷ []) ≡ count_by p xs + count_by p (y ∷ [])
count-push p xs y = sum_by-append (λ x. cond (p x) 1 0) xs (y ∷ [])

-- one loop more
parts-push : (machine : MachineData) (ratio ceiling : ℕ) (loops : List LoopData) (text : List ℕ) (met failed newer_met newer_failed : ℕ) (x : LoopData) (choice : Choice) (part : List ℕ)
    → ArePartsOf machine ratio ceiling loops text met failed → IsPartOf machine ratio ceiling x choice part → newer_met ≡ met + count_by is_met (choice ∷ [])
    → newer_failed ≡ failed + count_by is_failed (choice ∷ []) → ArePartsOf machine ratio ceiling (loops ++ x ∷ []) (text ++ part) newer_met newer_failed
parts-push machine ratio ceiling loops text met failed newer_met newer_failed x choice part h r m f =
    let y : PartData = record { choice = choice; text = part } in
    let R = λ (loop : LoopData) (e : PartData). IsPartOf machine ratio ceiling loop e.choice e.text in
    let text_of = λ (loop : LoopData) (e : PartData). e.text in
    record {
      parts = record {
        values = h.parts.values ++ y ∷ [];
        are_right = all_zip-push R loops h.parts.values x y h.parts.are_right r;
        is_text = ap (λ t. t ++ part) h.parts.is_text ∙ sym (zipped-push R text_of loops h.parts.values x y h.parts.are_right);
      };
      number_met = m ∙ ap (λ n. n + count_by is_met (choice ∷ [])) h.number_met ∙ sym (count-push (λ (e : PartData). is_met e.choice) h.parts.values y);
      number_failed = f ∙ ap (λ n. n + count_by is_failed (choice ∷ [])) h.number_failed ∙ sym (count-push (λ (e : PartData). is_failed e.choice) h.parts.values y);
    }

-- the loops before those that are left are told of, and none of them lacks a table
pub record AreDone (machine : MachineData) (ratio ceiling : ℕ) (all left : List LoopData) (old new : List ℕ) (met failed : ℕ) : Type 0 where
  pub done : List LoopData
  pub split : all ≡ done ++ left
  pub complete : first_lacking machine done ≡ None
  pub text : List ℕ
  pub parts : ArePartsOf machine ratio ceiling done text met failed
  pub is_text : new ≡ old ++ text

pub done-none : (machine : MachineData) (ratio ceiling : ℕ) (all : List LoopData) (old : List ℕ) → AreDone machine ratio ceiling all all old old 0 0
done-none machine ratio ceiling all old = record {
  done = [];
  split = refl;
  complete = refl;
  text = [];
  parts = record { parts = record { values = []; are_right = tt; is_text = refl }; number_met = refl; number_failed = refl };
  is_text = sym (append-nil old);
}

pub done-more : (machine : MachineData) (ratio ceiling : ℕ) (all left rest : List LoopData) (old new newer : List ℕ) (met failed newer_met newer_failed : ℕ) (x : LoopData) (choice : Choice)
    → AreDone machine ratio ceiling all left old new met failed → left ≡ x ∷ rest → lacking_in machine x ≡ None
    → ((part : List ℕ) × IsPartOf machine ratio ceiling x choice part × (newer ≡ new ++ part)) → newer_met ≡ met + count_by is_met (choice ∷ [])
    → newer_failed ≡ failed + count_by is_failed (choice ∷ []) → AreDone machine ratio ceiling all rest old newer newer_met newer_failed
done-more machine ratio ceiling all left rest old new newer met failed newer_met newer_failed x choice d at none part m f = record {
  done = d.done ++ x ∷ [];
  split = d.split ∙ ap (λ ls. d.done ++ ls) at ∙ sym (append_assoc d.done (x ∷ []) rest);
  complete = first_lacking-append machine d.done (x ∷ []) d.complete ∙ none;
  text = d.text ++ part.0;
  parts = parts-push machine ratio ceiling d.done d.text met failed newer_met newer_failed x choice part.0 d.parts part.1 m f;
  is_text = two_pushed old d.text part.0 new newer d.is_text part.2;
}

-- the loop at hand lacks a table, or memory ran out
pub refused-here : {A B : Type 0} (P : A → Type 0) (Q : B → Type 0) (machine : MachineData) (ratio ceiling : ℕ) (all left rest : List LoopData) (old new : List ℕ) (met failed : ℕ) (x : LoopData)
    (fault : TextFault) → AreDone machine ratio ceiling all left old new met failed → left ≡ x ∷ rest → TextAnswers (lacking_in machine x) P (Err fault)
    → TextAnswers (first_lacking machine all) Q (Err fault)
refused-here {A = A} {B = B} P Q machine ratio ceiling all left rest old new met failed x fault d at lacks =
    let e : first_lacking machine all ≡ lacking_or x.name (first_without_table machine x) (first_lacking machine rest)
    = ap (first_lacking machine) (d.split ∙ ap (λ ls. d.done ++ ls) at) ∙ first_lacking-append machine d.done (x ∷ rest) d.complete in
    subst (λ (o : Option (List ℕ × Opcode)). TextAnswers {A = B} o Q (Err fault)) (sym e)
    (refused_or P Q fault x.name (first_without_table machine x) (first_lacking machine rest) lacks)

-- nothing is left
pub all-done : (machine : MachineData) (ratio ceiling : ℕ) (all left : List LoopData) (old new : List ℕ) (met failed : ℕ) → AreDone machine ratio ceiling all left old new met failed
    → length left ≡ 0 → (first_lacking machine all ≡ None) × ((parts : List ℕ) × ArePartsOf machine ratio ceiling all parts met failed × (new ≡ old ++ parts))
all-done machine ratio ceiling all [] old new met failed d none =
    let same : d.done ≡ all = sym (d.split ∙ append-nil d.done) in (
      ap (first_lacking machine) (sym same) ∙ d.complete,
      (d.text, subst (λ (ls : List LoopData). ArePartsOf machine ratio ceiling ls d.text met failed) same d.parts, d.is_text),
    )
all-done machine ratio ceiling all (x ∷ left) old new met failed d none = absurd (omega arith)
