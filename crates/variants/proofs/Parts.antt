-- What is told of loops as text, one after another.
use Rattle.std.proofs.Common.{◌≡◌, ℕ, ◌+◌, cond, List, [], ◌∷◌, ◌++◌, length, refl, sym, ap, ◌∙◌}
use Rattle.std.specs.Prelude.{◌==◌, codes, count_by, not}
use Rattle.std.specs.List.{All, AllZip}
use Rattle.std.proofs.lemmas.List.Elements.{All-cons, All-nil}
use Rattle.std.proofs.lemmas.Slice.Zip.{AllZip-long}
use Rattle.std.proofs.lemmas.List.Sums.{sum_by-cons}
use Rattle.machine_data.specs.Machines.{MachineData}
use Rattle.loop_schedules.specs.Problems.{ProblemData}
use Rattle.written.specs.Written.{Written}
use Rattle.writing.specs.Words.{last_line}
use Rattle.machine_variants.specs.Variants.{variants_of}
use Rattle.variants.specs.declared.found.finding.LoopFindings.{LoopFindings}
use Rattle.variants.specs.Findings.{AreFindings, IsFoundOn}
use Rattle.variants.specs.Texts.{ArePartsOf, IsPartOf, IsTextOf, PartData, is_met, variant_line}
use Rattle.variants.specs.inner.Told.{found_line, found_lines, part_text}
use Rattle.variants.proofs.Concerned.{each-found, somes, zip-found}
use Rattle.variants.proofs.Zipped.{zipped}

abbrev pub part_of : MachineData → ProblemData → LoopFindings → PartData
part_of machine problem found = record { standing = found.standing; text = part_text machine (variants_of machine) problem found }

is-part : (machine : MachineData) (problem : ProblemData) (found : LoopFindings) → AreFindings machine problem found → IsPartOf machine problem (part_of machine problem found)
is-part machine problem found is =
    let all = variants_of machine in
    record {
      is_standing = is.is_standing;
      lines = found_lines machine found.standing all found.findings.items;
      are_lines = record {
        values = somes found.findings.items;
        are_right = each-found machine problem all found.findings.items is.each_finding;
        is_text = sym (zip-found machine problem (variant_line machine found.standing) (found_line machine found.standing) (λ v. refl) (λ v x. refl) all found.findings.items is.each_finding);
      };
      is_text = refl;
    }

abbrev pub parts_text : MachineData → List ProblemData → List LoopFindings → List ℕ
parts_text machine problems loops = zipped (part_text machine (variants_of machine)) problems loops

are-parts : (machine : MachineData) (problems : List ProblemData) (loops : List LoopFindings) → AllZip (AreFindings machine) problems loops
    → ArePartsOf machine problems (parts_text machine problems loops) (count_by (λ (found : LoopFindings). is_met found.standing) loops)
    (count_by (λ (found : LoopFindings). not (is_met found.standing)) loops)
are-parts machine [] [] h = record { parts = record { values = []; are_right = tt; is_text = refl }; number_met = refl; number_failed = refl }
are-parts machine [] (found ∷ loops) h = absurd h
are-parts machine (p ∷ problems) [] h = absurd h
are-parts machine (p ∷ problems) (found ∷ loops) h =
    let rest = are-parts machine problems loops h.1 in
    let here = part_of machine p found in
    let values = rest.parts.values in
    let met : LoopFindings → ℕ = λ e. cond (is_met e.standing) 1 0 in
    let failed : LoopFindings → ℕ = λ e. cond (not (is_met e.standing)) 1 0 in
    record {
      parts = record {
        values = here ∷ values;
        are_right = (is-part machine p found h.0, rest.parts.are_right);
        is_text = ap (λ (t : List ℕ). here.text ++ t) rest.parts.is_text;
      };
      number_met = sum_by-cons met found loops ∙ ap (λ n. met found + n) rest.number_met ∙ sym (sum_by-cons (λ (e : PartData). cond (is_met e.standing) 1 0) here values);
      number_failed = sum_by-cons failed found loops ∙ ap (λ n. failed found + n) rest.number_failed
          ∙ sym (sum_by-cons (λ (e : PartData). cond (not (is_met e.standing)) 1 0) here values);
    }

pub is-text : (machine : MachineData) (problems : List ProblemData) (loops : List LoopFindings) (text : List ℕ) (met failed : ℕ) (written : Written) → AllZip (AreFindings machine) problems loops
    → text ≡ parts_text machine problems loops → met ≡ count_by (λ (found : LoopFindings). is_met found.standing) loops
    → failed ≡ count_by (λ (found : LoopFindings). not (is_met found.standing)) loops → written.text ≡ text ++ last_line (codes "loops ") (length problems) met failed
    → written.all_met ≡ (failed == 0) → IsTextOf machine problems written
is-text machine problems loops text met failed written are t m f w all =
    let told = are-parts machine problems loops are in
    record {
      text = text;
      met = met;
      failed = failed;
      parts = record {
        parts = record { values = told.parts.values; are_right = told.parts.are_right; is_text = t ∙ told.parts.is_text };
        number_met = m ∙ told.number_met;
        number_failed = f ∙ told.number_failed;
      };
      is_text = w;
      all_met = all;
    }

-- of each loop as much is found as there are variants
pub long-each : (machine : MachineData) (problems : List ProblemData) (loops : List LoopFindings) → AllZip (AreFindings machine) problems loops
    → All (λ (found : LoopFindings). length found.findings.items ≡ length (variants_of machine)) loops
long-each machine [] [] h = All-nil (λ (found : LoopFindings). length found.findings.items ≡ length (variants_of machine))
long-each machine [] (found ∷ loops) h = absurd h
long-each machine (p ∷ problems) [] h = absurd h
long-each machine (p ∷ problems) (found ∷ loops) h =
    All-cons (λ (e : LoopFindings). length e.findings.items ≡ length (variants_of machine)) found loops
    (AllZip-long (IsFoundOn machine p) (variants_of machine) found.findings.items h.0.each_finding) (long-each machine problems loops h.1)
