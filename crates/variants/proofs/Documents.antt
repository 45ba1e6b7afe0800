-- The document of loops by what is found of them.
use Rattle.std.proofs.Common.{◌≡◌, ℕ, ◌+◌, cond, List, [], ◌∷◌, ◌++◌, map, refl, sym, ap, ap₂, ◌∙◌}
use Rattle.std.specs.Prelude.{◌==◌, Bool, codes, count_by, not, length}
use Rattle.std.specs.List.{AllZip, zip}
use Rattle.std.proofs.lemmas.List.Concat.{flat_map_single}
use Rattle.std.proofs.lemmas.List.Sums.{sum_by-cons}
use Rattle.serde_json.specs.Data.{Data, string, array, object, member, no_members}
use Rattle.serde_json.specs.View.{items_of}
use Rattle.serde_json.specs.Written.{compact_text}
use Rattle.machine_data.specs.Machines.{MachineData}
use Rattle.loop_schedules.specs.Problems.{ProblemData, mii_of}
use Rattle.written.specs.Written.{Written}
use Rattle.machine_variants.specs.declared.variant.Variant.{Variant}
use Rattle.machine_variants.specs.Variants.{variants_for, variants_of}
use Rattle.variants.specs.declared.found.finding.Finding.{Finding}
use Rattle.variants.specs.declared.found.finding.Standing.{Standing}
use Rattle.variants.specs.declared.found.finding.LoopFindings.{LoopFindings}
use Rattle.variants.specs.Documents.{FoundData, IsDocumentOf, IsFoundOf, count_value, document_of, least_value, loop_object, own_value, variant_object, variant_objects}
use Rattle.variants.specs.Findings.{AreFindings}
use Rattle.variants.specs.Texts.{is_met}
use Rattle.variants.specs.inner.Told.{found_object, found_objects, part_object, parts_object}
use Rattle.variants.proofs.Concerned.{each-found, somes, zip-found}

abbrev pub found_of : LoopFindings → FoundData
found_of found = record { standing = found.standing; findings = somes found.findings.items }

is-found : (machine : MachineData) (problem : ProblemData) (found : LoopFindings) → AreFindings machine problem found → IsFoundOf machine problem (found_of found)
is-found machine problem found is = record {
  is_standing = is.is_standing;
  each_finding = each-found machine problem (variants_of machine) found.findings.items is.each_finding;
}

same-objects : (machine : MachineData) (problem : ProblemData) (found : LoopFindings) → AreFindings machine problem found
    → found_objects machine found.standing (variants_of machine) found.findings.items ≡ variant_objects machine problem (found_of found)
same-objects machine problem found is =
    let all = variants_of machine in
    let has = found.standing in
    let told : Variant × Finding → Data = λ both. variant_object machine has both.0 both.1 in
    sym (zip-found machine problem (λ v x. variant_object machine has v x ∷ []) (found_object machine has) (λ v. refl) (λ v x. refl) all found.findings.items is.each_finding)
    ∙ flat_map_single told (zip (variants_for machine problem.loop) (somes found.findings.items))

same-object : (machine : MachineData) (problem : ProblemData) (found : LoopFindings) → AreFindings machine problem found
    → part_object machine (variants_of machine) problem found ≡ loop_object machine problem (found_of found)
unfolding part_object loop_object
same-object machine problem found is =
    ap
    (λ (ds : List Data).
    object (member (codes "ii") (own_value found.standing)
    (member (codes "mii") (count_value (mii_of problem))
    (member (codes "name") (string problem.loop.name)
    (member (codes "operations") (count_value (length problem.loop.statements))
    (member (codes "registers") (least_value found.standing)
    (member (codes "variants") (array (items_of ds)) no_members)))))))
    (same-objects machine problem found is)

-- all loops
abbrev pub all_of : List LoopFindings → List FoundData
all_of loops = map found_of loops

each-is-found : (machine : MachineData) (problems : List ProblemData) (loops : List LoopFindings) → AllZip (AreFindings machine) problems loops → AllZip (IsFoundOf machine) problems (all_of loops)
each-is-found machine [] [] h = tt
each-is-found machine [] (found ∷ loops) h = absurd h
each-is-found machine (p ∷ problems) [] h = absurd h
each-is-found machine (p ∷ problems) (found ∷ loops) h = (is-found machine p found h.0, each-is-found machine problems loops h.1)

same-loops : (machine : MachineData) (problems : List ProblemData) (loops : List LoopFindings) → AllZip (AreFindings machine) problems loops
    → map (λ both. part_object machine (variants_of machine) both.0 both.1) (zip problems loops) ≡ map (λ both. loop_object machine both.0 both.1) (zip problems (all_of loops))
same-loops machine [] [] h = refl
same-loops machine [] (found ∷ loops) h = absurd h
same-loops machine (p ∷ problems) [] h = absurd h
same-loops machine (p ∷ problems) (found ∷ loops) h =
    ap₂ (λ (d : Data) (ds : List Data). d ∷ ds) (same-object machine p found h.0) (same-loops machine problems loops h.1)

pub same-number : (p : Standing → Bool) (loops : List LoopFindings) → count_by (λ (found : LoopFindings). p found.standing) loops ≡ count_by (λ (found : FoundData). p found.standing) (all_of loops)
same-number p [] = refl
same-number p (found ∷ loops) =
    sum_by-cons (λ (e : LoopFindings). cond (p e.standing) 1 0) found loops ∙ ap (λ n. cond (p found.standing) 1 0 + n) (same-number p loops)
    ∙ sym (sum_by-cons (λ (e : FoundData). cond (p e.standing) 1 0) (found_of found) (all_of loops))

same-document : (machine : MachineData) (problems : List ProblemData) (loops : List LoopFindings) → AllZip (AreFindings machine) problems loops
    → parts_object machine (variants_of machine) problems loops ≡ document_of machine problems (all_of loops)
unfolding parts_object document_of
same-document machine problems loops h = λ i.
    object (member (codes "failed") (count_value (same-number (λ s. not (is_met s)) loops i))
    (member (codes "loops") (array (items_of (same-loops machine problems loops h i)))
    (member (codes "met") (count_value (same-number is_met loops i))
    (member (codes "version") (count_value 1) no_members))))

pub is-document : (machine : MachineData) (problems : List ProblemData) (loops : List LoopFindings) (told : Data) (text : List ℕ) (failed : ℕ) (written : Written)
    → AllZip (AreFindings machine) problems loops → told ≡ parts_object machine (variants_of machine) problems loops → text ≡ compact_text told ++ codes "\n"
    → failed ≡ count_by (λ (found : LoopFindings). not (is_met found.standing)) loops → written.text ≡ text → written.all_met ≡ (failed == 0)
    → IsDocumentOf machine problems written
is-document machine problems loops told text failed written are d t f w all = record {
  all = all_of loops;
  each_found = each-is-found machine problems loops are;
  is_text = w ∙ t ∙ ap (λ (v : Data). compact_text v ++ codes "\n") (d ∙ same-document machine problems loops are);
  all_met = all ∙ ap (λ n. n == 0) (f ∙ same-number (λ s. not (is_met s)) loops);
}
