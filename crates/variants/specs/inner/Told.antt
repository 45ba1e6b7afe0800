-- What is told of what is found, loop by loop and variant by variant.
use Rattle.std.specs.Prelude.{ℕ, not, codes, List, [], ◌∷◌, ◌++◌, length, map, count_by, Option, Some, None}
use Rattle.std.specs.List.{flat_map, zip}
use Rattle.serde_json.specs.Data.{Data, string, array, object, member, no_members}
use Rattle.serde_json.specs.View.{items_of}
use Rattle.machine_data.specs.Machines.{MachineData}
use Rattle.loop_schedules.specs.Problems.{ProblemData, mii_of}
use Rattle.machine_variants.specs.declared.variant.Variant.{Variant}
use Rattle.variants.specs.declared.found.finding.Standing.{Standing}
use Rattle.variants.specs.declared.found.finding.Finding.{Finding}
use Rattle.variants.specs.declared.found.finding.LoopFindings.{LoopFindings}
use Rattle.variants.specs.Texts.{is_met, loop_line, variant_line}
use Rattle.variants.specs.Documents.{count_value, least_value, own_value, variant_object}

-- the line of a variant, where it concerns the loop
abbrev pub found_line : MachineData → Standing → Variant → Option Finding → List ℕ
found_line machine has variant None = []
found_line machine has variant (Some found) = variant_line machine has variant found

-- .. of each of some variants
abbrev pub found_lines : MachineData → Standing → List Variant → List (Option Finding) → List ℕ
found_lines machine has variants findings = flat_map (λ both. found_line machine has both.0 both.1) (zip variants findings)

abbrev pub part_text : MachineData → List Variant → ProblemData → LoopFindings → List ℕ
part_text machine variants problem found = loop_line problem found.standing ++ found_lines machine found.standing variants found.findings.items

-- the object of a variant, where it concerns the loop
abbrev pub found_object : MachineData → Standing → Variant → Option Finding → List Data
found_object machine has variant None = []
found_object machine has variant (Some found) = variant_object machine has variant found ∷ []

-- .. of each of some variants
abbrev pub found_objects : MachineData → Standing → List Variant → List (Option Finding) → List Data
found_objects machine has variants findings = flat_map (λ both. found_object machine has both.0 both.1) (zip variants findings)

-- the object of a loop, with these variants of the machine
unfoldable pub part_object : MachineData → List Variant → ProblemData → LoopFindings → Data
part_object machine variants problem found =
    object (member (codes "ii") (own_value found.standing)
    (member (codes "mii") (count_value (mii_of problem))
    (member (codes "name") (string problem.loop.name)
    (member (codes "operations") (count_value (length problem.loop.statements))
    (member (codes "registers") (least_value found.standing)
    (member (codes "variants") (array (items_of (found_objects machine found.standing variants found.findings.items))) no_members))))))

unfoldable pub parts_object : MachineData → List Variant → List ProblemData → List LoopFindings → Data
parts_object machine variants problems loops =
    object (member (codes "failed") (count_value (count_by (λ (found : LoopFindings). not (is_met found.standing)) loops))
    (member (codes "loops") (array (items_of (map (λ both. part_object machine variants both.0 both.1) (zip problems loops))))
    (member (codes "met") (count_value (count_by (λ (found : LoopFindings). is_met found.standing) loops))
    (member (codes "version") (count_value 1) no_members))))
