-- A document has whole numbers alone.
use Rattle.std.proofs.Common.{◌≡◌, Bool, false, ◌||◌, List, [], ◌∷◌, map, refl, ap₂}
use Rattle.std.specs.Prelude.{Option, Some, None}
use Rattle.std.specs.List.{zip}
use Rattle.serde_json.specs.Data.{Data}
use Rattle.serde_json.specs.View.{items_of}
use Rattle.serde_json.specs.Written.{has_float, items_have_float}
use Rattle.machine_data.specs.Machines.{MachineData}
use Rattle.loop_schedules.specs.Problems.{ProblemData}
use Rattle.machine_variants.specs.declared.variant.Variant.{Variant}
use Rattle.machine_variants.specs.declared.variant.Variant.TheVariants.{Doubled, Shortened, Registers}
use Rattle.variants.specs.declared.found.finding.Standing.{Standing}
use Rattle.variants.specs.declared.found.finding.Standing.TheVariants as standing
use Rattle.variants.specs.declared.found.finding.Finding.{Finding}
use Rattle.variants.specs.declared.found.finding.Finding.TheVariants as finding
use Rattle.variants.specs.declared.found.finding.LoopFindings.{LoopFindings}
use Rattle.variants.specs.Documents.{change_value, interval_value, latency_value, least_value, name_value, number_value, own_value, variant_object}
use Rattle.variants.specs.inner.Told.{found_objects, part_object, parts_object}

-- a value has whole numbers alone
abbrev IsWhole : Data → Type 0
IsWhole d = has_float d ≡ false

neither : (a b : Bool) → a ≡ false → b ≡ false → (a || b) ≡ false
neither a b p q = ap₂ (λ (x y : Bool). x || y) p q

change-whole : (has : Standing) (found : Finding) → IsWhole (change_value has found)
change-whole has finding.Limit = refl
change-whole has finding.Failed = refl
change-whole has (finding.Met ii) = refl

interval-whole : (found : Finding) → IsWhole (interval_value found)
interval-whole finding.Limit = refl
interval-whole finding.Failed = refl
interval-whole (finding.Met ii) = refl

latency-whole : (machine : MachineData) (variant : Variant) → IsWhole (latency_value machine variant)
latency-whole machine (Doubled unit) = refl
latency-whole machine (Shortened opcode) = refl
latency-whole machine (Registers number) = refl

name-whole : (machine : MachineData) (variant : Variant) → IsWhole (name_value machine variant)
name-whole machine (Doubled unit) = refl
name-whole machine (Shortened opcode) = refl
name-whole machine (Registers number) = refl

number-whole : (variant : Variant) → IsWhole (number_value variant)
number-whole (Doubled unit) = refl
number-whole (Shortened opcode) = refl
number-whole (Registers number) = refl

own-whole : (has : Standing) → IsWhole (own_value has)
own-whole standing.Failed = refl
own-whole (standing.Met ii number) = refl

least-whole : (has : Standing) → IsWhole (least_value has)
least-whole standing.Failed = refl
least-whole (standing.Met ii number) = refl

variant-whole : (machine : MachineData) (has : Standing) (variant : Variant) (found : Finding) → IsWhole (variant_object machine has variant found)
unfolding variant_object
variant-whole machine has variant found =
    neither _ _ (change-whole has found)
    (neither _ _ (interval-whole found) (neither _ _ (latency-whole machine variant) (neither _ _ (name-whole machine variant) (neither _ _ (number-whole variant) refl))))

objects-whole : (machine : MachineData) (has : Standing) (variants : List Variant) (found : List (Option Finding)) → items_have_float (items_of (found_objects machine has variants found)) ≡ false
objects-whole machine has [] found = refl
objects-whole machine has (v ∷ variants) [] = refl
objects-whole machine has (v ∷ variants) (None ∷ found) = objects-whole machine has variants found
objects-whole machine has (v ∷ variants) (Some x ∷ found) = neither _ _ (variant-whole machine has v x) (objects-whole machine has variants found)

part-whole : (machine : MachineData) (variants : List Variant) (problem : ProblemData) (found : LoopFindings) → IsWhole (part_object machine variants problem found)
unfolding part_object
part-whole machine variants problem found =
    neither _ _ (own-whole found.standing) (neither _ _ (least-whole found.standing) (neither _ _ (objects-whole machine found.standing variants found.findings.items) refl))

parts-whole : (machine : MachineData) (variants : List Variant) (problems : List ProblemData) (loops : List LoopFindings)
    → items_have_float (items_of (map (λ both. part_object machine variants both.0 both.1) (zip problems loops))) ≡ false
parts-whole machine variants [] loops = refl
parts-whole machine variants (p ∷ problems) [] = refl
parts-whole machine variants (p ∷ problems) (found ∷ loops) = neither _ _ (part-whole machine variants p found) (parts-whole machine variants problems loops)

pub file-whole : (machine : MachineData) (variants : List Variant) (problems : List ProblemData) (loops : List LoopFindings) → has_float (parts_object machine variants problems loops) ≡ false
unfolding parts_object
file-whole machine variants problems loops = neither _ _ (parts-whole machine variants problems loops) refl
