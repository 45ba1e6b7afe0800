-- What each variant of a machine brings loops, as JSON.
use Rattle.std.specs.Prelude.{◌≡◌, ℕ, ◌-◌, ◌==◌, not, Bool, true, false, codes, List, ◌++◌, length, map, count_by}
use Rattle.std.specs.List.{AllZip, slice_index_or, zip}
use Rattle.serde_json.specs.Data.{Data, null, boolean, number, string, array, object, unsigned, member, no_members}
use Rattle.serde_json.specs.View.{items_of}
use Rattle.serde_json.specs.Written.{compact_text}
use Rattle.machine_data.specs.Machines.{MachineData, table_of}
use Rattle.machine_data.specs.Opcodes.{word_of}
use Rattle.loop_data.specs.Loops.{LoopData}
use Rattle.graph.specs.Dependences.{latency_in}
use Rattle.loop_schedules.specs.Problems.{ProblemData, IsProblemOf, mii_of}
use Rattle.written.specs.Written.{Written}
use Rattle.machine_variants.specs.declared.variant.Variant.{Variant}
use Rattle.machine_variants.specs.declared.variant.Variant.TheVariants.{Doubled, Shortened, Registers}
use Rattle.machine_variants.specs.Variants.{variants_for}
use Rattle.variants.specs.declared.found.finding.Standing.{Standing}
use Rattle.variants.specs.declared.found.finding.Standing.TheVariants as standing
use Rattle.variants.specs.declared.found.finding.Finding.{Finding}
use Rattle.variants.specs.declared.found.finding.Finding.TheVariants as finding
use Rattle.variants.specs.Intervals.{IsFinding, IsStanding}
use Rattle.variants.specs.Texts.{change_word, is_met}

-- the members of each object stand in the order of their keys

abbrev pub count_value : ℕ → Data
count_value n = number (unsigned n)

-- what is changed: `unit`, `latency` or `registers`
abbrev pub kind_word : Variant → List ℕ
kind_word (Doubled unit) = codes "unit"
kind_word (Shortened opcode) = codes "latency"
kind_word (Registers count) = codes "registers"

-- the unit that is there twice, or the opcode of the latency
abbrev pub name_value : MachineData → Variant → Data
name_value machine (Doubled unit) = string (slice_index_or machine.units unit (codes ""))
name_value machine (Shortened opcode) = string (word_of opcode)
name_value machine (Registers count) = null

-- the latency on the variant, where it is that which is changed
abbrev pub latency_value : MachineData → Variant → Data
latency_value machine (Doubled unit) = null
latency_value machine (Shortened opcode) = count_value (latency_in (table_of machine opcode) - 1)
latency_value machine (Registers count) = null

-- the number of registers on the variant, where it is that which is changed
abbrev pub number_value : Variant → Data
number_value (Doubled unit) = null
number_value (Shortened opcode) = null
number_value (Registers count) = count_value count

-- the interval on a variant, where there is one
abbrev pub interval_value : Finding → Data
interval_value finding.Limit = null
interval_value finding.Failed = null
interval_value (finding.Met ii) = count_value ii

-- .. and how it compares with that on the machine as it is
abbrev pub change_value : Standing → Finding → Data
change_value has finding.Limit = null
change_value has finding.Failed = null
change_value has (finding.Met ii) = string (change_word has ii)

-- the variant passes a limit
abbrev pub is_limit : Finding → Bool
is_limit finding.Limit = true
is_limit finding.Failed = false
is_limit (finding.Met ii) = false

-- a variant, and what a loop has there
unfoldable pub variant_object : MachineData → Standing → Variant → Finding → Data
variant_object machine has variant found =
    object (member (codes "change") (change_value has found)
    (member (codes "ii") (interval_value found)
    (member (codes "latency") (latency_value machine variant)
    (member (codes "limit") (boolean (is_limit found))
    (member (codes "name") (name_value machine variant)
    (member (codes "registers") (number_value variant)
    (member (codes "variant") (string (kind_word variant)) no_members)))))))

-- the interval on the machine as it is, where there is one
abbrev pub own_value : Standing → Data
own_value standing.Failed = null
own_value (standing.Met ii least) = count_value ii

-- .. and the least number of registers for it
abbrev pub least_value : Standing → Data
least_value standing.Failed = null
least_value (standing.Met ii least) = count_value least

-- what is found of a loop: its standing, and what it has on each variant that concerns it
pub record FoundData : Type 0 where
  pub standing : Standing
  pub findings : List Finding

pub record IsFoundOf (machine : MachineData) (problem : ProblemData) (found : FoundData) : Type 0 where
  pub is_standing : IsStanding machine problem found.standing
  pub each_finding : AllZip (IsFinding machine problem) (variants_for machine problem.loop) found.findings

-- the variants that concern a loop, in order
abbrev pub variant_objects : MachineData → ProblemData → FoundData → List Data
variant_objects machine problem found = map (λ both. variant_object machine found.standing both.0 both.1) (zip (variants_for machine problem.loop) found.findings)

-- a loop
unfoldable pub loop_object : MachineData → ProblemData → FoundData → Data
loop_object machine problem found =
    object (member (codes "ii") (own_value found.standing)
    (member (codes "mii") (count_value (mii_of problem))
    (member (codes "name") (string problem.loop.name)
    (member (codes "operations") (count_value (length problem.loop.statements))
    (member (codes "registers") (least_value found.standing)
    (member (codes "variants") (array (items_of (variant_objects machine problem found))) no_members))))))

abbrev pub number_met : List FoundData → ℕ
number_met all = count_by (λ (found : FoundData). is_met found.standing) all

abbrev pub number_failed : List FoundData → ℕ
number_failed all = count_by (λ (found : FoundData). not (is_met found.standing)) all

-- all loops, in order, with how many have an interval on the machine as it is and how many have none
unfoldable pub document_of : MachineData → List ProblemData → List FoundData → Data
document_of machine problems all =
    object (member (codes "failed") (count_value (number_failed all))
    (member (codes "loops") (array (items_of (map (λ both. loop_object machine both.0 both.1) (zip problems all))))
    (member (codes "met") (count_value (number_met all))
    (member (codes "version") (count_value 1) no_members))))

-- what is found of the loops of problems, as JSON without blanks on one line; with whether every loop has an interval
pub record IsDocumentOf (machine : MachineData) (problems : List ProblemData) (written : Written) : Type 0 where
  pub all : List FoundData
  pub each_found : AllZip (IsFoundOf machine) problems all
  pub is_text : written.text ≡ compact_text (document_of machine problems all) ++ codes "\n"
  pub all_met : written.all_met ≡ (number_failed all == 0)

-- that of each loop's problem on the machine
pub record IsVaryDocument (ratio ceiling : ℕ) (machine : MachineData) (loops : List LoopData) (written : Written) : Type 0 where
  pub problems : List ProblemData
  pub each_problem : AllZip (λ loop problem. IsProblemOf machine loop ratio ceiling problem) loops problems
  pub is_document_of : IsDocumentOf machine problems written
