-- What each variant of a machine brings loops, as text.
use Rattle.std.specs.Prelude.{◌≡◌, ℕ, ◌-◌, ◌==◌, nat_lt, not, Bool, true, false, if◌then◌else◌, codes, List, ◌++◌, length, count_by}
use Rattle.std.specs.List.{AllZip, slice_index_or}
use Rattle.machine_data.specs.Machines.{MachineData, table_of}
use Rattle.machine_data.specs.Opcodes.{word_of}
use Rattle.loop_data.specs.Loops.{LoopData}
use Rattle.graph.specs.Dependences.{latency_in}
use Rattle.lower_bounds.specs.Texts.{AreTexts}
use Rattle.writing.specs.Words.{last_line, told}
use Rattle.loop_schedules.specs.Problems.{ProblemData, IsProblemOf, mii_of}
use Rattle.written.specs.Written.{Written}
use Rattle.machine_variants.specs.declared.variant.Variant.{Variant}
use Rattle.machine_variants.specs.declared.variant.Variant.TheVariants.{Doubled, Shortened, Registers}
use Rattle.variants.specs.declared.found.finding.Standing.{Standing}
use Rattle.variants.specs.declared.found.finding.Standing.TheVariants as standing
use Rattle.variants.specs.declared.found.finding.Finding.{Finding}
use Rattle.variants.specs.declared.found.finding.Finding.TheVariants as finding
use Rattle.machine_variants.specs.Variants.{variants_for}
use Rattle.variants.specs.Intervals.{IsFinding, IsStanding}

-- ` ii I registers N` or ` failed`, with a line feed
abbrev pub standing_text : Standing → List ℕ
standing_text standing.Failed = codes " failed\n"
standing_text (standing.Met ii number) = (told (codes " ii ") ii ++ told (codes " registers ") number) ++ codes "\n"

-- `loop NAME ops O mii M`, and that
abbrev pub loop_line : ProblemData → Standing → List ℕ
loop_line problem has =
    (((codes "loop " ++ problem.loop.name) ++ told (codes " ops ") (length problem.loop.statements)) ++ told (codes " mii ") (mii_of problem)) ++ standing_text has

-- `unit U doubled`, `latency OPCODE L` or `registers R`
abbrev pub variant_text : MachineData → Variant → List ℕ
variant_text machine (Doubled unit) = (codes "unit " ++ slice_index_or machine.units unit (codes "")) ++ codes " doubled"
variant_text machine (Shortened opcode) = (codes "latency " ++ word_of opcode) ++ told (codes " ") (latency_in (table_of machine opcode) - 1)
variant_text machine (Registers number) = told (codes "registers ") number

-- how an interval compares with that of the machine as it is, if there is one
abbrev pub change_word : Standing → ℕ → List ℕ
change_word standing.Failed ii = codes "new"
change_word (standing.Met own number) ii = if nat_lt ii own then codes "shorter" else (if nat_lt own ii then codes "longer" else codes "same")

-- ` ii J shorter`, ` longer`, ` same` or ` new`; ` failed`; or ` -` where the variant passes a limit; each with a line feed
abbrev pub finding_text : Standing → Finding → List ℕ
finding_text has finding.Limit = codes " -\n"
finding_text has finding.Failed = codes " failed\n"
finding_text has (finding.Met ii) = told (codes " ii ") ii ++ ((codes " " ++ change_word has ii) ++ codes "\n")

abbrev pub variant_line : MachineData → Standing → Variant → Finding → List ℕ
variant_line machine has variant found = variant_text machine variant ++ finding_text has found

-- what is told of a loop, and what it has on the machine as it is
pub record PartData : Type 0 where
  pub standing : Standing
  pub text : List ℕ

-- the line of a loop, and a line for each variant that concerns it
pub record IsPartOf (machine : MachineData) (problem : ProblemData) (part : PartData) : Type 0 where
  pub is_standing : IsStanding machine problem part.standing
  pub lines : List ℕ
  pub are_lines : AreTexts (IsFinding machine problem) (variant_line machine part.standing) (variants_for machine problem.loop) lines
  pub is_text : part.text ≡ loop_line problem part.standing ++ lines

abbrev pub is_met : Standing → Bool
is_met standing.Failed = false
is_met (standing.Met ii number) = true

-- the parts of problems, one after another, with how many loops have an interval and how many have none
pub record ArePartsOf (machine : MachineData) (problems : List ProblemData) (text : List ℕ) (met failed : ℕ) : Type 0 where
  pub parts : AreTexts (IsPartOf machine) (λ problem (part : PartData). part.text) problems text
  pub number_met : met ≡ count_by (λ (part : PartData). is_met part.standing) parts.values
  pub number_failed : failed ≡ count_by (λ (part : PartData). not (is_met part.standing)) parts.values

-- what is told of the loops of problems, in order, and then `loops A met B failed F`; with whether every loop has an interval
pub record IsTextOf (machine : MachineData) (problems : List ProblemData) (written : Written) : Type 0 where
  pub text : List ℕ
  pub met : ℕ
  pub failed : ℕ
  pub parts : ArePartsOf machine problems text met failed
  pub is_text : written.text ≡ text ++ last_line (codes "loops ") (length problems) met failed
  pub all_met : written.all_met ≡ (failed == 0)

-- that of each loop's problem on the machine
pub record IsVaryText (ratio ceiling : ℕ) (machine : MachineData) (loops : List LoopData) (written : Written) : Type 0 where
  pub problems : List ProblemData
  pub each_problem : AllZip (λ loop problem. IsProblemOf machine loop ratio ceiling problem) loops problems
  pub is_text_of : IsTextOf machine problems written
