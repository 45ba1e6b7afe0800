-- What a loop has on the variant of a number, by what is found of it.
use Rattle.std.specs.Prelude.{ℕ, Bool, true, false, if◌then◌else◌, codes, List, [], ◌++◌, length, Option, Some, None, is_none, count_by, slice_get}
use Rattle.std.specs.List.{flat_map, list_any, range_with_len, sum_by, zip}
use Rattle.machine_data.specs.Machines.{MachineData}
use Rattle.writing.specs.Words.{told}
use Rattle.machine_variants.specs.declared.variant.Variant.{Variant}
use Rattle.variants.specs.declared.found.finding.Standing.{Standing}
use Rattle.variants.specs.declared.found.finding.Standing.TheVariants as standing
use Rattle.variants.specs.declared.found.finding.Finding.{Finding}
use Rattle.variants.specs.declared.found.finding.Finding.TheVariants as finding
use Rattle.variants.specs.declared.found.finding.LoopFindings.{LoopFindings}
use Rattle.variants.specs.Texts.{variant_text}
use Rattle.variants.specs.Totals.{cycles, is_longer}

abbrev pub interval_of : Standing → Option ℕ
interval_of standing.Failed = None
interval_of (standing.Met ii number) = Some ii

-- the interval on the machine as it is
abbrev pub own_interval : LoopFindings → Option ℕ
own_interval found = interval_of found.standing

-- the one on a variant: where nothing is found there, that on the machine as it is
abbrev pub interval_in : Standing → Option (Option Finding) → Option ℕ
interval_in has None = interval_of has
interval_in has (Some None) = interval_of has
interval_in has (Some (Some finding.Limit)) = None
interval_in has (Some (Some finding.Failed)) = None
interval_in has (Some (Some (finding.Met ii))) = Some ii

abbrev pub interval_at : ℕ → LoopFindings → Option ℕ
interval_at number found = interval_in found.standing (slice_get found.findings.items number)

-- something is found there
abbrev pub is_found : Option (Option Finding) → Bool
is_found None = false
is_found (Some None) = false
is_found (Some (Some found)) = true

abbrev pub is_concerned : ℕ → LoopFindings → Bool
is_concerned number found = is_found (slice_get found.findings.items number)

-- the variant passes a limit
abbrev pub is_limit : Option (Option Finding) → Bool
is_limit None = false
is_limit (Some None) = false
is_limit (Some (Some finding.Limit)) = true
is_limit (Some (Some finding.Failed)) = false
is_limit (Some (Some (finding.Met ii))) = false

abbrev pub is_past : ℕ → LoopFindings → Bool
is_past number found = is_limit (slice_get found.findings.items number)

-- the sums for all loops

abbrev pub own_sum : List LoopFindings → ℕ
own_sum loops = sum_by (λ found. cycles (own_interval found)) loops

abbrev pub sum_at : ℕ → List LoopFindings → ℕ
sum_at number loops = sum_by (λ found. cycles (interval_at number found)) loops

abbrev pub own_failed : List LoopFindings → ℕ
own_failed loops = count_by (λ found. is_none (own_interval found)) loops

abbrev pub failed_at : ℕ → List LoopFindings → ℕ
failed_at number loops = count_by (λ found. is_none (interval_at number found)) loops

abbrev pub shorter_at : ℕ → List LoopFindings → ℕ
shorter_at number loops = count_by (λ found. is_longer (own_interval found) (interval_at number found)) loops

abbrev pub longer_at : ℕ → List LoopFindings → ℕ
longer_at number loops = count_by (λ found. is_longer (interval_at number found) (own_interval found)) loops

abbrev pub sums_text : ℕ → ℕ → List ℕ
sums_text ii failed = told (codes " ii ") ii ++ told (codes " failed ") failed

abbrev pub changes_text : ℕ → ℕ → List ℕ
changes_text shorter longer = told (codes " shorter ") shorter ++ told (codes " longer ") longer

abbrev pub column_text : ℕ → List LoopFindings → List ℕ
column_text number loops = (sums_text (sum_at number loops) (failed_at number loops) ++ changes_text (shorter_at number loops) (longer_at number loops)) ++ codes "\n"

-- the line of the variant of a number, where it concerns some loop
abbrev pub total_line : MachineData → List LoopFindings → Variant → ℕ → List ℕ
total_line machine loops variant number =
    if list_any (is_concerned number) loops then variant_text machine variant ++ (if list_any (is_past number) loops then codes " -\n" else column_text number loops) else []

-- .. of each variant
abbrev pub total_lines : MachineData → List LoopFindings → List Variant → List ℕ
total_lines machine loops variants = flat_map (λ both. total_line machine loops both.0 both.1) (zip variants (range_with_len 0 (length variants)))
