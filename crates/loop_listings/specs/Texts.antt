-- The text of a listing.
use Rattle.std.specs.Prelude.{ℕ, ◌+◌, codes, max, nat_lt, Bool, if◌then◌else◌, List, [], ◌++◌, length, count_by}
use Rattle.std.specs.List.{flat_map, list_any}
use Rattle.writing.specs.Words.{ended, last_line, told}
use Rattle.kernel.specs.Text.{kernel_text_of}
use Rattle.loop_listings.specs.declared.causes.Cause.{Cause}
use Rattle.loop_listings.specs.declared.causes.Cause.TheVariants.{Table, Budget, Stages, Registers}
use Rattle.loop_listings.specs.declared.choices.Choice.{Choice}
use Rattle.loop_listings.specs.declared.choices.Choice.TheVariants.{Met, Failed}
use Rattle.loop_listings.specs.declared.listings.Row.{Row}
use Rattle.loop_listings.specs.Listings.{ListingData, is_met, is_failed}

abbrev pub cause_word : Cause → List ℕ
cause_word Table = codes "table"
cause_word Budget = codes "budget"
cause_word Stages = codes "stages"
cause_word Registers = codes "registers"

-- the least interval that is tried
abbrev pub mii_in : Row → ℕ
mii_in row = max row.resources row.recurrences

-- `loop NAME ops O res R rec C mii M`
abbrev pub head_of : Row → List ℕ
head_of row =
    ((((codes "loop " ++ row.name) ++ told (codes " ops ") row.operations) ++ told (codes " res ") row.resources)
    ++ told (codes " rec ") row.recurrences) ++ told (codes " mii ") (mii_in row)

-- the rest of the line, and the kernel's text: ` ii I stages S` where there is a kernel, and else ` failed to T: CAUSE` with the last
-- interval that was tried
abbrev pub choice_text : ℕ → Choice → List ℕ
choice_text last (Met ii kernel) = ((told (codes " ii ") ii ++ told (codes " stages ") kernel.stages) ++ codes "\n") ++ kernel_text_of kernel
choice_text last (Failed cause) = told (codes " failed to ") last ++ (codes ": " ++ ended (cause_word cause))

abbrev pub row_text : ℕ → Row → List ℕ
row_text ceiling row = head_of row ++ choice_text (mii_in row + ceiling) row.choice

-- some loop has a value that is live at the end, met or not
abbrev pub has_outs : List Row → Bool
has_outs rows = list_any (λ (row : Row). nat_lt 0 row.outs) rows

-- `version 2`, where some loop has a value that is live at the end
abbrev pub version_text : List Row → List ℕ
version_text rows = if has_outs rows then codes "version 2\n" else []

-- how many loops have a kernel, and how many have none
abbrev pub number_met : List Row → ℕ
number_met rows = count_by (λ (row : Row). is_met row.choice) rows

abbrev pub number_failed : List Row → ℕ
number_failed rows = count_by (λ (row : Row). is_failed row.choice) rows

-- `loops A met B failed F`
abbrev pub counts_line : List Row → List ℕ
counts_line rows = last_line (codes "loops ") (length rows) (number_met rows) (number_failed rows)

unfoldable pub listing_text_of : ListingData → List ℕ
listing_text_of listing = (version_text listing.rows ++ flat_map (row_text listing.ceiling) listing.rows) ++ counts_line listing.rows
