-- What is told of some loops of a text.
use Rattle.std.specs.Prelude.{◌≡◌, ◌+◌, ℕ, codes, Bool, if◌then◌else◌, List, []}
use Rattle.std.specs.List.{sum_by}
use Rattle.writing.specs.Words.{last_line}
use Rattle.loop_listings.specs.Texts.{has_outs, number_failed, number_met}
use Rattle.loop_listings.specs.declared.listings.Row.{Row}
use Rattle.side_by_side.specs.declared.parts.told.ToldLoops.{ToldLoops}

-- how many of the loops of these rows have a kernel and how many have none, and whether one has a value that is live at the end
pub record IsCounted (rows : List Row) (told : ToldLoops) : Type 0 where
  pub met : told.met ≡ number_met rows
  pub failed : told.failed ≡ number_failed rows
  pub outs : told.outs ≡ has_outs rows

abbrev pub text_of_told : ToldLoops → List ℕ
text_of_told told = told.text.items

abbrev pub outs_of : ToldLoops → Bool
outs_of told = told.outs

-- how many loops have a kernel, how many have none, and how many there are

abbrev pub number_met_told : List ToldLoops → ℕ
number_met_told parts = sum_by (λ (part : ToldLoops). part.met) parts

abbrev pub number_failed_told : List ToldLoops → ℕ
number_failed_told parts = sum_by (λ (part : ToldLoops). part.failed) parts

abbrev pub number_told : List ToldLoops → ℕ
number_told parts = number_met_told parts + number_failed_told parts

-- `version 2`, where it is asked for
abbrev pub version_if : Bool → List ℕ
version_if outs = if outs then codes "version 2\n" else []

-- `loops A met B failed F`
abbrev pub last_told : List ToldLoops → List ℕ
last_told parts = last_line (codes "loops ") (number_told parts) (number_met_told parts) (number_failed_told parts)
