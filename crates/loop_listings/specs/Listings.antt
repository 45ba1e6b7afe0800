-- A listing: what is told of each loop of a file.
use Rattle.std.specs.Prelude.{ℕ, ◌≤◌, Bool, true, false, List, [], ◌∷◌, length}
use Rattle.machine_data.specs.declared.limits.TheConstants.{MAX_CEILING}
use Rattle.std.specs.List.{All}
use Rattle.loop_schedules.specs.Problems.{ProblemData}
use Rattle.loop_listings.specs.declared.choices.Choice.{Choice}
use Rattle.loop_listings.specs.declared.choices.Choice.TheVariants.{Met, Failed}
use Rattle.loop_listings.specs.declared.listings.Row.{Row}

abbrev pub is_met : Choice → Bool
is_met (Met ii kernel) = true
is_met (Failed cause) = false

abbrev pub is_failed : Choice → Bool
is_failed (Met ii kernel) = false
is_failed (Failed cause) = true

-- how many intervals above the least one are tried at most, and a row for each loop
pub record ListingData : Type 0 where
  pub ceiling : ℕ
  pub rows : List Row

-- what is told of a loop with its choice
abbrev pub listing_row : ProblemData → Choice → Row
listing_row problem choice = record {
  name = problem.loop.name;
  operations = length problem.loop.statements;
  outs = length problem.loop.outs;
  resources = problem.resources;
  recurrences = problem.recurrences;
  choice = choice;
}

-- each loop with its choice, in order
abbrev pub listing_rows : List ProblemData → List Choice → List Row
listing_rows [] choices = []
listing_rows (p ∷ ps) [] = []
listing_rows (p ∷ ps) (c ∷ cs) = listing_row p c ∷ listing_rows ps cs

abbrev pub listing_of : ℕ → List ProblemData → List Choice → ListingData
listing_of ceiling problems choices = record { ceiling = ceiling; rows = listing_rows problems choices }

-- the two bounds are within their limits
pub record IsRow (row : Row) : Type 0 where
  pub resources_few : row.resources ≤ 2048
  pub recurrences_few : row.recurrences ≤ 8192

pub record IsListing (listing : ListingData) : Type 0 where
  pub ceiling_few : listing.ceiling ≤ MAX_CEILING
  pub rows : All IsRow listing.rows
