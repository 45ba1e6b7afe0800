-- What a worker does over a board that tells views.
use Rattle.std.specs.Prelude.{◌≡◌, ℕ, zero, suc, ◌+◌, ◌-◌, ◌<◌, ◌⊎◌, nat_lt, List, [], ◌∷◌, length, map, filter, Some}
use Rattle.std.specs.List.{flat_map}
use Rattle.board.specs.declared.view.View.{View}
use Rattle.board.specs.Rule.{occurrences}
use Rattle.board.specs.Views.{is_dry}
use Rattle.loop_schedules.specs.Problems.{ProblemData}
use Rattle.loop_listings.specs.Pieces.{PiecesData, piece_count, loop_of_piece, start_of_piece, end_of_piece}
use Rattle.reports.specs.declared.entry.Entry.{Entry}
use Rattle.reports.specs.declared.entry.Found.TheVariants.{Beaten}
use Rattle.reports.specs.Entries.{ReportData, In, entry_place, won_of, mii_at}

-- numbers in a row, from `start` on: the last number is how many
abbrev pub from_on : ℕ → ℕ → List ℕ
from_on start zero = []
from_on start (suc n) = start ∷ from_on (start + 1) n

-- each loop with an interval of a piece, in order
abbrev pub places_of : List ProblemData → PiecesData → ℕ → List (ℕ × ℕ)
places_of loops pieces p =
    map (λ (above : ℕ). (loop_of_piece pieces p, mii_at loops (loop_of_piece pieces p) + above)) (from_on (start_of_piece pieces p) (end_of_piece pieces p - start_of_piece pieces p))

-- the numbers drawn that are pieces
abbrev pub drawn_pieces : ℕ → View → List ℕ
drawn_pieces number v = filter (λ n. nat_lt n number) v.drawn

-- each piece drawn has an entry for each of its intervals, in order, or was lost; there is no other entry
pub record Covers (pieces : PiecesData) (v : View) (report : ReportData) : Type 0 where
  pub kept : List ℕ
  pub skipped : List ℕ
  pub each : (p : ℕ) → occurrences p kept + occurrences p skipped ≡ occurrences p (drawn_pieces (piece_count pieces) v)
  pub lost : report.lost ≡ length skipped
  pub entries : map entry_place report.entries ≡ flat_map (places_of report.loops pieces) kept

-- a lower interval was seen for the loop of an entry
pub record HasLowerAnswer (v : View) (e : Entry) : Type 0 where
  pub interval : ℕ
  pub seen : In (e.loop_number, Some interval) v.seen
  pub lower : interval < e.interval

-- a lower interval was won for it in the same report
pub record HasLowerWin (entries : List Entry) (e : Entry) : Type 0 where
  pub interval : ℕ
  pub won : In (e.loop_number, interval) (won_of entries)
  pub lower : interval < e.interval

abbrev pub IsBeatenRightly : View → List Entry → Entry → Type 0
IsBeatenRightly v entries e = e.found ≡ Beaten → HasLowerAnswer v e ⊎ HasLowerWin entries e

-- what a view gained from nothing, and the report of that
pub record WorkedAs (pieces : PiecesData) (v : View) (report : ReportData) : Type 0 where
  pub covers : Covers pieces v report
  pub posted : v.posted ≡ won_of report.entries
  pub beaten : (e : Entry) → In e report.entries → IsBeatenRightly v report.entries e
  pub dry : report.dry ≡ is_dry (piece_count pieces) v

-- nothing was done with the pass yet
pub record IsUnused (v : View) : Type 0 where
  pub drawn : v.drawn ≡ []
  pub posted : v.posted ≡ []
  pub seen : v.seen ≡ []
