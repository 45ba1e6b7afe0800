-- What the work on one piece, and on one interval of it, adds to a view and to a report.
use Rattle.std.specs.Prelude.{◌≡◌, ℕ, Bool, true, false, ◌+◌, ◌<◌, ◌⊎◌, ◌||◌, List, ◌++◌, map, Option, Some, IsTrue}
use Rattle.board.specs.declared.view.View.{View}
use Rattle.board.specs.Views.{with_seen, with_posted}
use Rattle.reports.specs.declared.entry.Entry.{Entry}
use Rattle.reports.specs.declared.entry.Found.{Found}
use Rattle.reports.specs.declared.entry.Found.TheVariants.{Won, Failed, Beaten, Unsettled}
use Rattle.reports.specs.Entries.{ReportData, Enters, In, entry_place, is_won, won_of, mii_at}
use Rattle.board_workers.specs.Worked.{IsBeatenRightly, from_on}

-- by what becomes of an interval: a lower answer; an answer and a post; an answer
abbrev pub Takes : ℕ → ℕ → View → Found → View → Type 0
Takes l ii v Beaten w = (a : ℕ) × (w ≡ with_seen v l (Some a)) × (a < ii)
Takes l ii v (Won kernel) w = (a : Option ℕ) × (w ≡ with_posted (with_seen v l a) l ii)
Takes l ii v (Failed cause) w = (a : Option ℕ) × (w ≡ with_seen v l a)
Takes l ii v Unsettled w = (a : Option ℕ) × (w ≡ with_seen v l a)

-- after a win of its piece an interval is beaten without a look
abbrev pub TakesOrPasses : Bool → ℕ → ℕ → View → Found → View → Type 0
TakesOrPasses true l ii v found w = (found ≡ Beaten) × (w ≡ v)
TakesOrPasses false l ii v found w = Takes l ii v found w

abbrev pub entry_of : ℕ → ℕ → Found → Entry
entry_of l ii found = record { loop_number = l; interval = ii; found = found }

-- one interval's entry is made
pub record EntersOne (tells : Bool) (v w : View) (l ii : ℕ) (won wins : Bool) (before after : ReportData) : Type 0 where
  pub found : Found
  pub enters : Enters before (entry_of l ii found) after
  pub is_won : wins ≡ (won || is_won found)
  pub told : IsTrue tells → TakesOrPasses won l ii v found w

-- what a worker's view gains by new entries
pub record ViewGains (v w : View) (entries new : List Entry) : Type 0 where
  pub drawn : w.drawn ≡ v.drawn
  pub posted : w.posted ≡ v.posted ++ won_of new
  pub seen : (s : ℕ × Option ℕ) → In s v.seen → In s w.seen
  pub count : w.count ≡ v.count
  pub beaten : (e : Entry) → In e new → IsBeatenRightly w entries e

-- `count` of a loop's intervals are entered, from the one `start` above its least on
pub record Adds (tells : Bool) (v w : View) (l start count : ℕ) (before after : ReportData) : Type 0 where
  pub new : List Entry
  pub entries : after.entries ≡ before.entries ++ new
  pub lost : after.lost ≡ before.lost
  pub places : map entry_place new ≡ map (λ (above : ℕ). (l, mii_at before.loops l + above)) (from_on start count)
  pub gains : IsTrue tells → ViewGains v w after.entries new

-- a piece is lost
pub record Loses (v w : View) (before after : ReportData) : Type 0 where
  pub same_view : w ≡ v
  pub entries : after.entries ≡ before.entries
  pub lost : after.lost ≡ before.lost + 1

abbrev pub Turned : Bool → View → View → ℕ → ℕ → ℕ → ReportData → ReportData → Type 0
Turned tells v w l start count before after = Adds tells v w l start count before after ⊎ Loses v w before after
