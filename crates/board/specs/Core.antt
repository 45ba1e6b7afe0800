-- What the words of a board stand for: a machine of one thread, whose events are draws, looks and posts.
use Rattle.std.specs.Prelude.{ℕ, ◌+◌, ◌&&◌, min, List, [], ◌∷◌, Option, None, Some, if◌then◌else◌, ◌==◌}

-- a look at a loop, a post of an interval for a loop
pub data Event : Type 0 where
  draw : Event
  look : ℕ → Event
  post : ℕ → ℕ → Event

-- the next number, and for each loop the least interval posted
pub record Core : Type 0 where
  pub next : ℕ
  pub least : ℕ → Option ℕ

abbrev pub core_opening : Core
core_opening = record { next = 0; least = λ _. None }

-- the smaller of what is there and an interval; none is above every number
abbrev pub smaller : Option ℕ → ℕ → Option ℕ
smaller None ii = Some ii
smaller (Some x) ii = Some (min x ii)

abbrev pub core_after : Core → Event → Core
core_after c draw = record { next = c.next + 1; least = c.least }
core_after c (look l) = c
core_after c (post l ii) = record { next = c.next; least = λ k. if k == l then smaller (c.least k) ii else c.least k }

-- what an event answers: a draw the next number, a look the loop's least, a post nothing
abbrev pub core_answer : Core → Event → Option ℕ
core_answer c draw = Some c.next
core_answer c (look l) = c.least l
core_answer c (post l ii) = None

-- core_after a list of events, the first one first
abbrev pub core_run : Core → List Event → Core
core_run c [] = c
core_run c (e ∷ es) = core_run (core_after c e) es

-- how many draws there are
abbrev pub draws : List Event → ℕ
draws [] = 0
draws (draw ∷ es) = 1 + draws es
draws (look l ∷ es) = draws es
draws (post l ii ∷ es) = draws es

-- how often the interval is posted for the loop
abbrev pub posts : ℕ → ℕ → List Event → ℕ
posts l ii [] = 0
posts l ii (draw ∷ es) = posts l ii es
posts l ii (look k ∷ es) = posts l ii es
posts l ii (post k x ∷ es) = (if (k == l) && (x == ii) then 1 else 0) + posts l ii es
