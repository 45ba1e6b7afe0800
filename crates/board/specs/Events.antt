-- What the events of a machine of one thread have to do with the views of all passes and with the words.
use Rattle.std.specs.Prelude.{◌≡◌, ℕ, ◌<◌, List, length, Some}
use Rattle.board.specs.declared.view.View.{View}
use Rattle.board.specs.Core.{Event, draw, look, Core, core_answer, draws, posts}
use Rattle.board.specs.Rule.{total, times_posted, next_of, least_of}

-- the draws and the posts are just those of all views
pub record IsMadeOf (events : List Event) (views : List View) : Type 0 where
  pub drawn : draws events ≡ total (λ v. length v.drawn) views
  pub posted : (l ii : ℕ) → posts l ii events ≡ total (λ v. times_posted l ii v.posted) views

-- the words stand for the machine's state
pub record StandsFor (loops : ℕ) (words : List ℕ) (core : Core) : Type 0 where
  pub next : core.next ≡ next_of words
  pub least : (l : ℕ) → l < loops → core.least l ≡ least_of words l

-- the machine answers a draw the next number that the words give, and a look at a loop the interval of the loop's word
pub record AnswersAs (loops : ℕ) (words : List ℕ) (core : Core) : Type 0 where
  pub drawn : core_answer core draw ≡ Some (next_of words)
  pub looked : (l : ℕ) → l < loops → core_answer core (look l) ≡ least_of words l
