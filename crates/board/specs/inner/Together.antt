-- What several passes did together.
use Rattle.std.specs.Prelude.{◌≡◌, ℕ, List, All, Contains}
use Rattle.board.specs.declared.view.View.{View}
use Rattle.board.specs.Rule.{total, occurrences, times_posted}

-- the view has all that these views have, and nothing else
pub record IsTogether (v : View) (views : List View) : Type 0 where
  pub drawn : (x : ℕ) → occurrences x v.drawn ≡ total (λ u. occurrences x u.drawn) views
  pub posted : (l ii : ℕ) → times_posted l ii v.posted ≡ total (λ u. times_posted l ii u.posted) views
  pub seen : All (λ u. All (Contains v.seen) u.seen) views
  pub count : v.count ≡ total (λ u. u.count) views
