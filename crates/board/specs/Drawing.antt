-- What the rule says of draws alone: when no piece is left, and how often one pass can draw.
use Rattle.std.specs.Prelude.{◌≡◌, ℕ, ◌+◌, ◌<◌, ◌≤◌, false, List, length, Option, is_none, IsTrue}
use Rattle.std.specs.List.{All, Any, AllPairs}
use Rattle.board.specs.declared.view.View.{View}
use Rattle.board.specs.declared.view.Terms.{Terms}
use Rattle.board.specs.Views.{DrawsUnlessDry, is_dry}
use Rattle.board.specs.Rule.{Rule, times_drawn}

-- each piece was drawn, by one draw among those of all views
abbrev pub EachPieceOnce : ℕ → List View → Type 0
EachPieceOnce pieces views = (x : ℕ) → x < pieces → times_drawn views x ≡ 1

-- a draw of some view found no piece left
abbrev pub SomeIsDry : ℕ → List View → Type 0
SomeIsDry pieces views = Any (λ v. IsTrue (is_dry pieces v)) views

-- the numbers drawn ascend, and each is the number of a piece
pub record DrewPieces (pieces : ℕ) (v : View) : Type 0 where
  pub ascending : AllPairs (λ x y. x < y) v.drawn
  pub inside : All (λ x. x < pieces) v.drawn

-- where the rule holds and some view is dry, nothing is left to draw
abbrev pub DryLeavesNothing : Type 0
DryLeavesNothing = (terms : Terms) (words : List ℕ) (views : List View) → Rule terms words views → SomeIsDry terms.pieces views → EachPieceOnce terms.pieces views

-- such a pass is not dry
abbrev pub DrewPiecesIsWet : Type 0
DrewPiecesIsWet = (pieces : ℕ) (v : View) → DrewPieces pieces v → is_dry pieces v ≡ false

-- whatever it is answered, its next draw draws one number more
abbrev pub DrawsCount : Type 0
DrawsCount = (pieces : ℕ) (v w : View) (answer : Option ℕ) → DrewPieces pieces v → DrawsUnlessDry pieces v answer w → length w.drawn ≡ length v.drawn + 1

-- where it is answered a piece, that one is above all that it drew before
abbrev pub DrawsAscend : Type 0
DrawsAscend = (pieces : ℕ) (v w : View) (answer : Option ℕ) → DrewPieces pieces v → DrawsUnlessDry pieces v answer w → is_none answer ≡ false → DrewPieces pieces w

-- it draws no more pieces than there are
abbrev pub DrawsEnd : Type 0
DrawsEnd = (pieces : ℕ) (v : View) → DrewPieces pieces v → length v.drawn ≤ pieces
