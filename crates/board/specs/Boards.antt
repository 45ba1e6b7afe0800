-- What clauses say of a board of words and of its passes.
use Rattle.std.specs.Prelude.{◌≡◌, ℕ}
use Rattle.std.proofs.Common.{◌∙◌, ap}
use Rattle.board.specs.declared.view.View.{View}
use Rattle.board.specs.declared.view.Terms.{Terms}
use Rattle.board.specs.declared.word.WordBoard.{WordBoard}
use Rattle.board.specs.declared.word.WordPass.{WordPass}
use Rattle.board.specs.Views.{blank, is_dry}

abbrev pub tag_of : WordBoard → ℕ
tag_of b = b.tag

-- the sizes that the board was made for
abbrev pub sizes_of : WordBoard → Terms
sizes_of b = record { loops = b.loops; pieces = b.pieces; passes = b.passes }

abbrev pub pass_tag_of : WordPass → ℕ
pass_tag_of p = p.tag

-- what the pass did so far
abbrev pub view_of : WordPass → View
view_of p = p.seat.me.0

-- the pass was made with the board
abbrev pub IsPassOf : WordBoard → WordPass → Type 0
IsPassOf b p = (p.seat.table_id ≡ b.table.shared.table_id) × (p.pieces ≡ b.pieces) × (p.tag ≡ b.tag)

-- a pass of the board with which nothing was done
abbrev pub IsNewPassOf : WordBoard → WordPass → Type 0
IsNewPassOf b p = IsPassOf b p × (view_of p ≡ blank 1)

-- a pass of the board is dry exactly where its view is
pub dry_as_view : (b : WordBoard) (p : WordPass) → IsPassOf b p → p.dry ≡ is_dry b.pieces (view_of p)
dry_as_view b p of = p.dryness ∙ ap (λ n. is_dry n (view_of p)) of.1
