-- The rule of the shared table, and what each of its steps tells the pass that makes it.
use Rattle.std.specs.Prelude.{◌≡◌, ℕ, ◌+◌, ◌-◌, ◌<◌, ◌++◌, All, length}
use Rattle.atomic_table.specs.Table.{State, Me, Step}
use Rattle.board.specs.declared.view.View.{View}
use Rattle.board.specs.declared.view.Terms.{Terms}
use Rattle.board.specs.Views.{with_drawn, with_posted, with_seen, IsNoLater}
use Rattle.board.specs.Rule.{Rule, IsWithinLimits, interval_of}

abbrev pub PassState : Type 0
PassState = Me (Unit {0}) View

abbrev pub Keeps : Terms → State (Unit {0}) View → Type 0
Keeps terms s = (length s.words ≡ terms.loops + 1) × IsWithinLimits terms × Rule terms s.words s.views

-- a word's loop
abbrev pub loop_of_word : Step (Unit {0}) → ℕ
loop_of_word st = st.word - 1

abbrev pub Drew : Step (Unit {0}) → PassState → ℕ → PassState → Type 0
Drew st me found me' = (me'.0 ≡ with_drawn me.0 found) × All (λ x. x < found) me.0.drawn × (me'.1 ≡ me.1)

abbrev pub Looked : Step (Unit {0}) → PassState → ℕ → PassState → Type 0
Looked st me found me' = (me'.0 ≡ with_seen me.0 (loop_of_word st) (interval_of found)) × IsNoLater me.0 (loop_of_word st) (interval_of found) × (me'.1 ≡ me.1)

abbrev pub Posted : Step (Unit {0}) → PassState → ℕ → PassState → Type 0
Posted st me found me' = (me'.0 ≡ with_posted me.0 (loop_of_word st) st.first) × (me'.1 ≡ me.1)

-- one part for a pass of its own
abbrev pub rest_of : View → View
rest_of v = record { drawn = v.drawn; posted = v.posted; seen = v.seen; count = v.count - 1 }

-- what two passes did
abbrev pub both : View → View → View
both v w = record { drawn = v.drawn ++ w.drawn; posted = v.posted ++ w.posted; seen = v.seen ++ w.seen; count = v.count + w.count }
