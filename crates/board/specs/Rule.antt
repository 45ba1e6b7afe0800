-- The rule over the words of a board and the views of all its passes.
-- Word 0 is the next number. Word 1 + l is the least interval posted for the loop l, or the greatest u64, which stands for none.
use Rattle.std.specs.Prelude.{◌≡◌, ℕ, ◌+◌, ◌<◌, ◌≤◌, ◌&&◌, if◌then◌else◌, nat_lt, ◌==◌, List, [], ◌∷◌, All, Option, None, Some, IfSome, slice_index}
use Rattle.board.specs.declared.view.View.{View}
use Rattle.board.specs.declared.view.Terms.{Terms}
use Rattle.board.specs.Views.{beyond, blank, IsAtMost}

-- f of each view, added up
abbrev pub total : (View → ℕ) → List View → ℕ
total f [] = 0
total f (v ∷ vs) = f v + total f vs

-- how often the number stands in the list
abbrev pub occurrences : ℕ → List ℕ → ℕ
occurrences x [] = 0
occurrences x (y ∷ ys) = (if y == x then 1 else 0) + occurrences x ys

-- how often the interval stands in the list for the loop
abbrev pub times_posted : ℕ → ℕ → List (ℕ × ℕ) → ℕ
times_posted l ii [] = 0
times_posted l ii (p ∷ ps) = (if (p.0 == l) && (p.1 == ii) then 1 else 0) + times_posted l ii ps

-- how often the number was drawn, in all views
abbrev pub times_drawn : List View → ℕ → ℕ
times_drawn views x = total (λ v. occurrences x v.drawn) views

-- some view has posted the interval for the loop
abbrev pub IsPosted : List View → ℕ → ℕ → Type 0
IsPosted views l ii = 0 < total (λ v. times_posted l ii v.posted) views

-- the next number
abbrev pub next_of : List ℕ → ℕ
next_of words = slice_index words 0

-- the interval that a loop's word stands for
abbrev pub interval_of : ℕ → Option ℕ
interval_of word = if word == 18446744073709551615 then None else Some word

abbrev pub least_of : List ℕ → ℕ → Option ℕ
least_of words l = interval_of (slice_index words (1 + l))

-- the numbers drawn in all views are those below the next number, each once
abbrev pub EachNumberOnce : List ℕ → List View → Type 0
EachNumberOnce words views = (x : ℕ) → times_drawn views x ≡ (if nat_lt x (next_of words) then 1 else 0)

-- it is the least interval posted for the loop in all views, or none was
abbrev pub IsLeastPosted : List View → ℕ → Option ℕ → Type 0
IsLeastPosted views l None = (ii : ℕ) → ¬ IsPosted views l ii
IsLeastPosted views l (Some least) = IsPosted views l least × ((ii : ℕ) → IsPosted views l ii → least ≤ ii)

abbrev pub EachWordIsLeast : ℕ → List ℕ → List View → Type 0
EachWordIsLeast loops words views = (l : ℕ) → l < loops → IsLeastPosted views l (least_of words l)

-- the answer seen for a loop is at or above the loop's least, and is none or an interval that some view has posted for it
abbrev pub IsTrueAnswer : List ℕ → List View → ℕ × Option ℕ → Type 0
IsTrueAnswer words views s = IsAtMost (least_of words s.0) s.1 × IfSome s.1 (λ ii. IsPosted views s.0 ii)

abbrev pub EachAnswerIsTrue : List ℕ → List View → Type 0
EachAnswerIsTrue words views = All (λ v. All (IsTrueAnswer words views) v.seen) views

-- no more numbers past the pieces than parts, and nothing at all without a part
abbrev pub IsWithinParts : ℕ → View → Type 0
IsWithinParts pieces v = (beyond pieces v.drawn ≤ v.count) × (v.count ≡ 0 → v ≡ blank 0)

-- the counts add up to the number of passes made, at most 64
abbrev pub CountsAddUp : Terms → List View → Type 0
CountsAddUp terms views = (total (λ v. v.count) views ≡ terms.passes) × (terms.passes ≤ 64) × All (IsWithinParts terms.pieces) views

pub record Rule (terms : Terms) (words : List ℕ) (views : List View) : Type 0 where
  pub drawn : EachNumberOnce words views
  pub least : EachWordIsLeast terms.loops words views
  pub seen : EachAnswerIsTrue words views
  pub counts : CountsAddUp terms views

-- the sizes that a board may have
abbrev pub IsWithinLimits : Terms → Type 0
IsWithinLimits terms = (terms.loops ≤ 1024) × (terms.pieces ≤ 262144) × (1 ≤ terms.passes) × (terms.passes ≤ 64)
