-- How a loop text is cut into lines, and a line into words.
use Rattle.std.specs.Prelude.{ℕ, ◌==◌, ◌||◌, Bool, true, false, if◌then◌else◌, List, [], ◌∷◌}
use Rattle.std.specs.List.{before_first}

-- a byte in front of the first piece
abbrev pub onto_first : ℕ → List (List ℕ) → List (List ℕ)
onto_first c [] = (c ∷ []) ∷ []
onto_first c (piece ∷ pieces) = (c ∷ piece) ∷ pieces

-- the lines: the text is cut after each line feed, and a rest without one is a line where it isn't empty
abbrev pub lines_of : List ℕ → List (List ℕ)
lines_of [] = []
lines_of (c ∷ cs) = if c == 10 then [] ∷ lines_of cs else onto_first c (lines_of cs)

-- space, tab and carriage return part words
abbrev pub is_blank : ℕ → Bool
is_blank c = (c == 32) || (c == 9) || (c == 13)

-- what begins with a blank, or ends, ends a word
abbrev pub ends_word : List ℕ → Bool
ends_word [] = true
ends_word (c ∷ cs) = is_blank c

-- what begins with a blank
abbrev pub starts_blank : List ℕ → Bool
starts_blank [] = false
starts_blank (c ∷ cs) = is_blank c

-- the words of a line without its comment
abbrev pub pieces_of : List ℕ → List (List ℕ)
pieces_of [] = []
pieces_of (c ∷ cs) = if is_blank c then pieces_of cs else if ends_word cs then (c ∷ []) ∷ pieces_of cs else onto_first c (pieces_of cs)

-- the words of a line: `#` and what follows it on the line is a comment
abbrev pub words_of : List ℕ → List (List ℕ)
words_of line = pieces_of (before_first (λ c. c == 35) line)

-- a blank or `#` ends a word of a line
abbrev pub stops_word : ℕ → Bool
stops_word c = is_blank c || (c == 35)
