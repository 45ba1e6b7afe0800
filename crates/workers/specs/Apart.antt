-- Texts that are read apart.
use Rattle.std.specs.Prelude.{◌≡◌, ◌≢◌, ◌⊎◌, ◌+◌, ◌≤◌, ℕ, List, [], ◌∷◌, ◌++◌, length, Ok}
use Rattle.std.specs.List.{All}
use Rattle.machine_data.specs.declared.limits.TheConstants.{MAX_LOOPS, MAX_TEXT}
use Rattle.loop_data.specs.Loops.{LoopData}
use Rattle.loop_reader.specs.Meaning.{loops_in}

-- the text has no byte, or its last one is a line feed
abbrev pub EndsLine : List ℕ → Type 0
EndsLine text = (text ≡ []) ⊎ ((front : List ℕ) × (text ≡ front ++ 10 ∷ []))

-- no loop of the second list has the name of a loop of the first
abbrev pub NamesAreApart : List LoopData → List LoopData → Type 0
NamesAreApart earlier later = All (λ (y : LoopData). All (λ (x : LoopData). x.name ≢ y.name) earlier) later

-- where two texts mean loops, the one after the other means the loops of both: where the first ends its last line, no loop of the second
-- has the name of one of the first, and both together are within the limits of a text
abbrev pub TextsAreReadApart : Type 0
TextsAreReadApart = (first second : List ℕ) (earlier later : List LoopData) → EndsLine first → loops_in first ≡ Ok earlier → loops_in second ≡ Ok later
    → NamesAreApart earlier later → length earlier + length later ≤ MAX_LOOPS → length (first ++ second) ≤ MAX_TEXT
    → loops_in (first ++ second) ≡ Ok (earlier ++ later)
