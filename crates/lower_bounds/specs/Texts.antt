-- Texts of several things, one after another.
use Rattle.std.specs.Prelude.{◌≡◌, ℕ, List, length}
use Rattle.std.specs.List.{flat_map, range_with_len, zip, AllZip}
use Rattle.loop_data.specs.Loops.{LoopData}

-- the text of each thing with a value that is right for it, in the order of the things
pub record AreTexts {A B : Type 0} (IsRight : A → B → Type 0) (text_of : A → B → List ℕ) (things : List A) (text : List ℕ) : Type 0 where
  pub values : List B
  pub are_right : AllZip IsRight things values
  pub is_text : text ≡ flat_map (λ both. text_of both.0 both.1) (zip things values)

-- the numbers of a loop's operations
abbrev pub numbers_of : LoopData → List ℕ
numbers_of loop = range_with_len 0 (length loop.statements)
