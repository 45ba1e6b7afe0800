-- Names between the quotes of the language of Graphviz.
use Rattle.std.specs.Prelude.{◌≢◌, ℕ, ◌==◌, ◌||◌, if◌then◌else◌, decimal, List, [], ◌∷◌, ◌++◌, Option, Some, None, slice_get}
use Rattle.std.specs.List.{flat_map}

-- a byte, after a backslash if it is a quote (34) or a backslash (92)
abbrev pub escaped_byte : ℕ → List ℕ
escaped_byte byte = if byte == 34 || byte == 92 then 92 ∷ byte ∷ [] else byte ∷ []

-- a name between quotes
abbrev pub escaped : List ℕ → List ℕ
escaped name = flat_map escaped_byte name

-- a name between quotes, or where there is none the part's number
abbrev pub escaped_or : ℕ → Option (List ℕ) → List ℕ
escaped_or number None = decimal number
escaped_or number (Some name) = escaped name

-- what the part with a number is called, by the names of all such parts, between quotes
abbrev pub escaped_in : List (List ℕ) → ℕ → List ℕ
escaped_in names number = escaped_or number (slice_get names number)

-- how a text between quotes is read, from after its first quote on: a text, the bytes that it means, and what stands after its last
-- quote. A quote ends it, and of a backslash and the byte after it the byte is meant
pub data IsQuoted : List ℕ → List ℕ → List ℕ → Type 0 where
  ends : (rest : List ℕ) → IsQuoted (34 ∷ rest) [] rest
  plain : (byte : ℕ) (text name rest : List ℕ) → byte ≢ 34 → byte ≢ 92 → IsQuoted text name rest → IsQuoted (byte ∷ text) (byte ∷ name) rest
  escape : (byte : ℕ) (text name rest : List ℕ) → IsQuoted text name rest → IsQuoted (92 ∷ byte ∷ text) (byte ∷ name) rest

-- a name between quotes is read as that name, and its quotes end it
abbrev pub NamesAreReadBack : Type 0
NamesAreReadBack = (name rest : List ℕ) → IsQuoted (escaped name ++ 34 ∷ rest) name rest
