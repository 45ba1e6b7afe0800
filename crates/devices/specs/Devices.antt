-- What inputs and outputs give and take, where their bytes are known.
use Rattle.std.specs.Prelude.{◌≡◌, ℕ, ◌<◌, ◌≤◌, codes, List, [], ◌++◌, length, take, drop, Option, Some, option_map, Vec}
use Rattle.std.specs.Global.{Global}
use Rattle.std.specs.List.{flat_map}
use Rattle.devices.specs.declared.text.ReadTextError.{ReadTextError}
use Rattle.devices.specs.declared.text.ReadTextError.TheVariants as error

-- n bytes were read into a buffer: they are the beginning of what was left, and none were only where there was no room or
-- nothing left. What an input has left stays known
pub record Reads (left after : Option (List ℕ)) (buffer : List ℕ) (n : ℕ) : Type 0 where
  pub known : (bytes : List ℕ) → left ≡ Some bytes → after ≡ Some (drop n bytes)
  pub given : (bytes : List ℕ) → left ≡ Some bytes → take n buffer ≡ take n bytes
  pub there : (bytes : List ℕ) → left ≡ Some bytes → n ≤ length bytes
  pub whole : (bytes : List ℕ) → left ≡ Some bytes → n ≡ 0 → 0 < length buffer → bytes ≡ []

-- an output took the first n of these bytes, at least one where there is one
pub record Writes (taken after : Option (List ℕ)) (bytes : List ℕ) (n : ℕ) : Type 0 where
  pub some : 0 < length bytes → 0 < n
  pub there : n ≤ length bytes
  pub known : after ≡ option_map (λ before. before ++ take n bytes) taken

-- as much of a text as is read, in bytes: one more than a text may have
unfoldable pub most_read : ℕ
most_read = 1048577

-- the text that was read from an input, of which so much is read at most, stands at the front of a buffer, in n bytes, and what comes
-- after it is left
pub record HoldsText (most : ℕ) (left after : Option (List ℕ)) (buffer : List ℕ) (n : ℕ) : Type 0 where
  pub text : (bytes : List ℕ) → left ≡ Some bytes → take n buffer ≡ take most bytes
  pub rest : (bytes : List ℕ) → left ≡ Some bytes → after ≡ Some (drop most bytes)

-- how it is told why a text was not read
abbrev pub told_of : ReadTextError → List ℕ
told_of error.Fault = codes "cannot read"
told_of error.Memory = codes "out of memory"

-- an output took a beginning of these bytes, the whole of them or less
abbrev pub TakesBeginning : Option (List ℕ) → Option (List ℕ) → List ℕ → Type 0
TakesBeginning taken after bytes =
    (n : ℕ) × (n ≤ length bytes) × (after ≡ option_map (λ before. before ++ take n bytes) taken)

-- texts one after another
abbrev pub joined_text : List (Vec ℕ Global) → List ℕ
joined_text texts = flat_map (λ (text : Vec ℕ Global). text.items) texts
