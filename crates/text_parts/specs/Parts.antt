-- Parts of a text that workers and the calling thread make.
use Rattle.std.specs.Prelude.{ℕ, Bool, List}
use Rattle.text_parts.specs.declared.part.Part.{Part}

-- the bytes of a part
abbrev pub text_of : Part → List ℕ
text_of part = part.text.items

-- whether its loop is met
abbrev pub met_of : Part → Bool
met_of part = part.met
