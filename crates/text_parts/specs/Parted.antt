-- What a command writes, whole or in parts.
use Rattle.std.specs.Prelude.{ℕ, List, Vec}
use Rattle.std.specs.Global.{Global}
use Rattle.std.specs.List.{flat_map}
use Rattle.text_parts.specs.declared.parted.Bytes.{Bytes}
use Rattle.text_parts.specs.declared.parted.Bytes.TheVariants.{Whole, Texts}

-- texts one after another
abbrev pub joined_text : List (Vec ℕ Global) → List ℕ
joined_text texts = flat_map (λ (text : Vec ℕ Global). text.items) texts

-- the text that these bytes are
abbrev pub text_in : Bytes → List ℕ
text_in (Whole text) = text.now
text_in (Texts texts) = joined_text texts.now
