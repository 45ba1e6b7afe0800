-- The words of the formats.
use Rattle.std.specs.Prelude.{ℕ, List, codes}
use Rattle.settings.specs.declared.format.Format.{Format}
use Rattle.settings.specs.declared.format.Format.TheVariants.{Text, Json}

abbrev pub format_word : Format → List ℕ
format_word Text = codes "text"
format_word Json = codes "json"
