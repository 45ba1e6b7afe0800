-- How what a command writes is held.
use Rattle.written.specs.Written.{Written}
use Rattle.text_parts.specs.Parted.{joined_text}
use Rattle.text_parts.specs.declared.parted.Held.{Held}
use Rattle.text_parts.specs.declared.parted.Held.TheVariants.{Whole, Texts}

-- what it is
abbrev pub written_of : Held → Written
written_of (Whole written) = written
written_of (Texts held) = record { text = joined_text held.texts.items; all_met = held.all_met }
