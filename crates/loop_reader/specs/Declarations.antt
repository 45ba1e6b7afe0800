-- What the code tells of a name, as the definitions have it.
use Rattle.loop_reader.specs.Meaning as meaning
use Rattle.loop_reader.specs.declared.names.index.Declared.{Declared}
use Rattle.loop_reader.specs.declared.names.index.Declared.TheVariants as variants

abbrev pub declared_seen : Declared → meaning.Declared
declared_seen (variants.Array number) = meaning.AnArray number
declared_seen (variants.Param number) = meaning.AParam number
declared_seen (variants.Value number) = meaning.AValue number
