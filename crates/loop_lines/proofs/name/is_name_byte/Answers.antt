use Rattle.std.proofs.Common.{refl}
use Rattle.loop_lines.proofs.NameBytes.{by_table}
use Rattle.loop_lines.proofs.name.is_name_byte.Goals as goal

pub returns : goal.returns
returns c = by_table _ c.args.byte c.ranges.byte.fits refl
