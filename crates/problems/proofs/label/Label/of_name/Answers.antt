use Rattle.problems.proofs.Labelled.{label-utf8}
use Rattle.problems.proofs.label.Label.of_name.Goals as goal

pub from_utf8_unchecked-text-requires : goal.from_utf8_unchecked-text-requires
from_utf8_unchecked-text-requires c = label-utf8 c.args.bytes.now c.requires
