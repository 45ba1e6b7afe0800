use Rattle.std.proofs.Common.{◌∙◌, get_or}
use Rattle.loop_lines.proofs.Lanes.{bit_of_both, nameless_byte}
use Rattle.loop_lines.proofs.feeds.nameless.Goals as goal

pub returns : goal.returns
returns g c k l =
    let letters = bit_of_both _ _ k _ _ (c.outside.ensures k l) (c.outside-2.ensures k l) in
    let more = bit_of_both _ _ k _ _ letters (c.outside-3.ensures k l) in
    bit_of_both _ _ k _ _ more (c.outside-4.ensures k l) ∙ nameless_byte (get_or c.args.bytes k 0)
