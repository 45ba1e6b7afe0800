use Rattle.std.proofs.Common.{◌∙◌, ap}
use Rattle.std.specs.List.{list_all}
use Rattle.loop_data.specs.Names.{is_name_byte}
use Rattle.loop_lines.proofs.Ends.{named_within}
use Rattle.loop_lines.proofs.NameBytes.{front_taken}
use Rattle.loop_lines.proofs.Parted.{back_is, front_is, none_named, there}
use Rattle.loop_lines.proofs.operand.split_name.Goals as goal

pub split_at-requires : goal.split_at-requires
split_at-requires c = named_within c.args.word.bytes.now c.args.word.named c.args.word.counted

pub returns-in-None : goal.returns-in-None
returns-in-None c =
    let word = c.args.word in
    none_named word.bytes.now c.split_at.result.1.now word.named c.args.byte c.requires word.counted c.split_at.ensures.back c.in-None.ensures

pub returns-in-Some : goal.returns-in-Some
returns-in-Some c =
    let word = c.args.word in
    let text = word.bytes.now in
    let rest = c.split_at.result.1.now in
    let after = c.in-Some.after.now in
    let is = c.in-Some.ensures in (
      there text rest after word.named c.args.byte c.requires word.counted c.split_at.ensures.back is,
      ap (list_all is_name_byte) c.split_at.ensures.front ∙ front_taken text word.named word.counted,
      front_is text c.split_at.result.0.now rest after word.named c.args.byte c.requires word.counted c.split_at.ensures.front c.split_at.ensures.back is,
      back_is text rest after word.named c.args.byte c.requires word.counted c.split_at.ensures.back is,
    )
