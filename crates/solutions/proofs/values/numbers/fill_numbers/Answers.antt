use Rattle.std.proofs.Common.{◌<◌, length, arith}
use Rattle.solutions.proofs.Filling.{are-filled, file-more}
use Rattle.solutions.proofs.values.numbers.fill_numbers.Goals as goal

pub loop-file-preserved : goal.loop-file-preserved
loop-file-preserved c =
    let at = c.loop-file in
    let t : at.file < length c.args.kinds.now = c.loop-file-test.true in
    let long = c.requires.each in
    let a = at.auto.numbers in
    let b = c.fill_file.auto.numbers in
    let filled = rw c.in-Ok-None.field-0-is at c.in-Ok-None.ensures.filled in
    let more = file-more c.args.ii c.args.kinds.now c.args.files.now c.args.lives.now at.numbers c.fill_file.new.numbers at.file _ c.in-Ok-None.ensures.unallotted
    (omega arith) (omega arith) t (c.in-Ok-None.ensures.others c.in-Ok-None.field-0-is) filled at.invariant.filled at.invariant.zeros in
    record { filled = more.filled; zeros = more.zeros }

pub returns : goal.returns
returns c =
    are-filled c.args.ii c.args.kinds.now c.args.files.now c.args.lives.now c.loop-file.numbers c.loop-file.file (let t = c.loop-file-test.false in omega arith)
    c.loop-file.invariant.filled c.loop-file.invariant.zeros
