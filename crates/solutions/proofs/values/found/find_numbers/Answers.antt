use Rattle.std.proofs.Common.{◌<◌, length, arith}
use Rattle.std.proofs.lemmas.Option.{slice_get-get_or}
use Rattle.solutions.proofs.Filling.{are-filled, file-more, lacks-some}
use Rattle.solutions.proofs.values.found.find_numbers.Goals as goal

pub loop-file-preserved : goal.loop-file-preserved
loop-file-preserved c =
    let at = c.loop-file in
    let t : at.file < length c.args.kinds.now = c.loop-file-test.true in
    let long = c.requires.each in
    let a = at.auto.numbers in
    let b = c.find_in.auto.numbers in
    let filled = rw c.in-Ok-true.field-0-test at c.in-Ok-true.ensures.found in
    let more = file-more c.args.ii c.args.kinds.now c.args.files.now c.args.lives.now at.numbers c.find_in.new.numbers at.file _ c.in-Ok-true.ensures.unallotted
    (omega arith) (omega arith) t c.in-Ok-true.ensures.others filled at.invariant.filled at.invariant.zeros in
    record { filled = more.filled; zeros = more.zeros }

pub returns : goal.returns
returns c =
    are-filled c.args.ii c.args.kinds.now c.args.files.now c.args.lives.now c.loop-file.numbers c.loop-file.file (let t = c.loop-file-test.false in omega arith)
    c.loop-file.invariant.filled c.loop-file.invariant.zeros

pub returns-in-Ok-false : goal.returns-in-Ok-false
returns-in-Ok-false c =
    let at = c.loop-file in
    let t : at.file < length c.args.kinds.now = c.loop-file-test.true in
    let lacks = rw c.in-Ok-false.field-0-test at c.in-Ok-false.ensures.found in
    lacks-some c.args.ii c.args.kinds.now c.args.files.now c.args.lives.now at.numbers at.file _ (slice_get-get_or c.args.kinds.now at.file _ t) at.invariant.filled lacks
