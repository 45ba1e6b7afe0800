-- The bit of one place is written.
use Rattle.std.proofs.Common.{◌+◌, ◌*◌, ◌/◌, ◌%◌, ◌<◌, length, arith}
use Rattle.std.proofs.lemmas.Nat.{one_shl}
use Rattle.mrt.proofs.slots.Owning.{place_below}
use Rattle.mrt.proofs.slots.Timing.{is_set-set}
use Rattle.mrt.proofs.words.times.write_one.Goals as goal

pub returns : goal.returns
returns c = record {
  marked = λ other p lp.
      let words = c.args.words in
      let unit = c.args.unit in
      let place = c.args.place in
      let times = c.args.times.now in
      let within : unit * words + place / 64 < length times = omega (arith, place_below 64 words (place / 64) unit (omega (arith, c.requires.place)) c.requires.unit, c.requires.all) in
      rw c.from.ensures (is_set-set words times unit place c.with_bit.result other p c.args.held within c.requires.place lp
      (λ bit lb. rw c.from.ensures at (c.with_bit.ensures (place % 64) bit (one_shl (place % 64) 64 (omega arith)) (omega arith) lb)));
}
