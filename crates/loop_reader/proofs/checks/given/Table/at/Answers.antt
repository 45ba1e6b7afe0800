use Rattle.std.proofs.Common.{◌≡◌, ◌∙◌, ◌*◌, ◌+◌, ◌<◌, None, Some, false, true, if◌then◌else◌, length, pos, sym, ap, arith, w64, to_z, of_z, get_or, rules}
use Rattle.std.proofs.lemmas.Int.{ints, to_z-of_z}
use Rattle.std.proofs.lemmas.List.{get_or_read}
use Rattle.loop_reader.specs.inner.Checks.{slot, values_taken}
use Rattle.loop_reader.proofs.faults.Taken.{value_taken, length_taken}
use Rattle.loop_reader.proofs.checks.given.Table.at.Goals as goal

pub returns-then-index : goal.returns-then-index
returns-then-index c =
    let ts = c.self.inside.taken.items in
    let vs = c.self.inside.values.items in
    let k = 16 * c.args.row + c.args.place in
    let view : c.args.self.now ≡ values_taken ts vs = search rules in
    let within : k < length ts = omega (arith, c.requires, length_taken ts vs c.self.invariant.room, ap length view) in
    let here : get_or ts k false ≡ true = sym (get_or_read ts k _ within c.index.ensures false) ∙ c.if-index.true in
    let fits : to_z w64 (of_z w64 c.index-then-index.result.now) ≡ c.index-then-index.result.now = grind (arith, ints, to_z-of_z) in
    let read = get_or_read vs k _ (omega (arith, within, c.self.invariant.room)) c.index-then-index.ensures (pos 0) in
    ap Some (fits ∙ read) ∙ sym (ap (λ t. slot t c.args.row c.args.place) view ∙ value_taken ts vs k (pos 0) c.self.invariant.room ∙ ap (λ b. if b then Some (get_or vs k (pos 0)) else None) here)

pub returns-else-index : goal.returns-else-index
returns-else-index c =
    let ts = c.self.inside.taken.items in
    let vs = c.self.inside.values.items in
    let k = 16 * c.args.row + c.args.place in
    let view : c.args.self.now ≡ values_taken ts vs = search rules in
    let within : k < length ts = omega (arith, c.requires, length_taken ts vs c.self.invariant.room, ap length view) in
    let here : get_or ts k false ≡ false = sym (get_or_read ts k _ within c.index.ensures false) ∙ c.if-index.false in
    sym (ap (λ t. slot t c.args.row c.args.place) view ∙ value_taken ts vs k (pos 0) c.self.invariant.room ∙ ap (λ b. if b then Some (get_or vs k (pos 0)) else None) here)
