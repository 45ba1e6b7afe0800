use Rattle.std.proofs.Common.{◌≡◌, ◌∙◌, ◌<◌, false, length, sym, ap, arith, get_or}
use Rattle.std.proofs.lemmas.List.{get_or_read}
use Rattle.loop_reader.specs.inner.Checks.{slot}
use Rattle.loop_reader.proofs.faults.Taken.{bare_row, length_taken, not-true}
use Rattle.loop_reader.proofs.checks.given.Table.is_bare.Goals as goal

pub returns : goal.returns
returns c = λ bare place low.
    let t = c.self.invariant in
    let ts = c.self.inside.taken.items in
    let vs = c.self.inside.values.items in
    let rows = c.self.inside.rows.items in
    let rowed = t.rowed in
    let within : c.args.row < length rows = omega (arith, c.requires, rowed, length_taken ts vs t.room, ap length c.self.view_is) in
    let unmarked : get_or rows c.args.row false ≡ false = sym (get_or_read rows c.args.row _ within c.index.ensures false) ∙ not-true c.index.result.now bare in
    ap (λ ks. slot ks c.args.row place) (sym c.self.view_is) ∙ bare_row ts vs rows c.args.row place t unmarked low
