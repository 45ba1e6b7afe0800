use Rattle.std.proofs.Common.{rules, ◌≡◌, ◌≤◌, ◌<◌, ◌*◌, pos, ◌+ℤ◌, ◌-ℤ◌, length, get_or, subst, arith, to_z, of_z, w64, false}
use lib.Signed.{lt_z}
use mir.Val.{SFits}
use Rattle.std.specs.Prelude.{◌≤ℤ◌}
use Rattle.std.proofs.lemmas.Int.{ints, to_z-of_z}
use Rattle.edges.specs.Edges.{EdgeData}
use Rattle.walks.proofs.Raises.{no_less-from_test}
use Rattle.walks.proofs.Sweeps.{back-more}
use Rattle.walks.proofs.relaxation.keeps_back.Goals.{else-edge-via-then-edge+else-through-numbers, else-edge-via-else-edge}
use Rattle.walks.proofs.relaxation.keeps_back.Goals as goal

pub loop-edge-preserved : goal.loop-edge-preserved
loop-edge-preserved c =
    let d : EdgeData = record { from = 0; to = 0; distance = 0; delay = pos 0 } in
    let n = c.loop-edge.edge-index in
    let same = c.all-edge-items.ensures.value in
    let within : n < length c.args.edges.now.edges = subst (λ l. n < length l) same c.loop-edge-test.true in
    back-more c.args.edges.now.edges c.args.interval c.args.numbers.now n d within c.loop-edge.invariant
    (elim c.else-edge.branch [
      | else-edge-via-then-edge+else-through-numbers w ↦ λ back. (
          let e : EdgeData = get_or c.args.edges.now.edges n d in
          let g = c.all-edge-items.ensures.well_formed in
          let to : get_or c.args.numbers.now e.to 0 ≤ 2097152 = c.requires.small e.to (g.ends n d within).1 in
          let from : get_or c.args.numbers.now e.from 0 ≤ 2097152 = c.requires.small e.from (g.ends n d within).0 in
          let is : w.through.result ≡ ((pos (get_or c.args.numbers.now e.to 0) +ℤ e.delay) -ℤ pos (c.args.interval * e.distance))
          = subst (λ l. w.through.result ≡ ((pos (get_or c.args.numbers.now (get_or l n d).to 0) +ℤ (get_or l n d).delay) -ℤ pos (c.args.interval * (get_or l n d).distance))) same w.through.ensures.exact in
          let fits : SFits w64 w.through.result = search rules in
          let told : to_z w64 (of_z w64 w.through.result) ≡ w.through.result = to_z-of_z w64 w.through.result fits in
          let own : to_z w64 (get_or c.args.numbers.now e.from 0) ≡ pos (get_or c.args.numbers.now e.from 0) = omega (arith, ints) in
          let below : w.through.result ≤ℤ pos (get_or c.args.numbers.now e.from 0)
          = no_less-from_test (to_z w64 (get_or c.args.numbers.now e.from 0)) (to_z w64 (of_z w64 w.through.result)) (pos (get_or c.args.numbers.now e.from 0)) w.through.result own told
          (subst (λ l. lt_z (to_z w64 (get_or c.args.numbers.now (get_or l n d).from 0)) (to_z w64 (of_z w64 w.through.result)) ≡ false) same w.if-through-numbers.false) in
          omega (arith, ints))
      | else-edge-via-else-edge w ↦ λ back. absurd (let later = subst (λ l. (get_or l n d).from < (get_or l n d).to) same w.if-edge.false in omega arith)
    ])
