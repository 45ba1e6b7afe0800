use Rattle.std.proofs.Common.{◌++◌, List, drop, ap, sym, subst, arith, Vec, vec_len, vec_capacity}
use Rattle.std.specs.Global.{Global}
use Rattle.std.specs.List.{All}
use Rattle.std.proofs.lemmas.Bool.{false≢true}
use Rattle.std.proofs.lemmas.List.Elements.{All-push}
use Rattle.std.specs.Vec.Iter.{into_iter_items}
use Rattle.loop_listings.specs.declared.choices.Choice.{Choice}
use Rattle.loop_listings.specs.declared.listings.Row.{Row}
use Rattle.loop_listings.specs.Listings.{IsRow, listing_rows}
use Rattle.loop_listings.proofs.Rowing.{rows_more}
use Rattle.loop_listings.proofs.listings.fill_rows.Goals as goal
use Rattle.loop_listings.proofs.listings.fill_rows.Goals.{in-Some, in_default}

pub loop-prepared-preserved : goal.loop-prepared-preserved
loop-prepared-preserved c =
    elim c.match-next.branch [
      | in-Some w ↦ record {
        rows =
            let at = c.loop-prepared in
            let left = into_iter_items c.next.new.self in
            let more = rows_more at.rows.items c.args.loops.now at.prepared-index c.prepared-item.result w.in-Some.choice left (omega arith) c.prepared-item.is in
            let drawn = ap (λ (cs : List Choice). at.rows.items ++ listing_rows (drop at.prepared-index c.args.loops.now) cs) w.in-Some.ensures.items in
            cc (w.push_reserved.ensures.items, w.row_of.ensures.value, at.invariant.rows, w.rows-is, more, drawn);
        are_rows =
            subst (λ (v : Vec Row Global). All IsRow v.items) (sym w.rows-is) (subst (All IsRow) (sym w.push_reserved.ensures.items)
            (All-push IsRow c.loop-prepared.rows.items w.row_of.result c.loop-prepared.invariant.are_rows w.row_of.ensures.is_row));
        left = omega (arith, w.in-Some.ensures.len, c.loop-prepared.invariant.left);
        room =
            let long = ap (λ (v : Vec Row Global). vec_len v) w.rows-is in
            let wide = ap (λ (v : Vec Row Global). vec_capacity v) w.rows-is in
            omega (arith, w.push_reserved.ensures.len, w.push_reserved.ensures.capacity, c.loop-prepared.invariant.room);
      }
      | in_default w ↦ absurd (false≢true (w.in_default.ensures.variant.1 (omega (arith, c.loop-prepared.invariant.left))))
    ]
