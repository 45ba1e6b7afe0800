use Rattle.std.proofs.Common.{◌≡◌, ◌+◌, ◌-◌, ◌≤◌, ◌++◌, drop, length, vec_capacity, vec_len}
use Rattle.std.specs.List.{All}
use Rattle.std.specs.Vec.Iter.{into_iter_items, into_iter_len}
use Rattle.loop_listings.specs.Listings.{IsRow, listing_rows}
use Rattle.loop_listings.proofs.listings.fill_rows.Given as goal

abbrev pub invariant-loop-prepared : goal.invariant-loop-prepared
invariant-loop-prepared l = record {
  rows : l.rows.items ++ listing_rows (drop l.prepared-index l.loops) (into_iter_items l.choices) ≡ l.initial.rows.items ++ listing_rows l.loops (into_iter_items l.initial.choices);
  are_rows : All IsRow l.rows.items;
  left : into_iter_len l.choices + l.prepared-index ≡ length l.loops;
  room : length l.loops - l.prepared-index ≤ vec_capacity l.rows - vec_len l.rows;
}
