use Rattle.std.proofs.Common.{sym, subst, ap, ◌≤◌, length, map, arith}
use Rattle.smallvec.specs.SmallVec.{SmallVec}
use Rattle.machine_data.specs.Alternative.{AreAlternatives}
use Rattle.problems.specs.declared.draft.Hold.{Hold}
use Rattle.problems.specs.Drafts.{row_of}
use Rattle.problems.proofs.made.Tables.{map-all, alternatives-made}
use Rattle.problems.proofs.making.tables.alternatives_of.Goals as goal

pub shared-requires : goal.shared-requires
shared-requires c =
    let value = c.as_slice-rows-items.ensures in
    let done : length c.args.kind.now.alternatives.items ≤ c.loop-rows.rows-index = omega (arith, c.loop-rows-test.false, ap length value) in
    subst AreAlternatives (sym (map-all (λ (rows : SmallVec Hold). map row_of rows.items) c.args.kind.now.alternatives.items c.loop-rows.list.items c.loop-rows.rows-index done c.loop-rows.invariant))
    (alternatives-made c.args.units c.args.kind.now c.requires.few c.requires.kind)
