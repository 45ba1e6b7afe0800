use Rattle.std.proofs.Common.{sym, subst}
use Rattle.machine_data.specs.Alternative.{IsAlternative}
use Rattle.problems.specs.Drafts.{row_of}
use Rattle.problems.proofs.made.Tables.{map-all, alternative-made}
use Rattle.problems.proofs.making.tables.alternative_of.Goals as goal

pub new-requires : goal.new-requires
new-requires c =
    subst IsAlternative (sym (map-all row_of c.args.holds.now c.loop-hold.rows.items c.loop-hold.hold-index c.loop-hold-test.false c.loop-hold.invariant))
    (alternative-made c.args.units c.args.holds.now c.requires.few c.requires.rows)
