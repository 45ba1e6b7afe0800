use Rattle.std.proofs.Common.{sym, ◌∙◌}
use Rattle.std.proofs.lemmas.Map.Text.{btree_map_updates_str}
use Rattle.loop_reader.proofs.lookups.Declared.{added, at, kept}
use Rattle.loop_reader.proofs.names.known.add_other.Goals as goal

pub returns-in_ok-insert-in-Some-clause-names : goal.returns-in_ok-insert-in-Some-clause-names
returns-in_ok-insert-in-Some-clause-names c =
    kept (at c.args.others.now) (at c.insert.new.self) (at c.insert-in-Some.new.self) c.args.name.now c.args.what c.in-Some.first
    (sym c.in-Some.is ∙ c.in_ok-insert.ensures.old)
    (btree_map_updates_str c.args.name.now c.args.others.now c.insert.new.self _ c.in_ok-insert.ensures.updates)
    (btree_map_updates_str c.args.name.now c.insert.new.self c.insert-in-Some.new.self _ c.in_ok-insert-in-Some.ensures.updates)

pub returns-in-None-clause-names : goal.returns-in-None-clause-names
returns-in-None-clause-names c =
    added (at c.args.others.now) (at c.insert.new.self) c.args.name.now c.args.what
    (sym c.in-None.is ∙ c.in_ok-insert.ensures.old)
    (btree_map_updates_str c.args.name.now c.args.others.now c.insert.new.self _ c.in_ok-insert.ensures.updates)
