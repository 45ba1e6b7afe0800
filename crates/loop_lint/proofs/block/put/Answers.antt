use Rattle.std.proofs.lemmas.Map.Text.{btree_map_updates_str}
use Rattle.loop_lint.proofs.Tables.{put_known}
use Rattle.loop_lint.proofs.block.put.Goals as goal

pub returns : goal.returns
returns c =
    put_known c.args.names.now c.insert.new.self c.args.name.now c.args.known
    (btree_map_updates_str c.args.name.now c.args.names.now c.insert.new.self _ c.in_ok-insert.ensures.updates)
