use Rattle.run_printouts.proofs.Runnable.{listed_runnable}
use Rattle.side_by_side.proofs.commands.texts.told_runs.Goals as goal

pub push_runs-requires : goal.push_runs-requires
push_runs-requires c = listed_runnable c.args.listing.now.ceiling c.args.prepared.now c.args.listing.now c.requires
