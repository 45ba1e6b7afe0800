use Rattle.std.proofs.lemmas.Simd.{length-chunk, get_or-chunk}
use Rattle.loop_lines.proofs.feeds.load.Goals as goal

pub returns-clause-long : goal.returns-clause-long
returns-clause-long g c = length-chunk c.args.at g.row.N c.args.text.now c.requires

pub returns-clause-each : goal.returns-clause-each
returns-clause-each g c k l = get_or-chunk c.args.at g.row.N c.args.text.now k 0 l
