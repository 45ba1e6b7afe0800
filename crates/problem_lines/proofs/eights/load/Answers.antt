use Rattle.std.proofs.lemmas.Simd.{length-chunk, get_or-chunk}
use Rattle.problem_lines.proofs.eights.load.Goals as goal

pub returns-clause-long : goal.returns-clause-long
returns-clause-long c = length-chunk c.args.at 8 c.args.text.now c.requires

pub returns-clause-each : goal.returns-clause-each
returns-clause-each c k l = get_or-chunk c.args.at 8 c.args.text.now k 0 l
