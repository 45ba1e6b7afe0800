use Rattle.std.proofs.Common.{sym}
use Rattle.solution_text.proofs.Places.{life-is}
use Rattle.solution_json.proofs.values.life_of.Goals as goal

pub returns : goal.returns
returns c = sym (life-is c.args.solution.now c.args.value c.life.result c.life.ensures.value)
