use Rattle.std.proofs.Common.{arith}
use Rattle.rotating.proofs.values.uses.fill_carried.Goals as goal

pub returns : goal.returns
returns c =
    let few = c.raise_carried.ensures.well_formed.statements_few in
    record {
      carried = record {
        long = (let l = c.raise_carried.ensures.long in omega arith);
        each = λ q lt. (let z = c.requires.zeros q in let e = c.raise_carried.ensures.each q (omega arith) in omega arith);
      };
    }
