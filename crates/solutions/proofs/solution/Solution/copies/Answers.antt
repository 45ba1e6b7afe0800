use Rattle.solutions.proofs.Copying.{span-of}
use Rattle.solutions.proofs.solution.Solution.copies.Goals as goal

pub copies_of-requires-clause-life : goal.copies_of-requires-clause-life
copies_of-requires-clause-life c = span-of c.args.self.now c.args.value c.life.result c.ii.ensures.well_formed c.life.ensures.value
