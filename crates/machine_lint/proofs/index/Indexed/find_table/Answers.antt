use Rattle.std.proofs.Common.{◌+◌, codes}
use Rattle.machine_lint.specs.Words.{key_from, table_from}
use Rattle.machine_lint.proofs.Marks.{mark-next, mark-no-next}
use Rattle.machine_lint.proofs.index.Indexed.find_table.Goals as goal

pub returns-in-Some-clause-is : goal.returns-in-Some-clause-is
unfolding table_from
returns-in-Some-clause-is c =
    mark-next c.args.self.now c.in-Some.mark (key_from c.args.self.now (codes "ops") 0) (λ at. key_from c.args.self.now c.args.word.now (at + 3)) _
    c.in-Some.ensures.is c.find_key-in-Some.ensures.is

pub returns-in-None-clause-is : goal.returns-in-None-clause-is
unfolding table_from
returns-in-None-clause-is c =
    mark-no-next c.args.self.now (key_from c.args.self.now (codes "ops") 0) (λ at. key_from c.args.self.now c.args.word.now (at + 3)) c.in-None.ensures.is
