use Rattle.std.proofs.Common.{rules, ◌+◌, length}
use Rattle.machine_lint.specs.Words.{inside_from, key_from, table_from}
use Rattle.machine_lint.proofs.Marks.{mark-next, mark-no-next}
use Rattle.machine_lint.proofs.index.Indexed.find_in_table.Goals as goal

pub returns-in-Some : goal.returns-in-Some
unfolding inside_from
returns-in-Some c = record {
  is = mark-next c.args.self.now c.in-Some.mark (table_from c.args.self.now c.args.word.now) (λ at. key_from c.args.self.now c.args.key.now (at + length c.args.word.now)) _
      c.in-Some.ensures.is (search rules);
}

pub returns-in-None : goal.returns-in-None
unfolding inside_from
returns-in-None c = record {
  is = mark-no-next c.args.self.now (table_from c.args.self.now c.args.word.now) (λ at. key_from c.args.self.now c.args.key.now (at + length c.args.word.now)) c.in-None.ensures.is;
}
