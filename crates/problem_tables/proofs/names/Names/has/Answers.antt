use Rattle.std.proofs.Common.{rules, ◌≡◌, length, ap, ◌∙◌}
use Rattle.std.specs.Prelude.{nat_lt}
use Rattle.problem_tables.proofs.Naming.{below-has}
use Rattle.problem_tables.proofs.names.Names.has.Goals as goal

pub returns : goal.returns
returns c =
    let size : c.len.result ≡ length c.args.self.now = search rules in
    ap (λ i. nat_lt i c.len.result) c.index.ensures ∙ ap (nat_lt _) size ∙ below-has c.args.self.now c.args.name.now
