use Rattle.std.proofs.Common.{◌≡◌, option_map, rules}
use Rattle.loop_reader.specs.Meaning.{declared}
use Rattle.loop_reader.specs.Declarations.{declared_seen}
use Rattle.loop_reader.specs.inner.Blocks.{forms_in}
use Rattle.loop_reader.proofs.faults.Checking.{counted-as}
use Rattle.loop_reader.proofs.names.index.Index.declared.Goals as goal

pub returns-clause-counted : goal.returns-clause-counted
returns-clause-counted c =
    let e : option_map declared_seen c.get.result ≡ declared (forms_in c.args.self.now) c.args.name.now = search rules in
    counted-as (forms_in c.args.self.now) c.args.name.now (option_map declared_seen c.get.result) e
