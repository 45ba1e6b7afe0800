use Rattle.std.proofs.Common.{◌+◌, length, sym, ap, ◌∙◌}
use Rattle.machine_variants.proofs.Doublings.{copies-long}
use Rattle.machine_variants.proofs.doubling.count_with_copies.Goals as goal

pub returns : goal.returns
returns c = λ new. ap (λ n. length c.args.alternatives.now + n) c.count_takers-takers.ensures ∙ sym (copies-long c.args.unit new c.args.alternatives.now)
