use Rattle.std.proofs.Common.{◌≡◌, sym, subst, true}
use Rattle.exit_status.specs.Statuses.{has_line}
use Rattle.capi.proofs.Texting.{loud}
use Rattle.capi.proofs.telling.refuse.Goals as goal

pub line_text-requires : goal.line_text-requires
line_text-requires c = subst (λ s. has_line s ≡ true) (sym c.from-status.ensures) (loud c.args.fault)
