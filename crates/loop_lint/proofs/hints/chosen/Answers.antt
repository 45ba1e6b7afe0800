use Rattle.std.proofs.Common.{◌∙◌, ℕ, List, [], ap, arith, option_map}
use Rattle.std.specs.Borrow.{Bor}
use Rattle.loop_lint.specs.Hints.{may_be}
use Rattle.loop_lint.specs.declared.block.Known.{Known}
use Rattle.loop_reader.specs.Declarations.{declared_seen}
use Rattle.loop_lint.specs.inner.Tables.{known_at}
use Rattle.loop_lint.proofs.Hinting.{chosen_step}
use Rattle.loop_lint.proofs.hints.chosen.Goals as goal

abbrev none : Bor (List ℕ)
none = record { ref_ptr = (0, 0); now = [] }

pub loop-name-preserved : goal.loop-name-preserved
loop-name-preserved c =
    chosen_step (λ (name : List ℕ). may_be c.args.want (option_map declared_seen (known_at c.args.table.now.names name).declared)) c.args.table.now.order.items c.deref-name-items.result.now c.loop-name.name-index none _ _ _
    c.deref-name-items.ensures.value (omega arith) c.in_ok-add_if.ensures (c.may_be.ensures ∙ ap (λ (k : Known). may_be c.args.want (option_map declared_seen k.declared)) c.get-found.ensures) c.loop-name.invariant
