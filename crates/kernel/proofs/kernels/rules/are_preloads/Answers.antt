use Rattle.std.proofs.Common.{refl, arith, length-set}
use Rattle.kernel.proofs.shapes.Preloading.{table_opens, table_more, preloads_none, preloads_more}
use Rattle.kernel.proofs.kernels.rules.are_preloads.Goals as goal

pub loop-preload-init : goal.loop-preload-init
loop-preload-init c = (refl, preloads_none c.args.registers c.args.preloads.now, table_opens _ 256 c.args.preloads.now refl)

pub loop-preload-preserved : goal.loop-preload-preserved
loop-preload-preserved c =
    let at = c.loop-preload in (
      simp length-set at.invariant.0,
      preloads_more c.args.registers at.is_taken c.args.preloads.now at.preload-index c.from-register.result _ (omega arith) c.from-register.ensures (omega (arith, c.from.ensures, c.from-register.ensures)) c.if-is_taken-register.false at.invariant.2 at.invariant.1,
      table_more at.is_taken c.args.preloads.now at.preload-index c.from-register.result _ (omega arith) c.from-register.ensures (omega (arith, c.from.ensures, c.from-register.ensures, at.invariant.0, c.requires)) at.invariant.2,
    )
