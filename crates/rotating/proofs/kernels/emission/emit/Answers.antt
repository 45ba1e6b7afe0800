use Rattle.std.proofs.Common.{◌≡◌, sym, ap, ◌∙◌, subst}
use Rattle.kernel.specs.Check.{IsWellFormed}
use Rattle.kernel.specs.Overlapped.{overlapped}
use Rattle.loop_data.specs.Run.{HasShapeOf, plain}
use Rattle.overlap.specs.Emission.{emitted}
use Rattle.overlap.specs.Overlap.{Belong}
use Rattle.overlap.proofs.End.{overlap-is_sequence}
use Rattle.overlap.proofs.WellFormed.{kernels-are_well_formed}
use Rattle.rotating.proofs.kernels.emission.emit.Goals as goal

pub new-requires : goal.new-requires
new-requires c =
    let b : Belong c.args.schedule.now c.args.allotment.now = record { scheduled = c.in_ok-parts.ensures.scheduled; allotted = c.in_ok-parts.ensures.allotted; suits = c.requires.suits } in
    record { well_formed = subst IsWellFormed (sym c.in_ok-parts.ensures.exact) (kernels-are_well_formed c.args.schedule.now c.args.allotment.now b) }

pub returns-clause-overlap : goal.returns-clause-overlap
returns-clause-overlap c = λ memory m shape. (
    let s = c.args.schedule.now in
    let a = c.args.allotment.now in
    let b : Belong s a = record { scheduled = c.in_ok-parts.ensures.scheduled; allotted = c.in_ok-parts.ensures.allotted; suits = c.requires.suits } in
    let k : c.new.result ≡ emitted s a = c.new.ensures.value ∙ c.in_ok-parts.ensures.exact in
    ap (λ p. overlapped p memory) k
    ∙ overlap-is_sequence s a memory (record { belong = b; is_memory = m; shape = subst (λ l. HasShapeOf l memory) c.requires.belongs shape })
    ∙ ap (λ l. plain l memory) (sym c.requires.belongs))
