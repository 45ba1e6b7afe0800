use Rattle.std.proofs.Common.{◌+◌, refl, arith}
use Rattle.mrt.proofs.slots.Laying.{no_bit, AreMasks-new}
use Rattle.mrt.proofs.words.masks.MasksLayout.sizes.Goals as goal

pub returns-then-ii-lt8-clause-laid : goal.returns-then-ii-lt8-clause-laid
returns-then-ii-lt8-clause-laid c = (refl, AreMasks-new c.args.ii c.args.ii (λ _. refl) (λ long. absurd (omega (arith, c.if-ii-lt8.true, long))))

pub returns-then-ii-lt8-clause-clear : goal.returns-then-ii-lt8-clause-clear
returns-then-ii-lt8-clause-clear c unit residue u r = no_bit c.args.ii residue unit r

pub returns-else-ii-lt8-clause-laid : goal.returns-else-ii-lt8-clause-laid
returns-else-ii-lt8-clause-laid c = (refl, AreMasks-new c.args.ii (c.args.ii + 7) (λ few. absurd (omega (arith, c.if-ii-lt8.false, few))) (λ _. refl))

pub returns-else-ii-lt8-clause-clear : goal.returns-else-ii-lt8-clause-clear
returns-else-ii-lt8-clause-clear c unit residue u r = no_bit (c.args.ii + 7) residue unit (omega (arith, r))
