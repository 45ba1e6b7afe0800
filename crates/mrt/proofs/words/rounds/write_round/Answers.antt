use Rattle.std.proofs.Common.{◌&&◌, eqb, ap, ◌∙◌, cond, arith}
use Rattle.std.proofs.lemmas.Nat.{one_shl}
use Rattle.mrt.specs.inner.Times.{is_on}
use Rattle.mrt.proofs.slots.Timing.{is_on-set}
use Rattle.mrt.proofs.words.rounds.write_round.Goals as goal

pub returns : goal.returns
returns c = record {
  written = λ other place u p.
      let rounds = c.args.rounds.now in
      let at = c.args.residue in
      is_on-set rounds c.from-unit.result at c.with_bit.result other place c.args.held (omega (arith, c.requires.unit, c.from-unit.ensures, c.requires.all)) p
      (λ bit lb. c.with_bit.ensures at bit (one_shl at 64 c.requires.residue) c.requires.residue lb)
      ∙ ap (λ u. cond (eqb other u && eqb place at) c.args.held (is_on rounds other place)) c.from-unit.ensures;
}
