use Rattle.std.proofs.Common.{rules, ◌≡◌, ◌<◌, length, take, sym, subst, arith}
use Rattle.std.proofs.lemmas.Bool.{true≢false}
use Rattle.std.proofs.lemmas.List.{take_all}
use Rattle.registers.specs.Residues.{IsFreeNumber}
use Rattle.registers.proofs.allotted.Freed.{free-more, one-there}
use Rattle.registers.proofs.numbers.meetings.first_forbidding.Goals as goal

pub returns-then-forbids : goal.returns-then-forbids
returns-then-forbids c =
    let t : c.loop-k.k < length c.args.lives.now = c.loop-k-test.true in
    record {
      life = _;
      is_life = one-there c.args.lives.now c.loop-k.k _ t;
      forbids = c.if-forbids.ensures.0 (search rules);
      none_before = c.loop-k.invariant;
    }

pub loop-k-preserved : goal.loop-k-preserved
loop-k-preserved c =
    let t : c.loop-k.k < length c.args.lives.now = c.loop-k-test.true in
    (free-more c.args.ii c.args.registers c.args.lives.now c.args.numbers.now c.args.other c.args.number c.loop-k.k _ (one-there c.args.lives.now c.loop-k.k _ t)).1 (c.loop-k.invariant, λ f. true≢false (sym (c.if-forbids.ensures.1 f)))

pub returns : goal.returns
returns c =
    let t = c.loop-k-test.false in
    let e : take c.loop-k.k c.args.lives.now ≡ c.args.lives.now = take_all c.loop-k.k c.args.lives.now (omega arith) in
    subst (λ ls. IsFreeNumber c.args.ii c.args.registers ls c.args.numbers.now c.args.other c.args.number) e c.loop-k.invariant
