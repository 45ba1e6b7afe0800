use Rattle.std.proofs.Common.{refl, sym, subst, arith}
use Rattle.std.proofs.lemmas.Grind.{common_steps}
use Rattle.workers.specs.Apart.{EndsLine}
use Rattle.workers.proofs.Cuts.{cut-last, cut-more, cut-none}
use Rattle.workers.proofs.reading.cutting.cut_into.Goals as goal

pub loop-cut-init : goal.loop-cut-init
loop-cut-init c = record {
  few = grind (arith, common_steps);
  room = c.requires.room;
  cut = cut-none c.args.text.now c.args.pieces.now.items c.requires.empty;
}

pub loop-cut-preserved : goal.loop-cut-preserved
loop-cut-preserved c =
    let before = c.loop-cut.invariant in
    let piece = c.split_at.result.0 in
    record {
      few = omega (arith, c.push_reserved.ensures.len, before.few);
      room = omega (arith, c.push_reserved.ensures.capacity, before.room);
      cut = cut-more c.args.text.now c.loop-cut.rest.now c.split_at.result.1.now c.loop-cut.pieces.items c.push_reserved.new.self.items piece before.cut
          (subst EndsLine (sym c.split_at.ensures.front) (c.after_end-at.ensures.line c.if-at-rest.false)) c.split_at.ensures.by_index.0 c.push_reserved.ensures.items;
    }

pub returns : goal.returns
returns c =
    cut-last c.args.text.now c.loop-cut.rest.now c.loop-cut.pieces.items c.push_reserved-2.new.self.items c.loop-cut.rest c.loop-cut.invariant.cut refl c.push_reserved-2.ensures.items
