use Rattle.std.proofs.Common.{◌∙◌, ap, subst, arith}
use Rattle.std.specs.Prelude.{MatchOption}
use Rattle.std.specs.List.{AllZip}
use Rattle.workers.specs.inner.Pieces.{AreJoined, HasFault, IsRead, NamesDiffer, names_of}
use Rattle.workers.proofs.Whole.{all_good, read_whole}
use Rattle.workers.proofs.reading.apart.read_apart.Goals as goal

pub returns-in-Ok-true : goal.returns-in-Ok-true
returns-in-Ok-true g c =
    let loops = c.in-Ok-Some.loops in
    let read = c.in-Ok-read_pieces.read in
    let zip = subst (λ ps. AllZip IsRead ps read.items) c.as_slice-2.ensures.value c.in-Ok-read_pieces.ensures in
    let join = subst (λ j. MatchOption j (HasFault read.items) (λ ls. AreJoined read.items ls.items)) c.in-Ok-Some.field-0-is c.in-Ok-Some.ensures in
    let few = loops.ok.0 in
    let named = c.as_slice-4.ensures.value ∙ c.in-Ok-names_of.ensures ∙ ap names_of c.as_slice-3.ensures.value in
    let differ = subst NamesDiffer named (c.in-Ok-true.ensures.0 c.in-Ok-true.field-0-test) in
    record {
      exact = read_whole c.args.text.now c.in-Ok.pieces.items read.items loops.items c.in-Ok.ensures zip join differ (omega arith) (omega arith);
      well_formed = (all_good c.in-Ok.pieces.items read.items loops.items zip join, omega arith);
    }
