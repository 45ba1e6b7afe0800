use Rattle.std.proofs.Common.{arith}
use Rattle.std.specs.Prelude.{◌==◌}
use Rattle.std.proofs.lemmas.Bool.{eq-eqb, ne_eqb}
use Rattle.std.proofs.lemmas.List.Sums.{count_by_more_yes, count_by_more_no}
use Rattle.solutions.specs.Files.{in_file}
use Rattle.solutions.proofs.Filing.{gather_yes, gather_no}
use Rattle.solutions.proofs.values.files.gather.Goals as goal
use Rattle.solutions.proofs.values.files.gather.Goals.{then-files-k, else-files-k}

pub loop-k-preserved : goal.loop-k-preserved
loop-k-preserved g c =
    let at = c.loop-k in
    let i = at.invariant in
    let files = c.args.files.now in
    let file = c.args.file in
    let items = c.args.items.now in
    let lt = c.loop-k-test.true in
    elim c.if-files-k.branch [
      | then-files-k w ↦
          let yes = w.if-files-k.true in
          let more = count_by_more_yes (λ other. other == file) files at.k 0 lt (eq-eqb _ file yes) in
          record {
            few = let e = w.count-is in omega arith;
            counted = let e = w.count-is in omega arith;
            entries = rw (w.into-is, w.count-is)
                (gather_yes files file at.k at.count items at.into (in_file files file items) w.index-items-k.result lt c.requires.each yes w.index-items-k.is (omega arith) i.entries);
          }
      | else-files-k w ↦
          let no = w.if-files-k.false in
          let more = count_by_more_no (λ other. other == file) files at.k 0 lt (ne_eqb _ file no) in
          record {
            few = let e = w.count-is in omega arith;
            counted = let e = w.count-is in omega arith;
            entries = rw (w.into-is, w.count-is) (gather_no files file at.k at.count items at.into (in_file files file items) lt c.requires.each no i.entries);
          }
    ]
