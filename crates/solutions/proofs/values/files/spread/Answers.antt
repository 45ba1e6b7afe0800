use Rattle.std.proofs.Common.{◌≡◌, ◌≢◌, ◌+◌, ◌<◌, length, set, take, sym, ap, ◌∙◌, subst, arith}
use Rattle.std.specs.Prelude.{◌==◌, count_by, slice_index}
use Rattle.std.proofs.lemmas.Bool.{eq-eqb, ne_eqb}
use Rattle.std.proofs.lemmas.List.{get_or-set_other}
use Rattle.std.proofs.lemmas.List.Sums.{count_by_more_yes, count_by_more_no}
use Rattle.solutions.specs.Files.{in_file}
use Rattle.solutions.proofs.Filing.{place-below, taken_yes, taken_no}
use Rattle.solutions.proofs.values.files.spread.Goals as goal
use Rattle.solutions.proofs.values.files.spread.Goals.{then-files-k, else-files-k}

pub loop-k-preserved : goal.loop-k-preserved
loop-k-preserved c =
    let at = c.loop-k in
    let i = at.invariant in
    let files = c.args.files.now in
    let file = c.args.file in
    let from = c.args.from.now in
    let lt = c.loop-k-test.true in
    let long : length at.numbers ≡ length files = (let a = at.auto.numbers in let r = c.requires.each in omega arith) in
    elim c.if-files-k.branch [
      | then-files-k w ↦
          let yes = w.if-files-k.true in
          let room : count_by (λ other. other == file) (take at.k files) < length from
          = (let b = place-below files file at.k lt yes in let r = c.requires.room in omega arith) in
          record {
            counted = rw w.count-is (let m = count_by_more_yes (λ other. other == file) files at.k 0 lt (eq-eqb _ file yes) in let h = i.counted in omega arith);
            entries = rw (w.numbers-is, w.count-is)
                (subst (λ n. in_file (take (at.k + 1) files) file (take (at.k + 1) (set at.numbers at.k (slice_index from n))) ≡ take (n + 1) from) (sym i.counted)
                (taken_yes files file at.k at.numbers from lt long yes room (i.entries ∙ ap (λ n. take n from) i.counted)));
            others = λ k apart.
                let other : k ≢ at.k = λ same. apart (ap (slice_index files) same ∙ yes) in
                rw w.numbers-is (get_or-set_other at.numbers at.k k (slice_index from at.count) 0 other ∙ i.others k apart);
          }
      | else-files-k w ↦
          let no = w.if-files-k.false in
          record {
            counted = rw w.count-is (i.counted ∙ sym (count_by_more_no (λ other. other == file) files at.k 0 lt (ne_eqb _ file no)));
            entries = rw (w.numbers-is, w.count-is) (taken_no files file at.k at.numbers (take at.count from) lt long no i.entries);
            others = λ k apart. rw w.numbers-is (i.others k apart);
          }
    ]
