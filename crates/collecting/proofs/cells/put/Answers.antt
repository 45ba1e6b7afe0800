use Rattle.std.proofs.Common.{ap, sym, subst, ◌+◌, ◌-◌, ◌≡◌, ◌<◌, ◌∙◌, ℕ, slice_index_or}
use Rattle.loop_schedules.specs.Problems.{ProblemData, mii_of}
use Rattle.reports.specs.Entries.{mii_at}
use Rattle.collecting.proofs.Filling.{row_there, row_of, rows_set, row_put, put_fills, inside_row, split_at}
use Rattle.reports.proofs.Least.{mii_there}
use Rattle.collecting.proofs.cells.put.Goals as goal

pub bounds-rows-number : goal.bounds-rows-number
bounds-rows-number c = subst (λ n. c.args.entry.loop_number < n) (sym (row_there c.args.loops.now c.args.rows.now c.requires.rows)) c.requires.truth.there

pub put-requires : goal.put-requires
put-requires c =
    let n : ℕ = c.args.entry.loop_number in
    let p : ProblemData = c.index-loops-number.result in
    let e = c.requires.truth.of_loop p in
    inside_row (slice_index_or c.args.loops.now n p) (slice_index_or c.args.rows.now n c.index-rows-number.result) c.args.entry.interval c.mii.result
    (row_of c.args.loops.now c.args.rows.now n p c.index-rows-number.result c.requires.rows c.requires.truth.there) e.to_last (c.mii.ensures.value ∙ ap mii_of c.index-loops-number.is)

pub returns-clause-rows : goal.returns-clause-rows
returns-clause-rows c =
    let n : ℕ = c.args.entry.loop_number in
    let p : ProblemData = c.index-loops-number.result in
    let q : ProblemData = slice_index_or c.args.loops.now n p in
    let e = c.requires.truth.of_loop p in
    rows_set c.args.loops.now c.args.rows.now n p c.put.new.self c.requires.rows c.requires.truth.there
    (row_put q (slice_index_or c.args.rows.now n c.index-rows-number.result) c.put.new.self (c.args.entry.interval - c.mii.result) c.args.entry.interval c.args.entry.found c.in-Some.settled
    (row_of c.args.loops.now c.args.rows.now n p c.index-rows-number.result c.requires.rows c.requires.truth.there) c.put.ensures e.truth (sym c.kept.ensures ∙ c.in-Some.is)
    (split_at c.args.entry.interval c.mii.result (mii_of q) (c.mii.ensures.value ∙ ap mii_of c.index-loops-number.is) e.from_mii))

pub returns-clause-fills : goal.returns-clause-fills
returns-clause-fills c = λ l above.
    let n : ℕ = c.args.entry.loop_number in
    let p : ProblemData = c.index-loops-number.result in
    let q : ProblemData = slice_index_or c.args.loops.now n p in
    let e = c.requires.truth.of_loop p in
    let value : c.mii.result ≡ mii_of q = c.mii.ensures.value ∙ ap mii_of c.index-loops-number.is in
    let least : mii_of q ≡ mii_at c.args.loops.now n = mii_there c.args.loops.now n p c.requires.truth.there in
    let k : ℕ = c.args.entry.interval - c.mii.result in
    put_fills c.args.loops.now c.args.rows.now c.args.entry k l above c.in-Some.settled c.index-rows-number.result c.put.new.self
    (subst (λ m. n < m) (sym (row_there c.args.loops.now c.args.rows.now c.requires.rows)) c.requires.truth.there)
    (inside_row q (slice_index_or c.args.rows.now n c.index-rows-number.result) c.args.entry.interval c.mii.result
    (row_of c.args.loops.now c.args.rows.now n p c.index-rows-number.result c.requires.rows c.requires.truth.there) e.to_last value)
    c.put.ensures (sym c.kept.ensures ∙ c.in-Some.is)
    (split_at c.args.entry.interval c.mii.result (mii_of q) value e.from_mii ∙ ap (λ m. m + k) least)
