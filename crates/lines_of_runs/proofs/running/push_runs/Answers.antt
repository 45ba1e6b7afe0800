use Rattle.std.proofs.Common.{◌≡◌, ◌∙◌, ◌++◌, ℕ, List, length, get_or, sym, subst, ap, ap₂, arith}
use Rattle.std.proofs.lemmas.Slice.Zip.{AllZip-long}
use Rattle.loop_schedules.specs.Problems.{ProblemData}
use Rattle.loop_listings.specs.declared.listings.Row as row
use Rattle.loop_data.specs.Loops.{LoopData}
use Rattle.lines_of_runs.specs.Runs.{choice_lines}
use Rattle.lines_of_runs.specs.Runnable.{IsRunnable}
use Rattle.lines_of_runs.proofs.PlainLines.{pair_more, pair_all}
use Rattle.lines_of_runs.proofs.Problems.{all_zip_at, told_problems}
use Rattle.lines_of_runs.proofs.running.push_runs.Goals as goal

pub bounds-prepared-index : goal.bounds-prepared-index
bounds-prepared-index c =
    let long : length c.args.listing.now.rows ≡ length c.args.prepared.now
    = AllZip-long (λ (p : ProblemData) (r : row.Row). IsRunnable p.loop r.choice) c.args.prepared.now c.args.listing.now.rows c.requires in
    let same : length c.rows-rows.result.now ≡ length c.args.listing.now.rows = ap length c.rows-rows.ensures.value in
    omega arith

pub push_row-requires-clause-runs : goal.push_row-requires-clause-runs
push_row-requires-clause-runs c =
    let i = c.loop-index.index in
    let p = c.index-prepared-index.result in
    let r = c.index-rows-index.result in
    let same : length c.rows-rows.result.now ≡ length c.args.listing.now.rows = ap length c.rows-rows.ensures.value in
    let row_is : get_or c.args.listing.now.rows i r ≡ r = ap (λ (rs : List row.Row). get_or rs i r) (sym c.rows-rows.ensures.value) ∙ sym c.index-rows-index.is in
    let here = all_zip_at (λ (q : ProblemData) (s : row.Row). IsRunnable q.loop s.choice) c.args.prepared.now c.args.listing.now.rows i p r c.requires (omega arith) in
    subst (λ l. IsRunnable l r.choice) (sym c.innermost-innermost.ensures.value)
    (subst (λ (q : ProblemData). IsRunnable q.loop r.choice) (sym c.index-prepared-index.is)
    (subst (λ (s : row.Row). IsRunnable (get_or c.args.prepared.now i p).loop s.choice) row_is here))

pub loop-index-preserved : goal.loop-index-preserved
loop-index-preserved c =
    let i = c.loop-index.index in
    let p = c.index-prepared-index.result in
    let r = c.index-rows-index.result in
    let long : length c.args.listing.now.rows ≡ length c.args.prepared.now
    = AllZip-long (λ (q : ProblemData) (s : row.Row). IsRunnable q.loop s.choice) c.args.prepared.now c.args.listing.now.rows c.requires in
    let same : length c.rows-rows.result.now ≡ length c.args.listing.now.rows = ap length c.rows-rows.ensures.value in
    let row_is : get_or c.args.listing.now.rows i r ≡ r = ap (λ (rs : List row.Row). get_or rs i r) (sym c.rows-rows.ensures.value) ∙ sym c.index-rows-index.is in
    c.in_ok-push_row.ensures ∙ pair_more (λ (pair : ProblemData × row.Row). choice_lines c.args.trip c.args.listing.now.ceiling pair.0.loop pair.1 pair.1.choice) c.args.text.now.items c.loop-index.text.items _
    c.args.prepared.now c.args.listing.now.rows i p p r r long (omega arith) (sym c.index-prepared-index.is) row_is c.loop-index.invariant
    (ap₂ (λ (k : ℕ) (l : LoopData). choice_lines c.args.trip k l r r.choice) c.ceiling.ensures.value c.innermost-innermost.ensures.value)

pub returns : goal.returns
returns c =
    let long : length c.args.listing.now.rows ≡ length c.args.prepared.now
    = AllZip-long (λ (q : ProblemData) (s : row.Row). IsRunnable q.loop s.choice) c.args.prepared.now c.args.listing.now.rows c.requires in
    let same : length c.rows-rows.result.now ≡ length c.args.listing.now.rows = ap length c.rows-rows.ensures.value in
    pair_all (λ (pair : ProblemData × row.Row). choice_lines c.args.trip c.args.listing.now.ceiling pair.0.loop pair.1 pair.1.choice) c.args.text.now.items c.loop-index.text.items
    c.args.prepared.now c.args.listing.now.rows c.loop-index.index (omega arith) c.loop-index.invariant
    ∙ ap (λ (t : List ℕ). c.args.text.now.items ++ t) (told_problems c.args.trip c.args.listing.now.ceiling c.args.prepared.now c.args.listing.now.rows)
