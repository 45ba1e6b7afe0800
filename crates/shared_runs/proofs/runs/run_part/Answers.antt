use Rattle.std.proofs.Common.{◌≡◌, ◌∙◌, ◌++◌, ℕ, List, length, get_or, sym, subst, ap, ap₂, arith}
use Rattle.loop_schedules.specs.Problems.{ProblemData}
use Rattle.loop_listings.specs.declared.listings.Row as row
use Rattle.candidates.specs.Choices.{IsChoice}
use Rattle.loop_listings.specs.Listings.{IsRow}
use Rattle.lines_of_runs.specs.Runs.{choice_lines}
use Rattle.shared_runs.proofs.Joining.{listed_choice, listed_long, told_at}
use Rattle.shared_runs.proofs.runs.run_part.Goals as goal

pub bounds-rows-number : goal.bounds-rows-number
bounds-rows-number g c =
    let listing = c.args.listing.now in
    let long = listed_long listing.ceiling c.args.prepared.now listing c.requires.lists in
    let same : length c.rows-rows.result.now ≡ length listing.rows = ap (λ (rs : List row.Row). length rs) c.rows-rows.ensures.value in
    omega (arith, long, same, c.requires.within)

pub bounds-rows-number-2 : goal.bounds-rows-number-2
bounds-rows-number-2 g c =
    let listing = c.args.listing.now in
    let long = listed_long listing.ceiling c.args.prepared.now listing c.requires.lists in
    let same : length c.rows-rows.result.now ≡ length listing.rows = ap (λ (rs : List row.Row). length rs) c.rows-rows.ensures.value in
    omega (arith, long, same, c.requires.within)

pub push_told-requires-clause-row : goal.push_told-requires-clause-row
push_told-requires-clause-row g c = λ κs outlives.
    let listing = c.args.listing.now in
    let k = c.args.number in
    let r = c.index-rows-number.result in
    let long = listed_long listing.ceiling c.args.prepared.now listing c.requires.lists in
    let row_is : get_or listing.rows k r ≡ r = ap (λ (rs : List row.Row). get_or rs k r) (sym c.rows-rows.ensures.value) ∙ sym c.index-rows-number.is in
    subst IsRow row_is (c.rows-rows.ensures.well_formed.rows k r (omega (arith, long, c.requires.within)))

pub push_told-requires-clause-choice : goal.push_told-requires-clause-choice
push_told-requires-clause-choice g c = λ κs outlives.
    let listing = c.args.listing.now in
    let problems = c.args.prepared.now in
    let k = c.args.number in
    let p = c.index-prepared-number.result in
    let r = c.index-rows-number.result in
    let row_is : get_or listing.rows k r ≡ r = ap (λ (rs : List row.Row). get_or rs k r) (sym c.rows-rows.ensures.value) ∙ sym c.index-rows-number.is in
    subst (λ (q : ProblemData). IsChoice q r.choice) (sym c.index-prepared-number.is)
    (subst (λ (s : row.Row). IsChoice (get_or problems k p) s.choice) row_is (listed_choice listing.ceiling problems listing k p r c.requires.lists c.requires.within))

pub returns : goal.returns
returns g c d e =
    let listing = c.args.listing.now in
    let problems = c.args.prepared.now in
    let k = c.args.number in
    let p = c.index-prepared-number.result in
    let r = c.index-rows-number.result in
    let long = listed_long listing.ceiling problems listing c.requires.lists in
    let is_r : r ≡ get_or listing.rows k r = c.index-rows-number.is ∙ ap (λ (rs : List row.Row). get_or rs k r) c.rows-rows.ensures.value in
    c.in_ok-push_told.ensures
    ∙ (ap₂ (λ (t : List ℕ) (high : ℕ). t ++ choice_lines c.args.trip high p.loop r r.choice) c.new-text.ensures.items c.ceiling.ensures.value
    ∙ told_at c.args.trip listing.ceiling k problems listing.rows p d r e c.requires.within (omega (arith, long, c.requires.within)) c.index-prepared-number.is is_r)
