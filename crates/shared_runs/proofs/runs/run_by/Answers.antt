use Rattle.std.proofs.Common.{◌≡◌, ◌∙◌, arith, of_calls, rules}
use Rattle.std.specs.List.{flat_map}
use Rattle.lines_of_runs.specs.Runs.{told_lines}
use Rattle.lines_of_runs.proofs.Problems.{loops_of}
use Rattle.text_parts.specs.Parts.{text_of}
use Rattle.shared_runs.proofs.Joining.{listed_long, told_joined}
use Rattle.shared_runs.proofs.runs.run_by.Goals as goal

pub returns-clause-text : goal.returns-clause-text
returns-clause-text g c =
    let problems = c.args.prepared.now in
    let listing = c.args.listing.now in
    let parts = c.in_ok-parts.parts.items in
    let made = c.in_ok-parts.ensures in
    let same : flat_map text_of parts ≡ told_lines c.args.trip listing.ceiling (loops_of problems) listing.rows
    = told_joined c.args.trip listing.ceiling problems listing.rows parts (listed_long listing.ceiling problems listing c.requires.lists) (made.each ∙ c.requires.each)
    (λ k p r part h. let told = (made.made k part (omega (arith, c.requires.each, h))).met in search (rules, of_calls, told)) in
    rw (← same) c.with_counts.ensures.text
