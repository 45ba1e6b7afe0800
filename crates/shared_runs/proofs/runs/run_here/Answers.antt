use Rattle.std.proofs.Common.{◌≡◌}
use Rattle.std.specs.List.{flat_map}
use Rattle.lines_of_runs.specs.Runs.{told_lines}
use Rattle.run_printouts.proofs.Runnable.{listed_runnable}
use Rattle.lines_of_runs.proofs.Problems.{loops_of}
use Rattle.text_parts.specs.Parts.{text_of}
use Rattle.shared_runs.proofs.Joining.{listed_long, told_joined}
use Rattle.shared_runs.proofs.runs.run_here.Goals as goal

pub run_printout-requires : goal.run_printout-requires
run_printout-requires g c = listed_runnable c.args.listing.now.ceiling c.args.prepared.now c.args.listing.now c.requires

pub returns-clause-text : goal.returns-clause-text
returns-clause-text g c =
    let problems = c.args.prepared.now in
    let listing = c.args.listing.now in
    let parts = c.in_ok-parts.parts.items in
    let same : flat_map text_of parts ≡ told_lines c.args.trip listing.ceiling (loops_of problems) listing.rows
    = told_joined c.args.trip listing.ceiling problems listing.rows parts (listed_long listing.ceiling problems listing c.requires) c.in_ok-parts.ensures.each
    (λ k p r part h. c.in_ok-parts.ensures.told k p r part h) in
    rw (← same) c.with_counts.ensures.text
