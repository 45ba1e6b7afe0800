use Rattle.std.proofs.Common.{◌≡◌, ◌++◌, ◌∙◌, List, ℕ, ap}
use Rattle.loop_listings.specs.Texts.{counts_line}
use Rattle.loop_listings.specs.declared.listings.Row as row
use Rattle.lines_of_runs.specs.Runs.{told_lines}
use Rattle.listing_printouts.specs.Met.{are_met}
use Rattle.lines_of_runs.proofs.Problems.{loops_of}
use Rattle.lines_of_runs.proofs.running.run_printout.Goals as goal

pub returns-clause-text : goal.returns-clause-text
returns-clause-text c =
    let listing = c.args.listing.now in
    let problems = c.args.prepared.now in
    let rows : c.push_runs.new.text.items ≡ told_lines c.args.trip listing.ceiling (loops_of problems) listing.rows
    = ◌∙◌ {A = List ℕ} c.in_ok-push_runs.ensures (ap (λ (t : List ℕ). t ++ told_lines c.args.trip listing.ceiling (loops_of problems) listing.rows) c.new-text.ensures.items) in
    let told : c.push_counts.new.text.items ≡ c.push_runs.new.text.items ++ counts_line listing.rows
    = ◌∙◌ {A = List ℕ} c.in_ok-push_counts.ensures (ap (λ (rs : List row.Row). c.push_runs.new.text.items ++ counts_line rs) c.rows.ensures.value) in
    c.new.ensures.text ∙ told ∙ ap (λ (t : List ℕ). t ++ counts_line listing.rows) rows

pub returns-clause-met : goal.returns-clause-met
returns-clause-met c = c.new.ensures.all_met ∙ c.are_met.ensures ∙ ap are_met c.rows-2.ensures.value
