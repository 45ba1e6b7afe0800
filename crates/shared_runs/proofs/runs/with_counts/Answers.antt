use Rattle.std.proofs.Common.{◌≡◌, ◌∙◌, ◌++◌, ℕ, List, ap, ap₂}
use Rattle.std.specs.List.{flat_map}
use Rattle.loop_listings.specs.Texts.{counts_line}
use Rattle.loop_listings.specs.declared.listings.Row as row
use Rattle.text_parts.specs.Parts.{text_of}
use Rattle.shared_runs.proofs.runs.with_counts.Goals as goal

pub returns-clause-text : goal.returns-clause-text
returns-clause-text c =
    let last : c.push_counts.new.text.items ≡ counts_line c.args.listing.now.rows = c.in_ok-push_counts.ensures ∙ ap₂ (λ (t : List ℕ) (rs : List row.Row). t ++ counts_line rs) c.new-last.ensures.items c.rows.ensures.value in
    c.of_texts.ensures.text ∙ c.in_ok-texts.ensures ∙ ap (λ (t : List ℕ). flat_map text_of c.args.parts.items ++ t) last
