use Rattle.std.proofs.Common.{◌≡◌, ◌∙◌, ◌++◌, ℕ, List, Vec, Global, length, sym, subst, ap, ap₂, arith, of_calls, rules}
use Rattle.std.specs.List.{flat_map}
use Rattle.loop_listings.specs.Texts.{counts_line, row_text, version_text}
use Rattle.loop_listings.specs.declared.listings.Row as row
use Rattle.text_parts.specs.Parts.{text_of}
use Rattle.side_by_side.proofs.Listing.{listed, rows_joined}
use Rattle.side_by_side.proofs.commands.listings.listing_by.Goals as goal

pub returns-clause-text : goal.returns-clause-text
returns-clause-text g c =
    let listing = c.args.listing.now in
    let rows = c.rows-rows.result.now in
    let ceiling = c.ceiling-ceiling.result in
    let parts = c.in_ok-parts.parts.items in
    let made = c.in_ok-parts.ensures in
    let each : length rows ≡ length listing.rows = ap (λ (rs : List row.Row). length rs) c.rows-rows.ensures.value in
    let same : flat_map text_of parts ≡ flat_map (row_text ceiling) rows
    = rows_joined ceiling rows parts (made.each ∙ c.requires.each ∙ sym each)
    (λ k r part h. let told = made.made k part (omega (arith, c.requires.each, each, h)) in search (rules, of_calls, told)) in
    let head : c.into_bytes-text.result.items ≡ version_text rows
    = ap (λ (v : Vec ℕ Global). v.items) c.into_bytes-text.ensures.value ∙ c.in_ok-write_version.ensures.text ∙ ap (λ (t : List ℕ). t ++ version_text rows) c.in_ok-head.ensures.bytes in
    let all : c.append.new.text.items ≡ version_text rows ++ flat_map (row_text ceiling) rows = c.in_ok-append.ensures ∙ ap₂ (λ (s t : List ℕ). s ++ t) head same in
    let whole : c.new.result.text ≡ (version_text rows ++ flat_map (row_text ceiling) rows) ++ counts_line rows
    = c.new.ensures.text ∙ c.in_ok-push_counts.ensures ∙ ap (λ (t : List ℕ). t ++ counts_line rows) all in
    listed listing c.new.result.text
    (subst (λ (rs : List row.Row). c.new.result.text ≡ (version_text rs ++ flat_map (row_text listing.ceiling) rs) ++ counts_line rs) c.rows-rows.ensures.value
    (subst (λ n. c.new.result.text ≡ (version_text rows ++ flat_map (row_text n) rows) ++ counts_line rows) c.ceiling-ceiling.ensures.value whole))
