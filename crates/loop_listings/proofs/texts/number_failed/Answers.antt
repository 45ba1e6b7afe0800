use Rattle.std.proofs.Common.{◌∙◌, rules, tests}
use Rattle.std.proofs.lemmas.Iterator.{YieldsList-from_slice}
use Rattle.std.proofs.lemmas.Iterator.Consumers.{YieldsList-from_filter, count_from_yields_List}
use Rattle.std.proofs.lemmas.List.Sums.{length-filter}
use Rattle.loop_listings.specs.Listings.{is_failed}
use Rattle.loop_listings.specs.declared.listings.Row.{Row}
use Rattle.loop_listings.proofs.texts.number_failed.Goals as goal

pub returns : goal.returns
returns c =
    count_from_yields_List c.filter.result _ c.count.ensures.ran
    (YieldsList-from_filter _ (λ (row : Row). is_failed row.choice) (YieldsList-from_slice c.args.rows.now (cc)) c.filter.ensures.closure (λ x r q k. search (rules, tests)))
    ∙ length-filter (λ (row : Row). is_failed row.choice) c.args.rows.now
