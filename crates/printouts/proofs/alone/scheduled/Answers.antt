use Rattle.graph.specs.Units.{first_lacking}
use Rattle.file_faults.proofs.Answering.{on_more}
use Rattle.candidates.specs.Files.{PreparesAndLists}
use Rattle.printouts.specs.Schedule.{IsListingText}
use Rattle.printouts.proofs.Told.{told_listing}
use Rattle.printouts.proofs.alone.scheduled.Goals as goal

pub returns : goal.returns
returns c =
    let r = c.args.settings.now.ratio in
    let k = c.args.settings.now.ceiling in
    let m = c.args.machine.now in
    let ls = c.args.loops.items in
    let prepared = c.in_ok-listing.field-0-0 in
    let listing = c.in_ok-listing.listing in
    let written = c.in_ok-listing_printout.field-0 in
    on_more (PreparesAndLists r k m ls) (IsListingText r k m ls) (first_lacking m ls) (prepared, listing) written
    (λ f. told_listing m r k ls prepared.items listing written c.in_ok-listing_printout.ensures.text c.in_ok-listing_printout.ensures.met f.0 f.1) c.in_ok-listing.ensures.exact
