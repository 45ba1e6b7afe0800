use Rattle.std.proofs.Common.{subst}
use Rattle.graph.specs.Units.{first_lacking}
use Rattle.file_faults.specs.Answers.{AnswersIn}
use Rattle.candidates.specs.Files.{PreparesAndLists}
use Rattle.printouts.specs.Schedule.{IsListingText}
use Rattle.printouts.proofs.Told.{told_listing}
use Rattle.side_by_side.proofs.Answered.{right_more}
use Rattle.modsched.proofs.commands.searches.schedule_text.Goals as goal

pub returns : goal.returns
returns g c = λ m r k loops h.
    let prepared = c.in_ok-listing.field-0-0 in
    let listing = c.in_ok-listing.listing in
    let written = c.in_ok-listing_printout_on.field-0 in
    right_more (PreparesAndLists r k m) (IsListingText r k m) (first_lacking m) loops (prepared, listing) written
    (λ ls f. told_listing m r k ls prepared.items listing written c.in_ok-listing_printout_on.ensures.text c.in_ok-listing_printout_on.ensures.met f.0 f.1)
    (subst (λ searched. AnswersIn (PreparesAndLists r k m) m loops searched) c.in_ok-listing.was h)
