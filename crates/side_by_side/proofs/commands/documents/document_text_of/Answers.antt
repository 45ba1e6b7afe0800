use Rattle.std.proofs.Common.{of_calls, rules}
use Rattle.loop_reader.specs.Meaning.{loops_in}
use Rattle.json_printouts.specs.Documents.{IsListingDocument}
use Rattle.json_printouts.proofs.Told.{told_document}
use Rattle.side_by_side.proofs.Documents.{JoinsObjects, document_is, shown_objects}
use Rattle.side_by_side.proofs.Texts.{few_told, written_apart, written_whole}
use Rattle.side_by_side.proofs.commands.documents.document_text_of.Goals as goal

pub document_together-requires : goal.document_together-requires
document_together-requires g c =
    few_told _ _ shown_objects JoinsObjects c.args.machine.now c.args.settings.now.ratio c.args.settings.now.ceiling (loops_in c.args.text.now) c.in_ok-told.told c.in-Apart.parts c.in_ok-told.ensures.exact c.in-Apart.is
    (λ problems listing part says. let told = says.met in (search (rules, of_calls, told), search (rules, of_calls, told)))

pub returns-in-Apart : goal.returns-in-Apart
returns-in-Apart g c =
    let m = c.args.machine.now in
    let r = c.args.settings.now.ratio in
    let k = c.args.settings.now.ceiling in
    written_apart _ _ shown_objects JoinsObjects m r k (IsListingDocument r k m) (λ ls groups parts written prepared h joins. document_is m r k ls groups parts written prepared h joins)
    (loops_in c.args.text.now) c.in_ok-told.told c.in-Apart.parts c.in_ok-document_together-in-Apart.field-0 c.in_ok-told.ensures.exact c.in-Apart.is
    (λ problems listing part says. let told = says.met in (search (rules, of_calls, told), search (rules, of_calls, told)))
    (record { text = c.in_ok-document_together-in-Apart.ensures.text; met = c.in_ok-document_together-in-Apart.ensures.met })

pub returns : goal.returns
returns g c =
    let m = c.args.machine.now in
    let r = c.args.settings.now.ratio in
    let k = c.args.settings.now.ceiling in
    let prepared = c.in-Whole.field-0 in
    let listing = c.in-Whole.listing in
    let written = c.in_ok-document_printout-in-Whole.field-0 in
    written_whole _ _ shown_objects JoinsObjects m r k (IsListingDocument r k m) (loops_in c.args.text.now) c.in_ok-told.told prepared listing written c.in_ok-told.ensures.exact c.in-Whole.is
    (λ ls are is.
    told_document m r k ls prepared.items listing written c.in_ok-document_printout-in-Whole.ensures.text c.in_ok-document_printout-in-Whole.ensures.met are is)
