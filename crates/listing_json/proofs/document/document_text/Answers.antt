use Rattle.std.proofs.Common.{◌∙◌, ℕ, List, ◌++◌, ap}
use Rattle.std.specs.Prelude.{string_bytes}
use Rattle.json_objects.specs.Documents.{head_text}
use Rattle.listing_json.proofs.Joined.{document-pushed}
use Rattle.listing_json.proofs.document.document_text.Goals as goal

pub returns : goal.returns
returns c = record {
  text = document-pushed c.args.listing.now c.rows-rows.result.now c.ceiling.result c.number_failed.result c.number_met.result (string_bytes c.push_head.new.text) (string_bytes c.push_rows.new.text)
      (string_bytes c.push_tail.new.text)
      c.rows-rows.ensures.value c.ceiling.ensures.value c.number_failed.ensures c.number_met.ensures
      (c.in_ok-push_head.ensures.ok ∙ ap (λ (t : List ℕ). t ++ head_text c.number_failed.result) c.in_ok-text.ensures.bytes) c.in_ok-push_rows.ensures c.in_ok-push_tail.ensures.ok;
}
