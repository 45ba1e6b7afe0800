use Rattle.std.proofs.Common.{◌≡◌, ◌∙◌, ◌++◌, [], List, ℕ, length, subst, ap, ap₂, IfSome}
use Rattle.std.specs.List.{flat_map}
use Rattle.loop_data.specs.Loops.{LoopData}
use Rattle.listing_printouts.specs.Last.{last_line}
use Rattle.lines_of_runs.specs.Plain.{plain_lines}
use Rattle.text_parts.specs.Parted.{joined_text}
use Rattle.text_parts.proofs.Pieces.{flat_same}
use Rattle.shared_runs.specs.inner.Made.{AreMadeOf, bytes_of}
use Rattle.shared_runs.proofs.plain.plain_by.Goals as goal

pub returns : goal.returns
returns g c =
    let loops = c.args.loops.now in
    let trip = c.args.trip in
    let made = c.in-Some.made.items in
    let d : LoopData = record { name = []; arrays = []; params = []; statements = []; inits = []; outs = [] } in
    let are : AreMadeOf trip loops made = subst (λ o. IfSome o (λ all. AreMadeOf trip loops all.items)) c.in-Some.is c.in_ok-made.ensures in
    let same : joined_text c.in_ok-texts.texts.items ≡ flat_map (plain_lines trip) loops
    = c.in_ok-texts.ensures d ∙ flat_same (plain_lines trip) (bytes_of loops d) loops made are.many (λ k loop one h. (are.each k one h).lines d loop) in
    let last : c.push_last.new.text.items ≡ last_line (length loops) = c.in_ok-push_last.ensures.ok ∙ ap (λ (t : List ℕ). t ++ last_line (length loops)) c.new-last.ensures.items in
    (c.of_texts.ensures.all_met, c.of_texts.ensures.text ∙ c.in_ok-texts-2.ensures ∙ ap₂ (λ (s t : List ℕ). s ++ t) same last)
