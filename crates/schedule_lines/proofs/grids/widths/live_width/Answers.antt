use Rattle.std.proofs.Common.{ℕ, List, [], ◌∷◌, max, length, map, take, get_or, sym, ap, ◌∙◌}
use Rattle.std.specs.Prelude.{codes, decimal}
use Rattle.std.proofs.lemmas.List.{map-append, take_more}
use Rattle.schedule_lines.specs.Columns.{width_of}
use Rattle.schedule_lines.proofs.Widths.{width-push}
use Rattle.schedule_lines.proofs.grids.widths.live_width.Goals as goal

pub loop-count-preserved : goal.loop-count-preserved
loop-count-preserved c =
    let counts = c.args.counts.now in
    let i = c.loop-count.count-index in
    let width = c.loop-count.width in
    let cell : List ℕ = decimal (get_or counts i 0) in
    c.max-width.ensures ∙ ap (λ n. max width n) c.digits_of.ensures ∙ ap (λ w. max w (length cell)) c.loop-count.invariant
    ∙ sym (width-push (codes "live" ∷ map decimal (take i counts)) cell)
    ∙ ap (λ (cells : List (List ℕ)). width_of (codes "live" ∷ cells)) (sym (map-append decimal (take i counts) (get_or counts i 0 ∷ [])))
    ∙ ap (λ (ns : List ℕ). width_of (codes "live" ∷ map decimal ns)) (sym (take_more counts i 0 c.loop-count-test.true))
