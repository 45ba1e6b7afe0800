use Rattle.std.proofs.Common.{◌≡◌, ◌++◌, ℕ, List, ap, ◌∙◌}
use Rattle.std.specs.Prelude.{codes}
use Rattle.std.proofs.lemmas.Result.{on_ok_weaker}
use Rattle.writing.proofs.Beginnings.{two_pushed}
use Rattle.writing.specs.Words.{told}
use Rattle.reason_lines.proofs.set_line.push_counts.Goals as goal

pub returns : goal.returns
returns c =
    let set = c.args.set.now in
    let old : List ℕ = c.args.text.now.items in
    let one : List ℕ = c.push_told.new.text.items in
    let two : List ℕ = c.push_told-2.new.text.items in
    let three : List ℕ = c.push_told-3.new.text.items in
    let take = told (codes " take ") in
    let rows = told (codes " rows: ") in
    let over = told (codes "/") in
    let need = told (codes " cycles, need ") in
    let first : two ≡ old ++ (take set.rows ++ rows set.rows)
    = two_pushed old (take set.rows) (rows set.rows) one two (c.in_ok-push_told.ensures.ok ∙ ap (λ (n : ℕ). old ++ take n) c.from.ensures)
    (c.in_ok-push_told-2.ensures.ok ∙ ap (λ (n : ℕ). one ++ rows n) c.from-2.ensures) in
    record {
      ok = on_ok_weaker c.push_told-4.result
          (λ e. two_pushed old (take set.rows ++ rows set.rows) (over set.size ++ need set.need) two c.push_told-4.new.text.items first
          (two_pushed two (over set.size) (need set.need) three c.push_told-4.new.text.items
          (c.in_ok-push_told-3.ensures.ok ∙ ap (λ (n : ℕ). two ++ over n) c.from-3.ensures) (e ∙ ap (λ (n : ℕ). three ++ need n) c.from-4.ensures)))
          c.push_told-4.ensures.ok;
    }
