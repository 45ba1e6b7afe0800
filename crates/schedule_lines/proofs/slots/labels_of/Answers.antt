use Rattle.std.proofs.Common.{ℕ, [], ◌∷◌, ◌++◌, List, map, sym, ap, ◌∙◌, arith}
use Rattle.std.specs.Global.{Global}
use Rattle.std.specs.Prelude.{Vec}
use Rattle.std.specs.List.{range_with_len}
use Rattle.std.proofs.lemmas.List.{map-append}
use Rattle.std.proofs.lemmas.List.FromFn.{map-range_with_len_more}
use Rattle.schedule_lines.specs.SlotTexts.{label_of}
use Rattle.schedule_lines.specs.inner.Labels.{texts_in}
use Rattle.schedule_lines.proofs.slots.labels_of.Goals as goal

pub loop-op-preserved : goal.loop-op-preserved
loop-op-preserved c =
    let f : ℕ → List ℕ = label_of c.args.schedule.now in
    let op = c.loop-op.op in
    let x : Vec ℕ Global = c.in_ok-label.label in
    ap texts_in c.in_ok-push.ensures.items ∙ map-append (λ (text : Vec ℕ Global). text.items) c.loop-op.labels.items (x ∷ [])
    ∙ ap (λ (ts : List (List ℕ)). ts ++ x.items ∷ []) c.loop-op.invariant
    ∙ ap (λ (t : List ℕ). map f (range_with_len 0 op) ++ t ∷ []) c.in_ok-label.ensures
    ∙ sym (map-range_with_len_more f 0 op op (omega arith))
