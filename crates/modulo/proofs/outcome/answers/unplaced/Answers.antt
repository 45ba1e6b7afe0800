use Rattle.std.proofs.Common.{◌≡◌, ℕ, Bool, cond, List, [], ◌∷◌, ◌++◌, Vec, Global, sym, ap, ◌∙◌}
use Rattle.std.specs.Prelude.{filter, is_none}
use Rattle.std.specs.List.{range_with_len}
use Rattle.std.proofs.lemmas.List.{append-nil}
use Rattle.mrt.specs.Placements.{placement_of}
use Rattle.modulo.proofs.answers.Blaming.{filter-next, none-tells}
use Rattle.modulo.proofs.outcome.answers.unplaced.Goals.{then-is_none+in_ok-push, else-is_none}
use Rattle.modulo.proofs.outcome.answers.unplaced.Goals as goal

pub loop-op-preserved : goal.loop-op-preserved
loop-op-preserved c =
    let op : ℕ = c.loop-op.op in
    let p : ℕ → Bool = λ q. is_none (placement_of c.args.progress.now.state.placed q) in
    let before : List ℕ = filter p (range_with_len 0 op) in
    let test : p op ≡ c.is_none.result = none-tells c.is_none.result c.placement.result (placement_of c.args.progress.now.state.placed op) c.placement.ensures c.is_none.ensures in
    elim c.if-is_none.branch [
      | then-is_none+in_ok-push w ↦
          ap (λ (v : Vec ℕ Global). v.items) w.ops-is ∙ w.in_ok-push.ensures.items ∙ ap (λ l. l ++ op ∷ []) c.loop-op.invariant
          ∙ sym (filter-next p op ∙ ap (λ b. before ++ cond b (op ∷ []) []) (test ∙ w.if-is_none.true))
      | else-is_none w ↦
          ap (λ (v : Vec ℕ Global). v.items) w.ops-is ∙ c.loop-op.invariant ∙ sym (append-nil before)
          ∙ sym (filter-next p op ∙ ap (λ b. before ++ cond b (op ∷ []) []) (test ∙ w.if-is_none.false))
    ]
