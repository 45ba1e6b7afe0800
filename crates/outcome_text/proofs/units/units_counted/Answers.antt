use Rattle.std.proofs.Common.{◌≡◌, ℕ, ◌==◌, Bool, cond, List, [], ◌∷◌, ◌++◌, Vec, Global, sym, ap, ◌∙◌, filter, arith}
use Rattle.std.specs.List.{range_with_len}
use Rattle.std.proofs.lemmas.Bool.{eq-eqb, ne_eqb}
use Rattle.std.proofs.lemmas.List.{append-nil}
use Rattle.unit_bound.specs.Units.{use_of}
use Rattle.modulo.proofs.answers.Blaming.{filter-next}
use Rattle.outcome_text.proofs.units.units_counted.Goals.{then-count-uses+in_ok-push, else-count-uses}
use Rattle.outcome_text.proofs.units.units_counted.Goals as goal

pub loop-unit-preserved : goal.loop-unit-preserved
loop-unit-preserved c = λ rows are.
    let unit : ℕ = c.loop-unit.unit in
    let p : ℕ → Bool = λ u. use_of rows u == c.args.uses in
    let before : List ℕ = filter p (range_with_len 0 unit) in
    let counted : c.from-count.result ≡ use_of rows unit = c.from-count.ensures ∙ are.counted unit (omega arith) in
    elim c.if-count-uses.branch [
      | then-count-uses+in_ok-push w ↦
          ap (λ (v : Vec ℕ Global). v.items) w.full-is ∙ w.in_ok-push.ensures.items ∙ ap (λ l. l ++ unit ∷ []) (c.loop-unit.invariant rows are)
          ∙ sym (filter-next p unit ∙ ap (λ b. before ++ cond b (unit ∷ []) []) (eq-eqb (use_of rows unit) c.args.uses (sym counted ∙ w.if-count-uses.true)))
      | else-count-uses w ↦
          ap (λ (v : Vec ℕ Global). v.items) w.full-is ∙ c.loop-unit.invariant rows are ∙ sym (append-nil before)
          ∙ sym (filter-next p unit ∙ ap (λ b. before ++ cond b (unit ∷ []) []) (ne_eqb (use_of rows unit) c.args.uses (λ e. w.if-count-uses.false (counted ∙ e))))
    ]
