use Rattle.std.proofs.Common.{◌≡◌, ◌<◌, ◌&&◌, List, [], length, get_or, true, eqb, refl, sym, ap, ◌∙◌, below_more, subst}
use Rattle.std.proofs.lemmas.Bool.{true≢false, and_from, eq-eqb}
use Rattle.std.proofs.lemmas.List.{get_or_default}
use Rattle.machine_data.specs.declared.alternative.Row.{Row}
use Rattle.mrt.specs.declared.rosters.kinds.Kind.{Kind}
use Rattle.mrt.specs.inner.Rosters.{IsKind, first_row, no_kind}
use Rattle.mrt.proofs.rosters.kinds.of_kind.Goals as goal
use Rattle.mrt.proofs.rosters.kinds.of_kind.Goals.{else-eq-via-then-eq+else-are_same, else-eq-via-else-eq}

-- a row is itself
row-is : (some other : Row) → some ≡ other → (eqb some.unit other.unit && eqb some.offset other.offset) ≡ true
row-is some other e =
    subst (λ (r : Row). (eqb some.unit r.unit && eqb some.offset r.offset) ≡ true) e (and_from _ _ (eq-eqb some.unit some.unit refl) (eq-eqb some.offset some.offset refl))

pub loop-kind-preserved : goal.loop-kind-preserved
loop-kind-preserved c =
    let operations : List (List (List Row)) = c.args.operations.now in
    let kinds : List Kind = c.args.kinds.now in
    let j = c.loop-kind.kind-index in
    let within : j < length kinds = c.loop-kind-test.true in
    let kind : Kind = get_or kinds j no_kind in
    let is : IsKind operations kind = c.requires.kinds j no_kind within in
    below_more (λ i. get_or operations (get_or kinds i no_kind).operation [] ≡ c.args.alternatives.now → ⊥) j c.loop-kind.invariant
    (elim c.else-eq.branch [
      | else-eq-via-then-eq+else-are_same w ↦ λ e.
          let found : List (List Row) = w.index-operations-kind.result in
          let read : get_or operations kind.operation [] ≡ found = get_or_default operations kind.operation [] found is.there ∙ sym w.index-operations-kind.is in
          true≢false (sym (w.are_same.ensures.1 (sym read ∙ e)) ∙ w.if-are_same.false)
      | else-eq-via-else-eq w ↦ λ e.
          let same : kind.first ≡ c.first_row-first.result = is.first ∙ ap first_row (e ∙ sym c.as_slice.ensures.value) ∙ sym c.first_row-first.ensures in
          true≢false (sym (c.eq.ensures ∙ row-is kind.first c.first_row-first.result same) ∙ w.if-eq.false)
    ])
