use Rattle.std.proofs.Common.{◌≡◌, ℕ, [], length, get_or, map, ap, ◌∙◌, subst, arith}
use Rattle.std.specs.List.{flat_map, range_with_len}
use Rattle.unit_sets.specs.Fullest.{all_rows, row_at, units_of}
use Rattle.unit_sets.specs.inner.Added.{IsAdded}
use Rattle.unit_sets.proofs.Added.{added-at, added-set}
use Rattle.std.proofs.lemmas.List.{get_or_default}
use Rattle.std.proofs.lemmas.Result.{on_ok_weaker}
use Rattle.unit_sets.proofs.first_sets.push_sets_of.Goals as goal

pub loop-place-preserved : goal.loop-place-preserved
loop-place-preserved c =
    let f = λ (place : ℕ). units_of (flat_map (row_at place) c.args.alternatives.now) in
    added-at f c.args.sets.now.items c.loop-place.sets.items c.at_place.result c.loop-place.place _ c.loop-place.invariant c.at_place.ensures c.in_ok-push_new.ensures

pub returns : goal.returns
returns c =
    let f = λ (place : ℕ). units_of (flat_map (row_at place) c.args.alternatives.now) in
    let first : c.rows-place-end.result.now ≡ get_or c.args.alternatives.now 0 []
    = c.rows-place-end.ensures.value ∙ c.index-alternatives-0.is ∙ get_or_default c.args.alternatives.now 0 c.index-alternatives-0.result [] c.requires.some in
    let all : c.loop-place.place ≡ length (get_or c.args.alternatives.now 0 []) = omega (arith, c.loop-place-test.false, c.loop-place.auto.place-end, ap length first) in
    on_ok_weaker c.push_new-2.result
    (λ h. added-set c.args.sets.now.items c.loop-place.sets.items (map f (range_with_len 0 (length (get_or c.args.alternatives.now 0 [])))) c.with_alternatives.result (units_of (all_rows c.args.alternatives.now)) c.push_new-2.new.sets.items
    (subst (λ n. IsAdded c.args.sets.now.items (map f (range_with_len 0 n)) c.loop-place.sets.items) all c.loop-place.invariant)
    c.with_alternatives.ensures h)
    c.push_new-2.ensures
