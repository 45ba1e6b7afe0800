-- A table with nothing drawn and nothing posted meets the rule, and a seat in which nothing was done may be cut.
use Rattle.std.proofs.Common.{◌≡◌, ℕ, zero, suc, ◌+◌, ◌-◌, ◌<◌, List, [], ◌∷◌, ◌++◌, length, set, replicate, slice_index, sym, refl, ap, ◌∙◌, subst, arith}
use Rattle.std.proofs.lemmas.List.{length-replicate}
use Rattle.std.specs.Prelude.{All, None}
use Rattle.std.proofs.lemmas.Bool.Decides.{nat_tests}
use Rattle.std.proofs.lemmas.List.Elements.{All-append, All-nil}
use Rattle.atomic_table.specs.Table.{opening, Splits}
use Rattle.board.specs.declared.view.View.{View}
use Rattle.board.specs.declared.view.Terms.{Terms}
use Rattle.board.specs.Views.{blank}
use Rattle.board.specs.Rule.{total, occurrences, times_posted, least_of, IsLeastPosted, IsTrueAnswer, IsWithinParts, IsWithinLimits}
use Rattle.board.specs.inner.Steps.{Keeps}
use Rattle.board.proofs.Totals.{total_set, total-append, all_set}
use Rattle.board.proofs.Steps.{least_moves, answers_move, all_one, interval_none}

word_none : (n k : ℕ) → k < n → slice_index (replicate n 18446744073709551615) k ≡ 18446744073709551615
word_none zero k h = absurd (omega arith)
word_none (suc n) zero h = refl
word_none (suc n) (suc k) h = word_none n k (omega arith)

least_none : (n k : ℕ) → k < n → least_of (0 ∷ replicate n 18446744073709551615) k ≡ None
least_none n k h =
    let next : suc k ≡ 1 + k = omega arith in
    interval_none _ (subst (λ j. slice_index (0 ∷ replicate n 18446744073709551615) j ≡ 18446744073709551615) next (word_none n k h))

width : (n : ℕ) → length {A = ℕ} (0 ∷ replicate n 18446744073709551615) ≡ n + 1
width n = let words : List ℕ = replicate n 18446744073709551615 in let e : length words ≡ n = length-replicate n 18446744073709551615 in omega arith

blank_within : (pieces count : ℕ) → IsWithinParts pieces (blank count)
blank_within pieces count = (omega arith, λ z. ap blank z)

pub opens : (terms : Terms) → IsWithinLimits terms → Keeps terms (opening {S = Unit {0}} (0 ∷ replicate terms.loops 18446744073709551615) [] (blank terms.passes))
opens terms limits = (
  width terms.loops,
  limits,
  record {
    drawn = λ x. grind (arith, nat_tests);
    least = λ l near. subst (IsLeastPosted (blank terms.passes ∷ []) l) (sym (least_none terms.loops l near)) (λ ii posted. omega arith);
    seen = all_one (λ v. All (IsTrueAnswer (0 ∷ replicate terms.loops 18446744073709551615) (blank terms.passes ∷ [])) v.seen) (blank terms.passes) (All-nil _);
    counts = ((omega arith), limits.3, all_one (IsWithinParts terms.pieces) (blank terms.passes) (blank_within terms.pieces terms.passes));
  },
)

pub splits : (terms : Terms) (id k : ℕ) → 0 < k → Splits (Keeps terms) id (blank k) (blank (k - 1)) (blank 1)
splits terms id k part s kept at =
    let rule = kept.2 in
    let left : List View = set s.views id (blank (k - 1)) in
    let views' : List View = left ++ blank 1 ∷ [] in
    let same : (f : View → ℕ) → f (blank k) ≡ 0 → f (blank (k - 1)) ≡ 0 → f (blank 1) ≡ 0 → total f views' ≡ total f s.views = λ f a b c.
    let t = total_set f s.views id (blank k) (blank (k - 1)) at in
    let u = total-append f left (blank 1 ∷ []) in
    omega arith
    in
    let posted : (l ii : ℕ) → total (λ v. times_posted l ii v.posted) views' ≡ total (λ v. times_posted l ii v.posted) s.views = λ l ii. same (λ v. times_posted l ii v.posted) refl refl refl in (
      kept.0,
      kept.1,
      record {
        drawn = λ x. same (λ v. occurrences x v.drawn) refl refl refl ∙ rule.drawn x;
        least = λ l near. least_moves s.views views' l (posted l) (least_of s.words l) (rule.least l near);
        seen =
            let P : View → Type 0 = λ v. All (IsTrueAnswer s.words views') v.seen in
            let moved : All P s.views = answers_move s.words s.words s.views views' (λ l ii p. let e = posted l ii in omega arith) (λ l a h. h) s.views rule.seen in
            All-append P left (blank 1 ∷ []) (all_set P s.views id (blank (k - 1)) moved (All-nil _)) (all_one P (blank 1) (All-nil _));
        counts = (
          (let t = total_set (λ v. v.count) s.views id (blank k) (blank (k - 1)) at in
              let u = total-append (λ v. v.count) left (blank 1 ∷ []) in
              let c = rule.counts.0 in
              omega arith),
          rule.counts.1,
          All-append (IsWithinParts terms.pieces) left (blank 1 ∷ []) (all_set (IsWithinParts terms.pieces) s.views id (blank (k - 1)) rule.counts.2 (blank_within terms.pieces (k - 1)))
              (all_one (IsWithinParts terms.pieces) (blank 1) (blank_within terms.pieces 1)),
        );
      },
    )
