-- One pass takes in another, and what is left at the end.
use Rattle.std.proofs.Common.{◌≡◌, ℕ, zero, suc, ◌+◌, ◌<◌, ◌≤◌, List, [], ◌∷◌, ◌++◌, map, length, set, slice_index, slice_index_or, sym, refl, ap, ◌∙◌, subst, arith}
use Rattle.std.specs.Prelude.{All, Any, IsTrue, Contains, Option}
use Rattle.std.proofs.lemmas.List.Elements.{All-append, All-nil, All-map, All-contains, All-contains_itself, Contains-append_left, Contains-append_right}
use mathlib.Core.Option.{some, some-injective, some-ne-none}
use lib.ListN.{get_elem?}
use Rattle.atomic_table.specs.Table.{State, Joins}
use Rattle.atomic_table.proofs.Lists.{set_else}
use Rattle.board.specs.declared.view.View.{View}
use Rattle.board.specs.declared.view.Terms.{Terms}
use Rattle.board.specs.Views.{blank, beyond, is_dry}
use Rattle.board.specs.Rule.{total, occurrences, times_posted, least_of, IsTrueAnswer, IsWithinParts, Rule}
use Rattle.board.specs.inner.Steps.{Keeps, both}
use Rattle.board.specs.inner.Together.{IsTogether}
use Rattle.board.specs.declared.word.WordPass.{WordPass}
use Rattle.board.specs.Boards.{view_of}
use Rattle.board.specs.Drawing.{EachPieceOnce, SomeIsDry}
use Rattle.board.proofs.Drawing.{nothing_left}
use Rattle.board.proofs.Totals.{total_set, total_at, occurrences-append, times_posted-append, beyond-append, all_at, all_set, all_by}
use Rattle.board.proofs.Steps.{least_moves, answers_move, all_one}

both_within : (pieces : ℕ) (v w : View) → IsWithinParts pieces v → IsWithinParts pieces w → IsWithinParts pieces (both v w)
both_within pieces v w a b = (
  (let t = beyond-append pieces v.drawn w.drawn in let x = a.0 in let y = b.0 in omega arith),
  λ z. (λ i. both (a.1 (omega arith) i) (b.1 (omega arith) i)),
)

pub joins : (terms : Terms) (id : ℕ) (v : View) (other : ℕ) (w : View) → Joins (Keeps terms) id v other w (both v w) (blank 0)
joins terms id v other w s kept at two at' =
    let rule = kept.2 in
    let mid : List View = set s.views id (both v w) in
    let views' : List View = set mid other (blank 0) in
    let same : (f : View → ℕ) → f (both v w) ≡ f v + f w → f (blank 0) ≡ 0 → total f views' ≡ total f s.views = λ f sum none_of.
    let t = total_set f s.views id v (both v w) at in
    let u = total_set f mid other w (blank 0) at' in
    omega arith
    in
    let there : get_elem? s.views other ≡ some w = sym (set_else s.views id other (both v w) two) ∙ at' in
    let posted : (l ii : ℕ) → total (λ u. times_posted l ii u.posted) views' ≡ total (λ u. times_posted l ii u.posted) s.views =
    λ l ii. same (λ u. times_posted l ii u.posted) (times_posted-append l ii v.posted w.posted) refl in (
      kept.0,
      kept.1,
      record {
        drawn = λ x. same (λ u. occurrences x u.drawn) (occurrences-append x v.drawn w.drawn) refl ∙ rule.drawn x;
        least = λ l near. least_moves s.views views' l (posted l) (least_of s.words l) (rule.least l near);
        seen =
            let P : View → Type 0 = λ u. All (IsTrueAnswer s.words views') u.seen in
            let moved : All P s.views = answers_move s.words s.words s.views views' (λ l ii p. let e = posted l ii in omega arith) (λ l a h. h) s.views rule.seen in
            let sum : P (both v w) = All-append (IsTrueAnswer s.words views') v.seen w.seen (all_at P s.views id v moved at) (all_at P s.views other w moved there) in
            all_set P mid other (blank 0) (all_set P s.views id (both v w) moved sum) (All-nil (IsTrueAnswer s.words views'));
        counts = (
          same (λ u. u.count) refl refl ∙ rule.counts.0,
          rule.counts.1,
          (let P : View → Type 0 = IsWithinParts terms.pieces in
              let sum : P (both v w) = both_within terms.pieces v w (all_at P s.views id v rule.counts.2 at) (all_at P s.views other w rule.counts.2 there) in
              all_set P mid other (blank 0) (all_set P s.views id (both v w) rule.counts.2 sum) ((omega arith), λ z. refl)),
        );
      },
    )

pub together_one : (v : View) → IsTogether v (v ∷ [])
together_one v = record {
  drawn = λ x. omega arith;
  posted = λ l ii. omega arith;
  seen = all_one (λ u. All (Contains v.seen) u.seen) v (All-contains_itself v.seen);
  count = omega arith;
}

pub together_more : (v w : View) (views : List View) → IsTogether v views → IsTogether (both v w) (w ∷ views)
together_more v w views h = record {
  drawn = λ x. let t = occurrences-append x v.drawn w.drawn in let u = h.drawn x in omega arith;
  posted = λ l ii. let t = times_posted-append l ii v.posted w.posted in let u = h.posted l ii in omega arith;
  seen =
      let Q : View → Type 0 = λ u. All (Contains (v.seen ++ w.seen)) u.seen in
      All-append Q (w ∷ []) views (all_one Q w (all_by (Contains w.seen) (Contains (v.seen ++ w.seen)) w.seen (Contains-append_right v.seen w.seen) (All-contains_itself w.seen)))
      (all_by (λ u. All (Contains v.seen) u.seen) Q views (λ u. all_by (Contains v.seen) (Contains (v.seen ++ w.seen)) u.seen (Contains-append_left v.seen w.seen)) h.seen);
  count = let c = h.count in omega arith;
}

spent_total : (pieces : ℕ) (f : View → ℕ) → f (blank 0) ≡ 0 → (views : List View) → All (IsWithinParts pieces) views → total (λ u. u.count) views ≡ 0 → total f views ≡ 0
spent_total pieces f none_of [] h e = refl
spent_total pieces f none_of (v ∷ vs) h e =
    let r = spent_total pieces f none_of vs (λ k d near. h (suc k) d (omega arith)) (omega arith) in
    let is : f v ≡ f (blank 0) = ap f ((h 0 v (omega arith)).1 (omega arith)) in
    omega arith

-- where one view has all the parts, it has all that was done
lone_total : (pieces : ℕ) (f : View → ℕ) → f (blank 0) ≡ 0 → (views : List View) (id : ℕ) (v : View) → All (IsWithinParts pieces) views → get_elem? views id ≡ some v
    → total (λ u. u.count) views ≤ v.count → total f views ≡ f v
lone_total pieces f none_of [] id v h at e = absurd (some-ne-none v (sym at))
lone_total pieces f none_of (x ∷ xs) zero v h at e =
    let is = some-injective x v at in
    let same : f x ≡ f v = ap f is in
    let count : x.count ≡ v.count = ap (λ (u : View). u.count) is in
    let r = spent_total pieces f none_of xs (λ k d near. h (suc k) d (omega arith)) (omega arith) in
    omega arith
lone_total pieces f none_of (x ∷ xs) (suc id) v h at e =
    let within : All (IsWithinParts pieces) xs = λ k d near. h (suc k) d (omega arith) in
    let up = total_at (λ u. u.count) xs id v at in
    let is : f x ≡ f (blank 0) = ap f ((h 0 x (omega arith)).1 (omega arith)) in
    let r = lone_total pieces f none_of xs id v within at (omega arith) in
    omega arith

-- what all the passes did together meets the rule, pass by pass
pub closes : (terms : Terms) (s : State (Unit {0}) View) (id : ℕ) (v : View) (views : List View) → Keeps terms s → get_elem? s.views id ≡ some v → IsTogether v views
    → All (IsWithinParts terms.pieces) views → terms.passes ≤ v.count → Rule terms s.words views
closes terms s id v views kept at h within enough =
    let rule = kept.2 in
    let few : total (λ u. u.count) s.views ≤ v.count = let c = rule.counts.0 in omega arith in
    let lone : (f : View → ℕ) → f (blank 0) ≡ 0 → total f s.views ≡ f v = λ f none_of. lone_total terms.pieces f none_of s.views id v rule.counts.2 at few in
    let posted : (l ii : ℕ) → total (λ u. times_posted l ii u.posted) views ≡ total (λ u. times_posted l ii u.posted) s.views =
    λ l ii. sym (h.posted l ii) ∙ sym (lone (λ u. times_posted l ii u.posted) refl) in
    record {
      drawn = λ x. sym (h.drawn x) ∙ sym (lone (λ u. occurrences x u.drawn) refl) ∙ rule.drawn x;
      least = λ l near. least_moves s.views views l (posted l) (least_of s.words l) (rule.least l near);
      seen =
          let P : ℕ × Option ℕ → Type 0 = IsTrueAnswer s.words views in
          let moved : All (λ u. All P u.seen) s.views = answers_move s.words s.words s.views views (λ l ii p. let e = posted l ii in omega arith) (λ l a h. h) s.views rule.seen in
          let mine : All P v.seen = all_at (λ u. All P u.seen) s.views id v moved at in
          all_by (λ u. All (Contains v.seen) u.seen) (λ u. All P u.seen) views (λ u. all_by (Contains v.seen) P u.seen (λ a there. All-contains P v.seen a mine there)) h.seen;
      counts = (sym h.count ∙ sym (lone (λ u. u.count) refl) ∙ rule.counts.0, rule.counts.1, within);
    }

-- each pass stands for one
pub count_of_passes : (ps : List WordPass) → total (λ u. u.count) (map view_of ps) ≡ length ps
count_of_passes [] = refl
count_of_passes (p ∷ ps) = let r = count_of_passes ps in let one = p.one_part in omega arith

pub passes_within : (pieces : ℕ) (ps : List WordPass) → All (λ p. p.pieces ≡ pieces) ps → All (IsWithinParts pieces) (map view_of ps)
passes_within pieces ps h = All-map (IsWithinParts pieces) view_of ps
    (all_by (λ p. p.pieces ≡ pieces) (λ p. IsWithinParts pieces (view_of p)) ps
    (λ p same. ((let b : beyond pieces p.seat.me.0.drawn ≤ 1 = subst (λ n. beyond n p.seat.me.0.drawn ≤ 1) same p.within in let one = p.one_part in omega arith), λ z. absurd (let one = p.one_part in omega arith))) h)

module _ {X : Type 0} (P : X → Type 0) where
  pub all_before : (xs ys : List X) → All P (xs ++ ys) → All P xs
  all_before [] ys h k d near = absurd (omega arith)
  all_before (x ∷ xs) ys h zero d near = h 0 d (omega arith)
  all_before (x ∷ xs) ys h (suc k) d near = all_before xs ys (λ j e close. h (suc j) e (omega arith)) k d (omega arith)

  pub one_after : (xs : List X) (x : X) → All P (xs ++ x ∷ []) → P x
  one_after [] x h = h 0 x (omega arith)
  one_after (y ∷ xs) x h = one_after xs x (λ j e close. h (suc j) e (omega arith))

pub index_at : (l : List ℕ) (i x : ℕ) → get_elem? l i ≡ some x → slice_index l i ≡ x
index_at [] i x e = absurd (some-ne-none x (sym e))
index_at (y ∷ l) zero x e = some-injective y x e
index_at (y ∷ l) (suc i) x e = index_at l i x e

-- a dry pass is a dry view
dry_view : (pieces : ℕ) (ps : List WordPass) (k : ℕ) (p : WordPass) → k < length ps → slice_index_or ps k p ≡ p → IsTrue (is_dry pieces (view_of p)) → SomeIsDry pieces (map view_of ps)
dry_view pieces [] k p near is dry = absurd (omega arith)
dry_view pieces (q ∷ ps) zero p near is dry = (0, view_of q, (omega arith), refl, subst (λ (x : WordPass). IsTrue (is_dry pieces (view_of x))) (sym is) dry)
dry_view pieces (q ∷ ps) (suc k) p near is dry = let r = dry_view pieces ps k p (omega arith) is dry in (suc r.0, r.1, (let n = r.2 in omega arith), r.3, r.4)

pub dry_once : (terms : Terms) (words : List ℕ) (ps : List WordPass) → Rule terms words (map view_of ps) → Any (λ p. IsTrue (is_dry terms.pieces (view_of p))) ps
    → EachPieceOnce terms.pieces (map view_of ps)
dry_once terms words ps rule dry = nothing_left terms words (map view_of ps) rule (dry_view terms.pieces ps dry.0 dry.1 dry.2 dry.3 dry.4)
