-- Each step keeps the rule.
use Rattle.std.proofs.Common.{◌≡◌, ◌≢◌, ℕ, zero, suc, ◌+◌, ◌%◌, ◌<◌, ◌≤◌, ◌⊎◌, min, false, nat_lt, ◌==◌, if◌then◌else◌, List, [], ◌∷◌, length, set, slice_index, sym, refl, ap, ◌∙◌, subst, ⊎_elim, arith, length-set, get_or-set_same, get_or-set_other, eq-eqb, ne_eqb, ◌&&◌}
use Rattle.std.proofs.lemmas.List.{set-get_or}
use Rattle.std.proofs.lemmas.Bool.{cases_eq, cases_lt}
use Rattle.std.specs.Prelude.{All, Option, None, Some, IfSome}
use Rattle.std.proofs.lemmas.Bool.Decides.{nat_tests}
use Rattle.std.proofs.lemmas.List.Elements.{All-append}
use mathlib.Core.Option.{some, none}
use lib.ListN.{get_elem?}
use Rattle.atomic_table.specs.Table.{step, keeps, Allows}
use Rattle.board.specs.declared.view.View.{View}
use Rattle.board.specs.declared.view.Terms.{Terms}
use Rattle.board.specs.Views.{is_dry, with_drawn, with_posted, with_seen, IsAtMost, IsNoLater}
use Rattle.board.specs.Rule.{total, occurrences, times_posted, times_drawn, IsPosted, next_of, interval_of, least_of, IsLeastPosted, EachWordIsLeast, IsTrueAnswer, IsWithinParts, Rule, IsWithinLimits}
use Rattle.board.specs.inner.Steps.{PassState, Keeps, loop_of_word, Drew, Looked, Posted}
use Rattle.board.proofs.Totals.{total_set, total_at, occurrences-append, times_posted-append, beyond-append, all_times, all_times_posted, all_at, all_set, all_by}
use Rattle.board.proofs.Words.{next_bounded}

-- where as much was posted, the least is the same
pub least_moves : (views views' : List View) (l : ℕ) → ((ii : ℕ) → total (λ v. times_posted l ii v.posted) views' ≡ total (λ v. times_posted l ii v.posted) views)
    → (o : Option ℕ) → IsLeastPosted views l o → IsLeastPosted views' l o
least_moves views views' l same None h = λ ii posted. h ii (let e = same ii in omega arith)
least_moves views views' l same (Some x) h = ((let e = same x in let p = h.0 in omega arith), λ ii posted. h.1 ii (let e = same ii in omega arith))

answer_moves : (words words' : List ℕ) (views views' : List View) → ((l ii : ℕ) → IsPosted views l ii → IsPosted views' l ii)
    → ((l : ℕ) (a : Option ℕ) → IsAtMost (least_of words l) a → IsAtMost (least_of words' l) a)
    → (l : ℕ) (a : Option ℕ) → IsTrueAnswer words views (l, a) → IsTrueAnswer words' views' (l, a)
answer_moves words words' views views' more lower l None h = (tt, h.1)
answer_moves words words' views views' more lower l (Some x) h = (lower l (Some x) h.0, more l x h.1)

pub answers_move : (words words' : List ℕ) (views views' : List View) → ((l ii : ℕ) → IsPosted views l ii → IsPosted views' l ii)
    → ((l : ℕ) (a : Option ℕ) → IsAtMost (least_of words l) a → IsAtMost (least_of words' l) a)
    → (vs : List View) → All (λ v. All (IsTrueAnswer words views) v.seen) vs → All (λ v. All (IsTrueAnswer words' views') v.seen) vs
answers_move words words' views views' more lower vs h =
    all_by (λ v. All (IsTrueAnswer words views) v.seen) (λ v. All (IsTrueAnswer words' views') v.seen) vs
    (λ v. all_by (IsTrueAnswer words views) (IsTrueAnswer words' views') v.seen (λ s. answer_moves words words' views views' more lower s.0 s.1)) h

module _ (terms : Terms) (words : List ℕ) (views : List View) (id : ℕ) (v : View) (at : get_elem? views id ≡ some v) (wide : length words ≡ terms.loops + 1) (rule : Rule terms words views) where
  -- the words other than a draw's are as they were
  later_word : (m l : ℕ) → least_of (set words 0 m) l ≡ least_of words l
  later_word m l = ap interval_of (get_or-set_other words 0 (1 + l) m 0 (omega arith))

  module _ (w : View) (same_posted : w.posted ≡ v.posted) where
    as_posted : (l ii : ℕ) → total (λ u. times_posted l ii u.posted) (set views id w) ≡ total (λ u. times_posted l ii u.posted) views
    as_posted l ii = let s = total_set (λ u. times_posted l ii u.posted) views id v w at in let e = ap (times_posted l ii) same_posted in omega arith

  pub drew : v.count ≡ 1 → is_dry terms.pieces v ≡ false → (m : ℕ) → m ≡ next_of words + 1 → Rule terms (set words 0 m) (set views id (with_drawn v (next_of words)))
  drew one wet m is = let n : ℕ = next_of words in let w : View = with_drawn v n in let words' : List ℕ = set words 0 m in
      let first : next_of words' ≡ m = get_or-set_same words 0 m 0 (omega arith) in record {
        drawn = λ x. let s = total_set (λ u. occurrences x u.drawn) views id v w at in let t = occurrences-append x v.drawn (n ∷ []) in let o = rule.drawn x in grind (arith, nat_tests);
        least = λ l near. subst (IsLeastPosted (set views id w) l) (sym (later_word m l)) (least_moves views (set views id w) l (as_posted w refl l) (least_of words l) (rule.least l near));
        seen =
            let moved : All (λ u. All (IsTrueAnswer words' (set views id w)) u.seen) views = answers_move words words' views (set views id w)
            (λ l ii p. let e = as_posted w refl l ii in omega arith)
            (λ l a h. subst (λ o. IsAtMost o a) (sym (later_word m l)) h) views rule.seen in
            all_set (λ u. All (IsTrueAnswer words' (set views id w)) u.seen) views id w moved (all_at (λ u. All (IsTrueAnswer words' (set views id w)) u.seen) views id v moved at);
        counts = (
          (let s = total_set (λ u. u.count) views id v w at in let c = rule.counts.0 in omega arith),
          rule.counts.1,
          all_set (IsWithinParts terms.pieces) views id w rule.counts.2 ((let b = beyond-append terms.pieces v.drawn (n ∷ []) in grind (arith, nat_tests)), λ z. absurd (omega arith)),
        );
      }

  -- all that the pass drew is below the next number
  pub below_next : All (λ x. x < next_of words) v.drawn
  below_next = all_times (λ x. x < next_of words) v.drawn (λ x some. let t = total_at (λ u. occurrences x u.drawn) views id v at in let o = rule.drawn x in grind (arith, nat_tests))

pub draws : (terms : Terms) (slots id : ℕ) (me : PassState) → me.0.count ≡ 1 → is_dry terms.pieces me.0 ≡ false
    → Allows (Keeps terms) slots id me 0 (λ n. (n + 1) % 18446744073709551616) (Drew (step slots 0 1 0 none) me)
draws terms slots id me one wet s kept _ at small =
    let bounded = next_bounded terms s.words s.views kept.2 in
    let limits = kept.1 in
    let n : ℕ = next_of s.words in
    let fits : (n + 1) % 18446744073709551616 ≡ n + 1 = omega arith in (
      with_drawn me.0 n,
      keeps,
      tt,
      (
        length-set s.words 0 ((n + 1) % 18446744073709551616) ∙ kept.0,
        limits,
        drew terms s.words s.views id me.0 at kept.0 kept.2 one wet ((n + 1) % 18446744073709551616) fits,
      ),
      (refl, below_next terms s.words s.views id me.0 at kept.0 kept.2, refl),
    )

pub all_one : {X : Type 0} (P : X → Type 0) (x : X) → P x → All P (x ∷ [])
all_one P x h zero d near = h
all_one P x h (suc k) d near = absurd (omega arith)

at_most_itself : (o : Option ℕ) → IsAtMost o o
at_most_itself None = tt
at_most_itself (Some x) = omega arith

-- the least was posted
least_posted : (views : List View) (l : ℕ) (o : Option ℕ) → IsLeastPosted views l o → IfSome o (λ ii. IsPosted views l ii)
least_posted views l None h = tt
least_posted views l (Some x) h = h.0

-- the least is at or below what was posted
least_below : (views : List View) (l : ℕ) (o : Option ℕ) → IsLeastPosted views l o → (ii : ℕ) → IsPosted views l ii → IsAtMost o (Some ii)
least_below views l None h ii posted = absurd (h ii posted)
least_below views l (Some x) h ii posted = h.1 ii posted

module _ (terms : Terms) (words : List ℕ) (views : List View) (id : ℕ) (v : View) (at : get_elem? views id ≡ some v) (rule : Rule terms words views) (one : v.count ≡ 1) (l : ℕ) (near : l < terms.loops) where
  abbrev answer : Option ℕ
  answer = least_of words l

  looked_posted : (k ii : ℕ) → total (λ u. times_posted k ii u.posted) (set views id (with_seen v l answer)) ≡ total (λ u. times_posted k ii u.posted) views
  looked_posted k ii = let s = total_set (λ u. times_posted k ii u.posted) views id v (with_seen v l answer) at in omega arith

  pub looked : Rule terms words (set views id (with_seen v l answer))
  looked = let w : View = with_seen v l answer in let views' : List View = set views id w in
      let least' : EachWordIsLeast terms.loops words views' = λ k inside. least_moves views views' k (looked_posted k) (least_of words k) (rule.least k inside) in record {
        drawn = λ x. let s = total_set (λ u. occurrences x u.drawn) views id v w at in let o = rule.drawn x in omega arith;
        least = least';
        seen =
            let moved : All (λ u. All (IsTrueAnswer words views') u.seen) views =
            answers_move words words views views' (λ k ii p. let e = looked_posted k ii in omega arith) (λ k a h. h) views rule.seen in
            let mine : All (IsTrueAnswer words views') v.seen = all_at (λ u. All (IsTrueAnswer words views') u.seen) views id v moved at in
            let new : IsTrueAnswer words views' (l, answer) = (at_most_itself answer, least_posted views' l answer (least' l near)) in
            all_set (λ u. All (IsTrueAnswer words views') u.seen) views id w moved
            (All-append (IsTrueAnswer words views') v.seen ((l, answer) ∷ []) mine (all_one (IsTrueAnswer words views') (l, answer) new));
        counts = (
          (let s = total_set (λ u. u.count) views id v w at in let c = rule.counts.0 in omega arith),
          rule.counts.1,
          all_set (IsWithinParts terms.pieces) views id w rule.counts.2 (let h = all_at (IsWithinParts terms.pieces) views id v rule.counts.2 at in (h.0, λ z. absurd (omega arith))),
        );
      }

  pub no_later : IsNoLater v l answer
  no_later = (
    all_times_posted l (λ ii. IsAtMost answer (Some ii)) v.posted
        (λ ii some. let t = total_at (λ u. times_posted l ii u.posted) views id v at in least_below views l answer (rule.least l near) ii (omega arith)),
    all_by (IsTrueAnswer words views) (λ s. s.0 ≡ l → IsAtMost answer s.1) v.seen (λ s h is. subst (λ k. IsAtMost (least_of words k) s.1) is h.0)
        (all_at (λ u. All (IsTrueAnswer words views) u.seen) views id v rule.seen at),
  )

pub looks : (terms : Terms) (slots id l : ℕ) (me : PassState) → me.0.count ≡ 1 → l < terms.loops
    → Allows (Keeps terms) slots id me (1 + l) (λ n. n) (Looked (step slots (1 + l) 0 0 none) me)
looks terms slots id l me one near s kept _ at small =
    let a : Option ℕ = least_of s.words l in
    let here : loop_of_word (step {S = Unit {0}} slots (1 + l) 0 0 none) ≡ l = omega arith in
    let same : set s.words (1 + l) (slice_index s.words (1 + l)) ≡ s.words = set-get_or s.words (1 + l) 0 in (
      with_seen me.0 l a,
      keeps,
      tt,
      subst (λ ws. (length ws ≡ terms.loops + 1) × IsWithinLimits terms × Rule terms ws (set s.views id (with_seen me.0 l a))) (sym same)
          (kept.0, kept.1, looked terms s.words s.views id me.0 at kept.2 one l near),
      (ap (λ k. with_seen me.0 k a) (sym here), subst (λ k. IsNoLater me.0 k a) (sym here) (no_later terms s.words s.views id me.0 at kept.2 one l near), refl),
    )

abbrev none_word : ℕ
none_word = 18446744073709551615

pub interval_none : (word : ℕ) → word ≡ none_word → interval_of word ≡ None
interval_none word e = ap (λ b. if b then None else Some word) (eq-eqb word none_word e)

pub interval_some : (word : ℕ) → word ≢ none_word → interval_of word ≡ Some word
interval_some word n = ap (λ b. if b then None else Some word) (ne_eqb word none_word n)

module _ (terms : Terms) (words : List ℕ) (views : List View) (id : ℕ) (v : View) (at : get_elem? views id ≡ some v) (wide : length words ≡ terms.loops + 1) (rule : Rule terms words views)
    (one : v.count ≡ 1) (l : ℕ) (near : l < terms.loops) (ii : ℕ) (low : ii ≤ 16384) (small : slice_index words (1 + l) < 18446744073709551616) where
  abbrev before : ℕ
  before = slice_index words (1 + l)

  abbrev words' : List ℕ
  words' = set words (1 + l) (min before ii)

  abbrev views' : List View
  views' = set views id (with_posted v l ii)

  word_here : slice_index words' (1 + l) ≡ min before ii
  word_here = get_or-set_same words (1 + l) (min before ii) 0 (omega arith)

  word_else : (k : ℕ) → k ≢ 1 + l → slice_index words' k ≡ slice_index words k
  word_else k other = get_or-set_other words (1 + l) k (min before ii) 0 other

  posted_more : (k x : ℕ) → total (λ u. times_posted k x u.posted) views' ≡ total (λ u. times_posted k x u.posted) views + (if (l == k) && (ii == x) then 1 else 0)
  posted_more k x =
      let s = total_set (λ u. times_posted k x u.posted) views id v (with_posted v l ii) at in
      let t = times_posted-append k x v.posted ((l, ii) ∷ []) in
      omega arith

  posted_here : IsPosted views' l ii
  posted_here = let e = posted_more l ii in grind (arith, nat_tests)

  still_posted : (k x : ℕ) → IsPosted views k x → IsPosted views' k x
  still_posted k x p = let e = posted_more k x in omega arith

  posted_cases : (k x : ℕ) → IsPosted views' k x → IsPosted views k x ⊎ ((k ≡ l) × (x ≡ ii))
  posted_cases k x p = let e = posted_more k x in grind (arith, nat_tests)

  posted_else : (k : ℕ) → k ≢ l → (x : ℕ) → total (λ u. times_posted k x u.posted) views' ≡ total (λ u. times_posted k x u.posted) views
  posted_else k other x = let e = posted_more k x in grind (arith, nat_tests)

  least_word : min before ii ≢ none_word
  least_word = λ e. omega arith

  least_here : IsLeastPosted views' l (Some (min before ii))
  least_here = ⊎_elim
      (λ (none_yet : before ≡ none_word).
      let was : IsLeastPosted views l None = subst (IsLeastPosted views l) (interval_none before none_yet) (rule.least l near) in
      let is : min before ii ≡ ii = omega arith in (
        subst (IsPosted views' l) (sym is) posted_here,
        λ x p. ⊎_elim (λ old. absurd (was x old)) (λ new. let e = new.1 in omega arith) (posted_cases l x p),
      ))
      (λ (some_yet : before ≢ none_word).
      let was : IsLeastPosted views l (Some before) = subst (IsLeastPosted views l) (interval_some before some_yet) (rule.least l near) in (
        ⊎_elim (λ (up : before < ii). let is : min before ii ≡ before = omega arith in subst (IsPosted views' l) (sym is) (still_posted l before was.0))
            (λ (down : ii ≤ before). let is : min before ii ≡ ii = omega arith in subst (IsPosted views' l) (sym is) posted_here) (cases_lt before ii),
        λ x p. ⊎_elim (λ old. let e = was.1 x old in omega arith) (λ new. let e = new.1 in omega arith) (posted_cases l x p),
      ))
      (cases_eq before none_word)

  least_then : EachWordIsLeast terms.loops words' views'
  least_then k inside = ⊎_elim
      (λ (same : k ≡ l). subst (λ j. IsLeastPosted views' j (least_of words' j)) (sym same)
      (subst (IsLeastPosted views' l) (sym (ap interval_of word_here ∙ interval_some (min before ii) least_word)) least_here))
      (λ (other : k ≢ l). subst (IsLeastPosted views' k) (ap interval_of (sym (word_else (1 + k) (λ e. other (omega arith)))))
      (least_moves views views' k (posted_else k other) (least_of words k) (rule.least k inside)))
      (cases_eq k l)

  lower_here : (a : Option ℕ) → IsAtMost (interval_of before) a → IsAtMost (Some (min before ii)) a
  lower_here None h = tt
  lower_here (Some y) h = ⊎_elim
      (λ (none_yet : before ≡ none_word). absurd (subst (λ o. IsAtMost o (Some y)) (interval_none before none_yet) h))
      (λ (some_yet : before ≢ none_word). let le : before ≤ y = subst (λ o. IsAtMost o (Some y)) (interval_some before some_yet) h in omega arith)
      (cases_eq before none_word)

  lower_then : (k : ℕ) (a : Option ℕ) → IsAtMost (least_of words k) a → IsAtMost (least_of words' k) a
  lower_then k a h = ⊎_elim
      (λ (same : k ≡ l). subst (λ j. IsAtMost (least_of words' j) a) (sym same)
      (subst (λ o. IsAtMost o a) (sym (ap interval_of word_here ∙ interval_some (min before ii) least_word)) (lower_here a (subst (λ j. IsAtMost (least_of words j) a) same h))))
      (λ (other : k ≢ l). subst (λ o. IsAtMost o a) (ap interval_of (sym (word_else (1 + k) (λ e. other (omega arith))))) h)
      (cases_eq k l)

  pub made_known : Rule terms words' views'
  made_known = let w : View = with_posted v l ii in record {
    drawn = λ x. let s = total_set (λ u. occurrences x u.drawn) views id v w at in let o = rule.drawn x in let e = word_else 0 (λ e. omega arith) in
        subst (λ n. times_drawn views' x ≡ (if nat_lt x n then 1 else 0)) (sym e) (omega arith);
    least = least_then;
    seen =
        let moved : All (λ u. All (IsTrueAnswer words' views') u.seen) views = answers_move words words' views views' still_posted lower_then views rule.seen in
        all_set (λ u. All (IsTrueAnswer words' views') u.seen) views id w moved (all_at (λ u. All (IsTrueAnswer words' views') u.seen) views id v moved at);
    counts = (
      (let s = total_set (λ u. u.count) views id v w at in let c = rule.counts.0 in omega arith),
      rule.counts.1,
      all_set (IsWithinParts terms.pieces) views id w rule.counts.2 (let h = all_at (IsWithinParts terms.pieces) views id v rule.counts.2 at in (h.0, λ z. absurd (omega arith))),
    );
  }

pub posts : (terms : Terms) (slots id l ii : ℕ) (me : PassState) → me.0.count ≡ 1 → l < terms.loops → ii ≤ 16384
    → Allows (Keeps terms) slots id me (1 + l) (λ n. min n ii) (Posted (step slots (1 + l) ii 0 none) me)
posts terms slots id l ii me one near low s kept _ at small =
    let here : loop_of_word (step {S = Unit {0}} slots (1 + l) ii 0 none) ≡ l = omega arith in (
      with_posted me.0 l ii,
      keeps,
      tt,
      (
        length-set s.words (1 + l) (min (slice_index s.words (1 + l)) ii) ∙ kept.0,
        kept.1,
        made_known terms s.words s.views id me.0 at kept.0 kept.2 one l near ii low small,
      ),
      (ap (λ k. with_posted me.0 k ii) (sym here), refl),
    )
