-- The words stand for what the events come to.
use Rattle.std.proofs.Common.{◌≡◌, ◌≢◌, ℕ, ◌+◌, ◌<◌, ◌≤◌, ◌&&◌, min, if◌then◌else◌, ◌==◌, List, [], ◌∷◌, length, sym, refl, ap, subst, ⊎_elim, arith, eq-eqb, ne_eqb}
use Rattle.std.specs.Prelude.{Option, None, Some}
use Rattle.std.proofs.lemmas.Bool.{cases_eq, cases_lt}
use Rattle.std.proofs.lemmas.Bool.Decides.{nat_tests}
use Rattle.board.specs.declared.view.View.{View}
use Rattle.board.specs.declared.view.Terms.{Terms}
use Rattle.board.specs.Core.{Event, draw, look, post, Core, core_opening, smaller, core_after, core_run, draws, posts}
use Rattle.board.specs.Rule.{total, occurrences, times_posted, next_of, least_of, IsLeastPosted, Rule}
use Rattle.board.specs.Events.{IsMadeOf, StandsFor, AnswersAs}
use Rattle.board.proofs.Totals.{all_times}
use Rattle.board.proofs.Words.{between, between_below, total_between}

next_after : (es : List Event) (c : Core) → (core_run c es).next ≡ c.next + draws es
next_after [] c = omega arith
next_after (draw ∷ es) c = let r = next_after es (core_after c draw) in omega arith
next_after (look l ∷ es) c = next_after es c
next_after (post l ii ∷ es) c = next_after es (core_after c (post l ii))

-- the least of the numbers that are counted, or none is
abbrev IsLeastOf : (ℕ → ℕ) → Option ℕ → Type 0
IsLeastOf f None = (ii : ℕ) → ¬ (0 < f ii)
IsLeastOf f (Some x) = (0 < f x) × ((ii : ℕ) → 0 < f ii → x ≤ ii)

least_along : (f g : ℕ → ℕ) → ((ii : ℕ) → f ii ≡ g ii) → (o : Option ℕ) → IsLeastOf f o → IsLeastOf g o
least_along f g same None h = λ ii p. h ii (let e = same ii in omega arith)
least_along f g same (Some x) h = ((let e = same x in let p = h.0 in omega arith), λ ii p. h.1 ii (let e = same ii in omega arith))

least_with : (f : ℕ → ℕ) (x : ℕ) (o : Option ℕ) → IsLeastOf f o → IsLeastOf (λ ii. f ii + (if x == ii then 1 else 0)) (smaller o x)
least_with f x None h = (grind (arith, nat_tests), λ ii p. ⊎_elim (λ (is : x ≡ ii). omega arith) (λ (other : x ≢ ii). absurd (h ii (let e = ne_eqb x ii other in grind (arith, nat_tests)))) (cases_eq x ii))
least_with f x (Some y) h = (
  ⊎_elim (λ (up : y < x). let is : min y x ≡ y = omega arith in subst (λ n. 0 < f n + (if x == n then 1 else 0)) (sym is) (let p = h.0 in omega arith))
      (λ (down : x ≤ y). let is : min y x ≡ x = omega arith in subst (λ n. 0 < f n + (if x == n then 1 else 0)) (sym is) (grind (arith, nat_tests))) (cases_lt y x),
  λ ii p. ⊎_elim (λ (is : x ≡ ii). omega arith) (λ (other : x ≢ ii). let le : y ≤ ii = h.1 ii (let e = ne_eqb x ii other in grind (arith, nat_tests)) in omega arith) (cases_eq x ii),
)

least_after : (es : List Event) (c : Core) (l : ℕ) (f : ℕ → ℕ) → IsLeastOf f (c.least l) → IsLeastOf (λ ii. f ii + posts l ii es) ((core_run c es).least l)
least_after [] c l f h = least_along f (λ ii. f ii + 0) (λ ii. omega arith) (c.least l) h
least_after (draw ∷ es) c l f h = least_after es (core_after c draw) l f h
least_after (look k ∷ es) c l f h = least_after es c l f h
least_after (post k x ∷ es) c l f h =
    let c' : Core = core_after c (post k x) in
    let g : ℕ → ℕ = λ ii. f ii + (if (k == l) && (x == ii) then 1 else 0) in
    let here : IsLeastOf g (c'.least l) = ⊎_elim
    (λ (same : l ≡ k).
    let is : c'.least l ≡ smaller (c.least l) x = ap (λ b. if b then smaller (c.least l) x else c.least l) (eq-eqb l k same) in
    subst (IsLeastOf g) (sym is) (least_along (λ ii. f ii + (if x == ii then 1 else 0)) g (λ ii. grind (arith, nat_tests)) (smaller (c.least l) x) (least_with f x (c.least l) h)))
    (λ (other : l ≢ k).
    let is : c'.least l ≡ c.least l = ap (λ b. if b then smaller (c.least l) x else c.least l) (ne_eqb l k other) in
    subst (IsLeastOf g) (sym is) (least_along f g (λ ii. grind (arith, nat_tests)) (c.least l) h))
    (cases_eq l k)
    in
    least_along (λ ii. g ii + posts l ii es) (λ ii. f ii + posts l ii (post k x ∷ es)) (λ ii. omega arith) ((core_run c' es).least l) (least_after es c' l g here)

one_least : (f : ℕ → ℕ) (o p : Option ℕ) → IsLeastOf f o → IsLeastOf f p → o ≡ p
one_least f None None h k = refl
one_least f None (Some y) h k = absurd (h y k.0)
one_least f (Some x) None h k = absurd (k x h.0)
one_least f (Some x) (Some y) h k = let a = h.1 y k.0 in let b = k.1 x h.0 in let e : x ≡ y = omega arith in ap Some e

as_least : (views : List View) (l : ℕ) (o : Option ℕ) → IsLeastPosted views l o → IsLeastOf (λ ii. total (λ v. times_posted l ii v.posted) views) o
as_least views l None h = h
as_least views l (Some x) h = h

-- as many numbers were drawn as there are below the next one
all_drawn : (views : List View) (next : ℕ) → ((x : ℕ) → 0 < total (λ v. occurrences x v.drawn) views → x < next) → total (λ v. length v.drawn) views ≡ total (λ v. between 0 next v.drawn) views
all_drawn [] next h = refl
all_drawn (v ∷ vs) next h =
    let r = all_drawn vs next (λ x p. h x (omega arith)) in
    let s = between_below next v.drawn (all_times (λ x. x < next) v.drawn (λ x p. h x (omega arith))) in
    omega arith

pub stands : (terms : Terms) (words : List ℕ) (views : List View) (events : List Event) → Rule terms words views → IsMadeOf events views → StandsFor terms.loops words (core_run core_opening events)
stands terms words views events rule made = record {
  next =
      let n : ℕ = next_of words in
      let a = next_after events core_opening in
      let b = made.drawn in
      let c = all_drawn views n (λ x p. let o = rule.drawn x in grind (arith, nat_tests)) in
      let d = total_between views n 0 n (omega arith) rule.drawn in
      omega arith;
  least = λ l near.
      let f : ℕ → ℕ = λ ii. 0 + posts l ii events in
      let a : IsLeastOf f ((core_run core_opening events).least l) = least_after events core_opening l (λ ii. 0) (λ ii p. omega arith) in
      let g : ℕ → ℕ = λ ii. total (λ v. times_posted l ii v.posted) views in
      let b : IsLeastOf f (least_of words l) = least_along g f (λ ii. let e = made.posted l ii in omega arith) (least_of words l) (as_least views l (least_of words l) (rule.least l near)) in
      one_least f ((core_run core_opening events).least l) (least_of words l) a b;
}

pub answers : (terms : Terms) (words : List ℕ) (views : List View) (events : List Event) → Rule terms words views → IsMadeOf events views → AnswersAs terms.loops words (core_run core_opening events)
answers terms words views events rule made =
    let stood = stands terms words views events rule made in
    record { drawn = ap Some stood.next; looked = stood.least }
