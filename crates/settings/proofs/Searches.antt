-- Intervals tried in turn, and what that comes to.
use Rattle.std.proofs.Common.{◌≡◌, ℕ, suc, ◌+◌, ◌<◌, ◌≤◌, ⊎_elim, ap, sym, ◌∙◌, subst, arith}
use Rattle.std.proofs.lemmas.Bool.{cases_lt}
use Rattle.settings.specs.Searches.{IsLeastGiven, IsNoneGiven, NoneGiven}

-- `above` intervals tried, from `first` on, none of which gives anything; the cause is that of the last
pub record Risen {A C : Type 0} (gives : ℕ → A → Type 0) (fails_by : ℕ → C → Type 0) (first above : ℕ) (cause : C) : Type 0 where
  pub none : NoneGiven gives first (first + above)
  pub fails : (k : ℕ) → above ≡ suc k → fails_by (first + k) cause

one_more : (m a : ℕ) → m + a + 1 ≡ m + (a + 1)
one_more m a = omega arith

-- nor is anything given at this interval
pub none_on : {A : Type 0} (gives : ℕ → A → Type 0) (first ii : ℕ) → NoneGiven gives first ii → ((given : A) → gives ii given → ⊥) → NoneGiven gives first (ii + 1)
none_on gives first ii none here k given from less g = ⊎_elim (λ (before : k < ii). none k given from before g)
    (λ (at : ii ≤ k). here given (subst (λ n. gives n given) (same k ii at less) g))
    (cases_lt k ii)
  where
    same : (k ii : ℕ) → ii ≤ k → k < ii + 1 → k ≡ ii
    same k ii a b = omega arith

pub risen_none : {A C : Type 0} (gives : ℕ → A → Type 0) (fails_by : ℕ → C → Type 0) (first : ℕ) (cause : C) → Risen gives fails_by first 0 cause
risen_none gives fails_by first cause = record {
  none = λ ii given low less g. absurd (omega arith);
  fails = λ k is. absurd (omega arith);
}

pub risen_on : {A C : Type 0} (gives : ℕ → A → Type 0) (fails_by : ℕ → C → Type 0) (first above : ℕ) (last cause : C) → Risen gives fails_by first above last
    → ((given : A) → gives (first + above) given → ⊥) → fails_by (first + above) cause → Risen gives fails_by first (above + 1) cause
risen_on gives fails_by first above last cause r here fails = record {
  none = subst (NoneGiven gives first) (one_more first above) (none_on gives first (first + above) r.none here);
  fails = λ k at. subst (λ n. fails_by (first + n) cause) (same above k at) fails;
}
  where
    same : (a k : ℕ) → a + 1 ≡ suc k → a ≡ k
    same a k h = omega arith

pub met_here : {A C : Type 0} (gives : ℕ → A → Type 0) (fails_by : ℕ → C → Type 0) (first ceiling above ii : ℕ) (cause : C) (given : A) → Risen gives fails_by first above cause
    → gives ii given → above ≤ ceiling → ii ≡ first + above → IsLeastGiven gives first (first + ceiling) ii given
met_here gives fails_by first ceiling above ii cause given r is few same = record {
  from_first = omega arith;
  to_last = omega arith;
  is_given = is;
  least = subst (NoneGiven gives first) (sym same) r.none;
}

pub unmet_here : {A C : Type 0} (gives : ℕ → A → Type 0) (fails_by : ℕ → C → Type 0) (first ceiling above : ℕ) (cause : C) → Risen gives fails_by first above cause
    → above ≡ ceiling + 1 → IsNoneGiven gives fails_by first (first + ceiling) cause
unmet_here gives fails_by first ceiling above cause r at = record {
  fails = r.fails ceiling (at ∙ plus_one ceiling);
  none = subst (NoneGiven gives first) (ap (λ n. first + n) at ∙ sym (one_more first ceiling)) r.none;
}
  where
    plus_one : (n : ℕ) → n + 1 ≡ suc n
    plus_one n = omega arith

same_interval : {A : Type 0} (gives : ℕ → A → Type 0) (first last i j : ℕ) (one other : A) → IsLeastGiven gives first last i one → IsLeastGiven gives first last j other → j ≡ i
same_interval gives first last i j one other a b = ⊎_elim (λ (less : i < j). absurd (b.least i one a.from_first less a.is_given))
    (λ (no : j ≤ i). ⊎_elim (λ (less : j < i). absurd (a.least j other b.from_first less b.is_given)) (λ (up : i ≤ j). omega arith) (cases_lt j i))
    (cases_lt i j)

-- where an interval gives one thing, intervals have one least that gives something
pub one_least : {A R : Type 0} (gives : ℕ → A → Type 0) (met : ℕ → A → R) (first last i j : ℕ) (one other : A) → ((ii : ℕ) (x y : A) → first ≤ ii → gives ii x → gives ii y → x ≡ y)
    → IsLeastGiven gives first last i one → IsLeastGiven gives first last j other → met i one ≡ met j other
one_least gives met first last i j one other same a b =
    let interval : j ≡ i = same_interval gives first last i j one other a b in
    ap (met i) (same i one other a.from_first a.is_given (subst (λ n. gives n other) interval b.is_given)) ∙ ap (λ n. met n other) (sym interval)

-- intervals do not both give something and nothing
pub not_both : {A C : Type 0} (gives : ℕ → A → Type 0) (fails_by : ℕ → C → Type 0) (first last ii : ℕ) (given : A) (cause : C) → IsLeastGiven gives first last ii given
    → IsNoneGiven gives fails_by first last cause → ⊥
not_both gives fails_by first last ii given cause a b = let high = a.to_last in b.none ii given a.from_first (omega arith) a.is_given
