-- Which write lands last, where all others on its target have landed before it.
use Rattle.std.proofs.Common.{◌≡◌, ◌⊎◌, ℕ, suc, zero, ◌<◌, ◌≤◌, ◌&&◌, Bool, true, eqb, ltb, leb, List, [], ◌∷◌, length, Option, Some, None, refl, sym, ap, ◌∙◌, inl, inr, arith}
use Rattle.std.specs.List.{Contains, slice_index_or}
use Rattle.std.proofs.lemmas.Bool.{cases_Bool, and_parts, and_from, eqb-true, eq-eqb, true≢false, lt-ltb, le-ltb, le-leb, leb-true, cond-true, cond-false, cond_both}
use Rattle.kernel.specs.Overlapped.{Target, InRegister, InCell, Write, same_target, later_of, last_landed_from, last_landed, last_of_all}
use Rattle.kernel.proofs.cycles.Landings.{last-yes, last-no}

pub target-from_same : (t u : Target) → same_target t u ≡ true → t ≡ u
target-from_same (InRegister m) (InRegister n) h = ap InRegister (eqb-true m n h)
target-from_same (InCell a i) (InCell b j) h =
    let both = and_parts (eqb a b) (eqb i j) h in
    ap (λ x. InCell x i) (eqb-true a b both.0) ∙ ap (InCell b) (eqb-true i j both.1)
target-from_same (InRegister m) (InCell b j) h = absurd (true≢false (sym h))
target-from_same (InCell a i) (InRegister n) h = absurd (true≢false (sym h))

pub same-self : (t : Target) → same_target t t ≡ true
same-self (InRegister m) = eq-eqb m m refl
same-self (InCell a i) = and_from (eqb a a) (eqb i i) (eq-eqb a a refl) (eq-eqb i i refl)

-- v is the write itself, or lands before it
abbrev pub IsEarlier : Write → Write → Type 0
IsEarlier w v = (v ≡ w) ⊎ (v.start < w.start)

abbrev IsBeaten : Write → Option Write → Type 0
IsBeaten w None = Unit {0}
IsBeaten w (Some v) = IsEarlier w v

not_later : (w v : Write) → IsEarlier w v → v.start ≤ w.start
not_later w v (inl e) = let s : v.start ≡ w.start = ap (λ (x : Write). x.start) e in omega arith
not_later w v (inr l) = omega arith

takes : (w : Write) (found : Option Write) → IsBeaten w found → later_of found w ≡ Some w
takes w None b = refl
takes w (Some v) b = cond-false (ltb w.start v.start) (Some v) (Some w) (le-ltb w.start v.start (not_later w v b))

keeps : (w v : Write) → IsEarlier w v → later_of (Some w) v ≡ Some w
keeps w v (inl e) = ap (λ x. later_of (Some w) x) e ∙ takes w (Some w) (inl refl)
keeps w v (inr l) = cond-true (ltb v.start w.start) (Some w) (Some v) (lt-ltb v.start w.start l)

stays_beaten : (w : Write) (found : Option Write) (v : Write) → IsBeaten w found → IsEarlier w v → IsBeaten w (later_of found v)
stays_beaten w None v b e = e
stays_beaten w (Some u) v b e = cond_both (ltb v.start u.start) (Some u) (Some v) (IsBeaten w) (λ _. b) (λ _. e)

cons-cases_at : {X : Type 0} (x : X) (xs : List X) (y : X) (k : ℕ) → k < length (x ∷ xs) → slice_index_or (x ∷ xs) k y ≡ y → (x ≡ y) ⊎ Contains xs y
cons-cases_at x xs y zero l e = inl e
cons-cases_at x xs y (suc k) l e = inr (k, omega arith, e)

pub contains-cases : {X : Type 0} (x : X) (xs : List X) (y : X) → Contains (x ∷ xs) y → (x ≡ y) ⊎ Contains xs y
contains-cases x xs y c = cons-cases_at x xs y c.0 c.1 c.2

pub contains-tail : {X : Type 0} (x : X) (xs : List X) (y : X) → Contains xs y → Contains (x ∷ xs) y
contains-tail x xs y c = (suc c.0, let l = c.1 in omega arith, c.2)

pub contains-head : {X : Type 0} (x : X) (xs : List X) → Contains (x ∷ xs) x
contains-head x xs = (0, omega arith, refl)

abbrev AreEarlier : Write → (Write → Bool) → List Write → Type 0
AreEarlier w lands ws = (v : Write) → Contains ws v → lands v ≡ true → IsEarlier w v

found-stays : (w : Write) (lands : Write → Bool) (ws : List Write) → AreEarlier w lands ws → last_landed_from (Some w) lands ws ≡ Some w
found-stays w lands [] all = refl
found-stays w lands (v ∷ ws) all =
    let rest = found-stays w lands ws (λ u c. all u (contains-tail v ws u c)) in
    elim (cases_Bool (lands v)) [
      | inl met ↦ last-yes (Some w) lands v ws met ∙ ap (λ o. last_landed_from o lands ws) (keeps w v (all v (contains-head v ws) met)) ∙ rest
      | inr unmet ↦ last-no (Some w) lands v ws unmet ∙ rest
    ]

last-from : (w : Write) (lands : Write → Bool) (found : Option Write) (ws : List Write) → Contains ws w → lands w ≡ true → IsBeaten w found → AreEarlier w lands ws
    → last_landed_from found lands ws ≡ Some w
last-from w lands found [] c yes' b all = absurd (let l = c.1 in omega arith)
last-from w lands found (v ∷ ws) c yes' b all =
    let tail : AreEarlier w lands ws = λ u d. all u (contains-tail v ws u d) in
    elim (contains-cases v ws w c) [
      | inl here ↦
          ap (λ x. last_landed_from found lands (x ∷ ws)) here ∙ last-yes found lands w ws yes'
          ∙ ap (λ o. last_landed_from o lands ws) (takes w found b) ∙ found-stays w lands ws tail
      | inr after ↦ elim (cases_Bool (lands v)) [
        | inl met ↦ last-yes found lands v ws met ∙ last-from w lands (later_of found v) ws after yes' (stays_beaten w found v b (all v (contains-head v ws) met)) tail
        | inr unmet ↦ last-no found lands v ws unmet ∙ last-from w lands found ws after yes' b tail
      ]
    ]

none-from : (lands : Write → Bool) (ws : List Write) → ((v : Write) → Contains ws v → lands v ≡ true → ⊥) → last_landed_from None lands ws ≡ None
none-from lands [] none = refl
none-from lands (v ∷ ws) none =
    elim (cases_Bool (lands v)) [
      | inl met ↦ absurd (none v (contains-head v ws) met)
      | inr unmet ↦ last-no None lands v ws unmet ∙ none-from lands ws (λ u c. none u (contains-tail v ws u c))
    ]

-- a write lands last on a target by a cycle, where every other one there has landed before it
pub last-landed_is : (issued : List Write) (cycle : ℕ) (w : Write) → Contains issued w → w.start ≤ cycle
    → ((v : Write) → Contains issued v → v.target ≡ w.target → v.start ≤ cycle → IsEarlier w v)
    → last_landed issued w.target cycle ≡ Some w
last-landed_is issued cycle w c landed all =
    last-from w (λ v. same_target v.target w.target && leb v.start cycle) None issued c
    (and_from (same_target w.target w.target) (leb w.start cycle) (same-self w.target) (le-leb w.start cycle landed)) tt
    (λ v d met. let both = and_parts (same_target v.target w.target) (leb v.start cycle) met in all v d (target-from_same v.target w.target both.0) (leb-true v.start cycle both.1))

-- nothing has landed
pub none-landed : (issued : List Write) (target : Target) (cycle : ℕ) → ((v : Write) → Contains issued v → v.target ≡ target → cycle < v.start) → last_landed issued target cycle ≡ None
none-landed issued target cycle all =
    none-from (λ v. same_target v.target target && leb v.start cycle) issued
    (λ v d met. let both = and_parts (same_target v.target target) (leb v.start cycle) met in
    let early : v.start ≤ cycle = leb-true v.start cycle both.1 in
    let late : cycle < v.start = all v d (target-from_same v.target target both.0) in omega arith)

-- a write lands last of all
pub last-of_all_is : (issued : List Write) (w : Write) → Contains issued w → ((v : Write) → Contains issued v → v.target ≡ w.target → IsEarlier w v) → last_of_all issued w.target ≡ Some w
last-of_all_is issued w c all =
    last-from w (λ v. same_target v.target w.target) None issued c (same-self w.target) tt
    (λ v d met. all v d (target-from_same v.target w.target met))

pub none-of_all : (issued : List Write) (target : Target) → ((v : Write) → Contains issued v → v.target ≡ target → ⊥) → last_of_all issued target ≡ None
none-of_all issued target all = none-from (λ v. same_target v.target target) issued (λ v d met. all v d (target-from_same v.target target met))
