-- What it says of a draft that a fault isn't there.
use Rattle.std.proofs.Common.{◌≡◌, ℕ, ℤ, suc, zero, ◌+◌, ◌<◌, ◌≤◌, ◌⊎◌, inl, inr, Bool, true, false, T, ◌&&◌, ◌||◌, not, List, [], ◌∷◌, length, get_or, refl, sym, ap, ◌∙◌, subst, arith}
use Rattle.std.specs.Prelude.{◌↔◌, ◌≤ℤ◌, ◌==◌, Option, Some, None, nat_lt, nat_le, int_le}
use Rattle.std.specs.Option.{option_or}
use Rattle.std.proofs.lemmas.Bool.{not-true, not_from_false, ltb-true, leb-true, eqb-true, lt-ltb, le-leb, eq-eqb, and_parts, and_from, or_cases, or_left, or_right, cases_lt}
use Rattle.problems.specs.declared.fault.Fault.{Fault}
use Rattle.problems.specs.Faults.{unless, first_among, first_in, within}

-- there is no fault just where it is so
abbrev pub Says : Option Fault → Type 0 → Type 0
Says found P = (found ≡ None) ↔ P

some-not_none : (fault : Fault) → Some fault ≡ None → ⊥
some-not_none fault e = cc

-- one fault, and another

both-none : (a b : Option Fault) → option_or a b ≡ None → (a ≡ None) × (b ≡ None)
both-none None b h = (refl, h)
both-none (Some fault) b h = absurd (some-not_none fault h)

pub says-both : (a b : Option Fault) (P Q : Type 0) → Says a P → Says b Q → Says (option_or a b) (P × Q)
says-both a b P Q one other = (λ h. let both = both-none a b h in (one.0 both.0, other.0 both.1), λ h. ap (λ o. option_or o b) (one.1 h.0) ∙ other.1 h.1)

pub says-last : (a : Option Fault) (P : Type 0) → Says a P → Says (option_or a None) P
says-last a P one = (λ h. one.0 (both-none a None h).0, λ h. ap (λ o. option_or o None) (one.1 h))

-- a test

unless-true : (test : Bool) (fault : Fault) → unless test fault ≡ None → test ≡ true
unless-true true fault h = refl
unless-true false fault h = absurd (some-not_none fault h)

pub says-test : (test : Bool) (fault : Fault) (P : Type 0) → (test ≡ true → P) → (P → test ≡ true) → Says (unless test fault) P
says-test test fault P to from = (λ h. to (unless-true test fault h), λ h. ap (λ t. unless t fault) (from h))

pub says-below : (a b : ℕ) (fault : Fault) → Says (unless (nat_lt a b) fault) (a < b)
says-below a b fault = says-test (nat_lt a b) fault (a < b) (ltb-true a b) (lt-ltb a b)

pub says-most : (a b : ℕ) (fault : Fault) → Says (unless (nat_le a b) fault) (a ≤ b)
says-most a b fault = says-test (nat_le a b) fault (a ≤ b) (leb-true a b) (le-leb a b)

pub says-within : (least greatest n : ℕ) (fault : Fault) → Says (unless (within least greatest n) fault) ((least ≤ n) × (n ≤ greatest))
says-within least greatest n fault =
    says-test (within least greatest n) fault ((least ≤ n) × (n ≤ greatest))
    (λ h. let both = and_parts (nat_le least n) (nat_le n greatest) h in (leb-true least n both.0, leb-true n greatest both.1))
    (λ h. and_from (nat_le least n) (nat_le n greatest) (le-leb least n h.0) (le-leb n greatest h.1))

true-from_T : (b : Bool) → T b → b ≡ true
true-from_T true t = refl
true-from_T false t = absurd t

T-from_true : (b : Bool) → b ≡ true → T b
T-from_true b e = subst T (sym e) tt

int_le-true : (a b : ℤ) → int_le a b ≡ true → a ≤ℤ b
int_le-true a b h = record { le = T-from_true (int_le a b) h }

le-int_le : (a b : ℤ) → a ≤ℤ b → int_le a b ≡ true
le-int_le a b h = true-from_T (int_le a b) h.le

pub says-between : (least greatest z : ℤ) (fault : Fault) → Says (unless (int_le least z && int_le z greatest) fault) ((least ≤ℤ z) × (z ≤ℤ greatest))
says-between least greatest z fault =
    says-test (int_le least z && int_le z greatest) fault ((least ≤ℤ z) × (z ≤ℤ greatest))
    (λ h. let both = and_parts (int_le least z) (int_le z greatest) h in (int_le-true least z both.0, int_le-true z greatest both.1))
    (λ h. and_from (int_le least z) (int_le z greatest) (le-int_le least z h.0) (le-int_le z greatest h.1))

pub says-forward : (distance from to : ℕ) (fault : Fault) → Says (unless (nat_lt 0 distance || nat_lt from to) fault) (distance ≡ 0 → from < to)
says-forward distance from to fault =
    says-test (nat_lt 0 distance || nat_lt from to) fault (distance ≡ 0 → from < to)
    (λ h zero_is. elim (or_cases (nat_lt 0 distance) (nat_lt from to) h) [
      | inl later ↦ let more : 0 < distance = ltb-true 0 distance later in absurd (omega arith)
      | inr before ↦ ltb-true from to before
    ])
    (λ h. elim (cases_lt 0 distance) [
      | inl later ↦ or_left (nat_lt 0 distance) (nat_lt from to) (lt-ltb 0 distance later)
      | inr none ↦ let is : distance ≡ 0 = omega arith in or_right (nat_lt 0 distance) (nat_lt from to) (lt-ltb from to (h is))
    ])

pub says-either : (n count : ℕ) (fault : Fault) → Says (unless (n == 0 || n == count) fault) ((n ≡ 0) ⊎ (n ≡ count))
says-either n count fault =
    says-test (n == 0 || n == count) fault ((n ≡ 0) ⊎ (n ≡ count))
    (λ h. elim (or_cases (n == 0) (n == count) h) [ inl none ↦ inl (eqb-true n 0 none) | inr all ↦ inr (eqb-true n count all) ])
    (λ h. elim h [ inl none ↦ or_left (n == 0) (n == count) (eq-eqb n 0 none) | inr all ↦ or_right (n == 0) (n == count) (eq-eqb n count all) ])

pub says-not : (test : Bool) (fault : Fault) → Says (unless (not test) fault) (test ≡ false)
says-not test fault = says-test (not test) fault (test ≡ false) (not-true test) (not_from_false test)

-- the items of a list

among-none : {X : Type 0} (fault_of : ℕ → X → Option Fault) (number : ℕ) (xs : List X) → first_among fault_of number xs ≡ None
    → (k : ℕ) (d : X) → k < length xs → fault_of (number + k) (get_or xs k d) ≡ None
among-none fault_of number [] h k d lt = absurd (omega arith)
among-none fault_of number (x ∷ xs) h zero d lt =
    let is : number + 0 ≡ number = omega arith in
    ap (λ n. fault_of n x) is ∙ (both-none (fault_of number x) (first_among fault_of (number + 1) xs) h).0
among-none fault_of number (x ∷ xs) h (suc k) d lt =
    let is : number + suc k ≡ number + 1 + k = omega arith in
    ap (λ n. fault_of n (get_or xs k d)) is ∙ among-none fault_of (number + 1) xs (both-none (fault_of number x) (first_among fault_of (number + 1) xs) h).1 k d (omega arith)

none-among : {X : Type 0} (fault_of : ℕ → X → Option Fault) (number : ℕ) (xs : List X)
    → ((k : ℕ) (d : X) → k < length xs → fault_of (number + k) (get_or xs k d) ≡ None) → first_among fault_of number xs ≡ None
none-among fault_of number [] h = refl
none-among fault_of number (x ∷ xs) h =
    let is : number ≡ number + 0 = omega arith in
    let first : fault_of number x ≡ None = ap (λ n. fault_of n x) is ∙ h 0 x (omega arith) in
    ap (λ o. option_or o (first_among fault_of (number + 1) xs)) first
    ∙ none-among fault_of (number + 1) xs (λ k d lt.
    let next : number + 1 + k ≡ number + suc k = omega arith in
    ap (λ n. fault_of n (get_or xs k d)) next ∙ h (suc k) d (omega arith))

pub says-in : {X : Type 0} (fault_of : ℕ → X → Option Fault) (P : ℕ → X → Type 0) (xs : List X) → ((k : ℕ) (x : X) → Says (fault_of k x) (P k x))
    → Says (first_in fault_of xs) ((k : ℕ) (d : X) → k < length xs → P k (get_or xs k d))
says-in fault_of P xs each = (
  λ h k d lt.
      let is : k ≡ 0 + k = omega arith in
      (each k (get_or xs k d)).0 (ap (λ n. fault_of n (get_or xs k d)) is ∙ among-none fault_of 0 xs h k d lt),
  λ h. none-among fault_of 0 xs (λ k d lt.
      let is : 0 + k ≡ k = omega arith in
      ap (λ n. fault_of n (get_or xs k d)) is ∙ (each k (get_or xs k d)).1 (h k d lt)),
)
