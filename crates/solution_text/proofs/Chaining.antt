-- Chains grow by one item in front.
use Rattle.std.proofs.Common.{◌≡◌, ◌≢◌, ℕ, zero, suc, ◌+◌, ◌-◌, ◌<◌, ◌≤◌, List, [], ◌++◌, length, map, get_or, take, refl, sym, ap, ◌∙◌, subst, inl, inr, arith, slice_set, slice_index, replicate}
use Rattle.std.specs.List.{flat_map, range_with_len}
use Rattle.std.proofs.lemmas.Bool.{cases_eq}
use Rattle.std.proofs.lemmas.Grind.{get_or-set_at}
use Rattle.std.proofs.lemmas.List.{append-nil, get_or-map, get_or-replicate, get_or-set_other, length-map, length-replicate, length-set}
use Rattle.solution_text.specs.inner.Chains.{AreChained, IsNext}
use Rattle.solution_text.proofs.Loops.{listed-more, numbered-more}

-- one item before, which is of another owner
passed : (owners : List ℕ) (owner k found : ℕ) → slice_index owners k ≢ owner → IsNext owners owner (k + 1) found → IsNext owners owner k found
passed owners owner k found other n = record {
  low = let l = n.low in omega arith;
  high = n.high;
  between = λ j lo hi. elim (cases_eq j k) [
    | inl here ↦ subst (λ i. slice_index owners i ≢ owner) (sym here) other
    | inr past ↦ n.between j (omega arith) hi
  ];
  here = n.here;
}

-- one item before, which is the owner's
own : (owners : List ℕ) (owner k : ℕ) → k < length owners → slice_index owners k ≡ owner → IsNext owners owner k k
own owners owner k within same = record {
  low = omega arith;
  high = omega arith;
  between = λ j lo hi. absurd (omega arith);
  here = λ _. same;
}

-- nothing yet
pub chained-none : (owners firsts nexts : List ℕ) (count n : ℕ) → length nexts ≡ length owners → n ≡ length owners
    → firsts ≡ replicate count n → AreChained owners n firsts nexts
chained-none owners firsts nexts count n each all none = record {
  each = each;
  first = λ owner lt.
      let here : slice_index firsts owner ≡ n
      = ap (λ ns. slice_index ns owner) none ∙ get_or-replicate count owner n 0 (omega (arith, ap length none, length-replicate count n)) in
      subst (IsNext owners owner n) (sym here) (record { low = omega arith; high = omega arith; between = λ j lo hi. absurd (omega arith); here = λ lt. absurd (omega arith) });
  next = λ j lo lt. absurd (omega arith);
}

pub chained-more : (owners firsts nexts : List ℕ) (k : ℕ) → k < length owners → slice_index owners k < length firsts → AreChained owners (k + 1) firsts nexts
    → AreChained owners k (slice_set firsts (slice_index owners k) k) (slice_set nexts k (slice_index firsts (slice_index owners k)))
chained-more owners firsts nexts k within there c =
    let o : ℕ = slice_index owners k in
    let each : length nexts ≡ length owners = c.each in
    record {
      each = length-set nexts k (slice_index firsts o) ∙ each;
      first = λ owner lt. elim (cases_eq owner o) [
        | inl same ↦ subst (IsNext owners owner k) (sym (get_or-set_at firsts o owner k 0 same there)) (own owners owner k within (sym same))
        | inr other ↦ subst (IsNext owners owner k) (sym (get_or-set_other firsts o owner k 0 other))
            (passed owners owner k (slice_index firsts owner) (λ e. other (sym e)) (c.first owner (omega (arith, length-set firsts o k))))
      ];
      next = λ j lo lt. elim (cases_eq j k) [
        | inl here ↦ subst (λ i. IsNext owners (slice_index owners i) (i + 1) (slice_index (slice_set nexts k (slice_index firsts o)) i)) (sym here)
            (subst (IsNext owners o (k + 1)) (sym (get_or-set_at nexts k k (slice_index firsts o) 0 refl (omega (arith, each)))) (c.first o there))
        | inr past ↦ subst (IsNext owners (slice_index owners j) (j + 1)) (sym (get_or-set_other nexts k j (slice_index firsts o) 0 past)) (c.next j (omega arith) lt)
      ];
    }

-- texts of items, of which those of other owners have none

skip-listed : {X : Type 0} (f : X → List ℕ) (old before : List ℕ) (xs : List X) (i n : ℕ) (d : X) → i + n ≤ length xs
    → ((k : ℕ) → i ≤ k → k < i + n → f (get_or xs k d) ≡ []) → before ≡ old ++ flat_map f (take i xs) → before ≡ old ++ flat_map f (take (i + n) xs)
skip-listed {X} f old before xs i zero d within none b = subst (λ m. before ≡ old ++ flat_map f (take m xs)) (omega arith) b
skip-listed {X} f old before xs i (suc n) d within none b =
    let sofar : before ≡ old ++ flat_map f (take (i + n) xs) = skip-listed f old before xs i n d (omega arith) (λ k lo hi. none k lo (omega arith)) b in
    let here : before ≡ before ++ f (get_or xs (i + n) d) = sym (ap (λ t. before ++ t) (none (i + n) (omega arith) (omega arith)) ∙ append-nil before) in
    subst (λ m. before ≡ old ++ flat_map f (take m xs)) (omega arith) (listed-more f old before before xs (i + n) d (omega arith) sofar here)

-- from one on up to the next one of an owner
pub listed-next : {X : Type 0} (f : X → List ℕ) (owner_of : X → ℕ) (old before : List ℕ) (xs : List X) (owner i found : ℕ) (d : X)
    → ((x : X) → owner_of x ≢ owner → f x ≡ []) → IsNext (map owner_of xs) owner i found → before ≡ old ++ flat_map f (take i xs) → before ≡ old ++ flat_map f (take found xs)
listed-next {X} f owner_of old before xs owner i found d none n b =
    let low : i ≤ found = n.low in
    let high : found ≤ length xs = let h = n.high in omega (arith, h, length-map xs owner_of) in
    let others : (k : ℕ) → i ≤ k → k < i + (found - i) → f (get_or xs k d) ≡ []
    = λ k lo hi. none (get_or xs k d) (λ e. n.between k lo (omega arith) (get_or-map owner_of xs k d 0 (omega arith) ∙ e)) in
    subst (λ m. before ≡ old ++ flat_map f (take m xs)) (omega arith) (skip-listed f old before xs i (found - i) d (omega arith) others b)

skip-numbered : (f : ℕ → List ℕ) (old before : List ℕ) (i n : ℕ)
    → ((k : ℕ) → i ≤ k → k < i + n → f k ≡ []) → before ≡ old ++ flat_map f (range_with_len 0 i) → before ≡ old ++ flat_map f (range_with_len 0 (i + n))
skip-numbered f old before i zero none b = subst (λ m. before ≡ old ++ flat_map f (range_with_len 0 m)) (omega arith) b
skip-numbered f old before i (suc n) none b =
    let sofar : before ≡ old ++ flat_map f (range_with_len 0 (i + n)) = skip-numbered f old before i n (λ k lo hi. none k lo (omega arith)) b in
    let here : before ≡ before ++ f (i + n) = sym (ap (λ t. before ++ t) (none (i + n) (omega arith) (omega arith)) ∙ append-nil before) in
    subst (λ m. before ≡ old ++ flat_map f (range_with_len 0 m)) (omega arith) (numbered-more f old before before (i + n) sofar here)

pub numbered-next : (f : ℕ → List ℕ) (owners old before : List ℕ) (owner i found : ℕ)
    → ((k : ℕ) → slice_index owners k ≢ owner → f k ≡ []) → IsNext owners owner i found → before ≡ old ++ flat_map f (range_with_len 0 i) → before ≡ old ++ flat_map f (range_with_len 0 found)
numbered-next f owners old before owner i found none n b =
    let low : i ≤ found = n.low in
    subst (λ m. before ≡ old ++ flat_map f (range_with_len 0 m)) (omega arith)
    (skip-numbered f old before i (found - i) (λ k lo hi. none k (n.between k lo (omega arith))) b)
