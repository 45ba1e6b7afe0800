-- Words in their order: those that come first in a text are parts of the last one that is not above it.
use Rattle.std.proofs.Common.{◌≡◌, ℕ, zero, suc, ◌+◌, ◌-◌, ◌<◌, ◌≤◌, ◌==◌, ◌&&◌, Bool, true, false, nat_cmp, List, [], ◌∷◌, ◌++◌, length, take, get_or, Option, Some, None, IfSome, Ordering, Less, Equal, Greater, ◌⊎◌, inl, inr, refl, sym, ap, ◌∙◌, arith, length-append, eq-eqb}
use Rattle.std.proofs.Math.ListN.{get_or-append}
use Rattle.std.proofs.Math.Seq.{get_or-append_seam}
use Rattle.std.proofs.lemmas.Bool.{cases_lt, eqb-true, false≢true}
use Rattle.std.proofs.lemmas.Cmp.{nat_list_cmp_total}
use Rattle.std.proofs.lemmas.List.{map-append, length-map, get_or-map, take_all}
use Rattle.std.proofs.lemmas.Slice.Eq.{bytes_eq-Decides}
use Rattle.std.specs.Borrow.{Bor}
use Rattle.std.specs.Cmp.{nat_cmp_is}
use Rattle.std.specs.Cmp.Lexicographic.{slice_cmp}
use Rattle.std.specs.FinMap.{nat_cmp-IsAntisymmetric, slice_cmp-IsAntisymmetric}
use Rattle.std.specs.List.Sorted.{IsPartitionPoint, IsPartitionedBy}
use Rattle.std.specs.Option.{SomeIff}
use Rattle.std.specs.Ordering.{is_le, is_lt, ordering_then}
use Rattle.machine_data.specs.Opcodes.{same_word}
use Rattle.machine_lint.specs.inner.Sought.{AreLinks, Ascends, IsLink, Reaches, begins, nth, texts}

abbrev pub UpTo : List ℕ → List ℕ → Type 0
UpTo v s = is_le (slice_cmp nat_cmp v s) ≡ true

first-true : (a b : Bool) → (a && b) ≡ true → a ≡ true
first-true true b h = refl
first-true false b h = h

second-true : (a b : Bool) → (a && b) ≡ true → b ≡ true
second-true true b h = h
second-true false b h = cc

-- what the first bytes of two lists in order say
order-first : (x y : ℕ) (w v : List ℕ) → UpTo (x ∷ w) (y ∷ v) → x ≤ y
order-first x y w v h = elim (cases_lt y x) [
  | inl below ↦
      let greater : nat_cmp x y ≡ Greater = sym (nat_cmp_is x y Greater below) in
      absurd (false≢true (sym (ap (λ o. is_le (ordering_then o (slice_cmp nat_cmp w v))) greater) ∙ h))
  | inr above ↦ above
]

order-rest : (x : ℕ) (w v : List ℕ) → UpTo (x ∷ w) (x ∷ v) → UpTo w v
order-rest x w v h =
    let equal : nat_cmp x x ≡ Equal = sym (nat_cmp_is x x Equal refl) in
    sym (ap (λ o. is_le (ordering_then o (slice_cmp nat_cmp w v))) equal) ∙ h

-- a word that comes first in a text comes first in all that stands between them
pub between : (w v s : List ℕ) → UpTo w v → UpTo v s → begins w s ≡ true → begins w v ≡ true
between [] v s low high first = refl
between (x ∷ w) v [] low high first = cc
between (x ∷ w) [] (z ∷ s) low high first = cc
between (x ∷ w) (y ∷ v) (z ∷ s) low high first =
    let start : x ≡ z = eqb-true x z (first-true (x == z) (same_word w (take (length w) s)) first) in
    let one : x ≤ y = order-first x y w v low in
    let other : y ≤ z = order-first y z v s high in
    let same : y ≡ x = omega (arith, start, one, other) in
    let last : z ≡ x = sym start in
    let low' : UpTo w v = order-rest x w v (rw same at low) in
    let high' : UpTo v s = order-rest x v s (rw (same, last) at high) in
    let rest = between w v s low' high' (second-true (x == z) (same_word w (take (length w) s)) first) in
    let here : (x == y) ≡ true = eq-eqb x y (sym same) in
    rw (here, rest) refl

-- a word that comes first in a text is not above it
pub begins-low : (w s : List ℕ) → begins w s ≡ true → UpTo w s
begins-low [] [] first = refl
begins-low [] (z ∷ s) first = refl
begins-low (x ∷ w) [] first = cc
begins-low (x ∷ w) (z ∷ s) first =
    let start : x ≡ z = eqb-true x z (first-true (x == z) (same_word w (take (length w) s)) first) in
    let equal : nat_cmp x z ≡ Equal = sym (nat_cmp_is x z Equal start) in
    let rest = begins-low w s (second-true (x == z) (same_word w (take (length w) s)) first) in
    ap (λ o. is_le (ordering_then o (slice_cmp nat_cmp w s))) equal ∙ rest

pub begins-self : (w : List ℕ) → begins w w ≡ true
begins-self w = (bytes_eq-Decides w (take (length w) w)).1 (sym (take_all (length w) w (omega arith)))

pub ascends-push : (words : List (List ℕ)) (word : List ℕ) → Ascends words → ((i : ℕ) → i < length words → slice_cmp nat_cmp (nth words i) word ≡ Less) → Ascends (words ++ word ∷ [])
ascends-push words word in-order above i j low high =
    let size : length (words ++ word ∷ []) ≡ length words + 1 = length-append words (word ∷ []) in
    elim (cases_lt j (length words)) [
      | inl below ↦
          let first : i < length words = omega (arith, low, below) in
          rw (get_or-append words (word ∷ []) [] i first, get_or-append words (word ∷ []) [] j below) (in-order i j low below)
      | inr after ↦
          let last : j ≡ length words = omega (arith, high, size, after) in
          let first : i < length words = omega (arith, low, last) in
          rw (last, get_or-append words (word ∷ []) [] i first, get_or-append_seam words word [] []) (above i first)
    ]

-- the words up to one are below what it is below
pub all-above : (words : List (List ℕ)) (word : List ℕ) (n : ℕ) → Ascends words → length words ≡ n + 1 → slice_cmp nat_cmp (nth words n) word ≡ Less
    → (i : ℕ) → i < length words → slice_cmp nat_cmp (nth words i) word ≡ Less
all-above words word n in-order size last i inside = elim (cases_lt i n) [
  | inl before ↦ nat_list_cmp_total.trans (nth words i) (nth words n) word (in-order i n before (omega (arith, size))) last
  | inr after ↦ let same : i ≡ n = omega (arith, inside, size, after) in rw same last
]

pub nth-texts : (words : List (Bor (List ℕ))) (i : ℕ) (d : Bor (List ℕ)) → i < length words → nth (texts words) i ≡ (get_or words i d).now
nth-texts words i d inside = get_or-map (λ (w : Bor (List ℕ)). w.now) words i d [] inside

le-cases : (o : Ordering) → is_le o ≡ true → (o ≡ Less) ⊎ (o ≡ Equal)
le-cases Less h = inl refl
le-cases Equal h = inr refl
le-cases Greater h = cc

-- what is below a list that is not above another one is not above that
pub up-chain : (a b c : List ℕ) → slice_cmp nat_cmp a b ≡ Less → UpTo b c → UpTo a c
up-chain a b c low up = elim (le-cases (slice_cmp nat_cmp b c) up) [
  | inl less ↦ ap is_le (nat_list_cmp_total.trans a b c low less)
  | inr equal ↦
      let same : b ≡ c = slice_cmp-IsAntisymmetric nat_cmp-IsAntisymmetric b c equal in
      ap is_le (rw same at low)
]

-- the last of some words is above the others
pub above-last : (words : List (Bor (List ℕ))) (last : Bor (List ℕ)) (word : List ℕ) → Ascends (texts words) → get_or words (length words - 1) last ≡ last → 0 < length words
    → slice_cmp nat_cmp last.now word ≡ Less → (i : ℕ) → i < length words → slice_cmp nat_cmp (nth (texts words) i) word ≡ Less
above-last words last word in-order is some below i inside =
    let size : length (texts words) ≡ length words = length-map words (λ (w : Bor (List ℕ)). w.now) in
    let end : length words - 1 < length words = omega (arith, some) in
    let spelled : nth (texts words) (length words - 1) ≡ last.now = nth-texts words (length words - 1) last end ∙ ap (λ (w : Bor (List ℕ)). w.now) is in
    all-above (texts words) word (length words - 1) in-order (size ∙ omega (arith, some)) (rw spelled below) i (rw size inside)

pub texts-push : (words : List (Bor (List ℕ))) (word : Bor (List ℕ)) → texts (words ++ word ∷ []) ≡ texts words ++ word.now ∷ []
texts-push words word = map-append (λ (w : Bor (List ℕ)). w.now) words (word ∷ [])

pub put-last : (words more : List (Bor (List ℕ))) (word : Bor (List ℕ)) → Ascends (texts words) → more ≡ words ++ word ∷ []
    → ((i : ℕ) → i < length words → slice_cmp nat_cmp (nth (texts words) i) word.now ≡ Less) → Ascends (texts more)
put-last words more word in-order is above =
    let size : length (texts words) ≡ length words = length-map words (λ (w : Bor (List ℕ)). w.now) in
    rw (is, texts-push words word) (ascends-push (texts words) word.now in-order (λ i inside. above i (rw size at inside)))

-- the words up to a text, where they part

reach-last : (words : List (List ℕ)) (k j : ℕ) (text : List ℕ) → Ascends words → k < length words → UpTo (nth words k) text → j ≤ k → begins (nth words j) text ≡ true
    → begins (nth words j) (nth words k) ≡ true
reach-last words k j text in-order inside up below first = elim (cases_lt j k) [
  | inl before ↦
      let low : UpTo (nth words j) (nth words k) = ap is_le (in-order j k before inside) in
      between (nth words j) (nth words k) text low up first
  | inr after ↦ let same : j ≡ k = omega (arith, below, after) in rw same (begins-self (nth words k))
]

pub reach-parted : (words : List (List ℕ)) (text : List ℕ) (n : ℕ) (last : Option ℕ) → Ascends words → n ≤ length words
    → ((k : ℕ) → k < n → UpTo (nth words k) text) → ((k : ℕ) → n ≤ k → k < length words → is_le (slice_cmp nat_cmp (nth words k) text) ≡ false)
    → SomeIff last (1 ≤ n) (n - 1) → (j : ℕ) → j < length words → begins (nth words j) text ≡ true → Reaches words last j
reach-parted words text n None in-order within up above is j inside first = elim (cases_lt j n) [
  | inl before ↦ absurd (is (omega (arith, before)))
  | inr after ↦ absurd (false≢true (sym (above j after inside) ∙ begins-low (nth words j) text first))
]
reach-parted words text n (Some k) in-order within up above is j inside first = elim (cases_lt j n) [
  | inl before ↦
      let last : k ≡ n - 1 = is.1 in
      let some : 1 ≤ n = is.0 in
      let below : j ≤ k = omega (arith, before, last, some) in
      let end : k < length words = omega (arith, last, some, within) in
      (below, reach-last words k j text in-order end (up k (omega (arith, last, some))) below first)
  | inr after ↦ absurd (false≢true (sym (above j after inside) ∙ begins-low (nth words j) text first))
]

-- words in their order part where they are above a text
pub parted : (words : List (Bor (List ℕ))) (text : List ℕ) → Ascends (texts words) → IsPartitionedBy (λ (w : Bor (List ℕ)). is_le (slice_cmp nat_cmp w.now text)) words
parted words text in-order i j d below inside up = elim (cases_lt i j) [
  | inl before ↦
      let first : i < length words = omega (arith, before, inside) in
      let size : length (texts words) ≡ length words = length-map words (λ (w : Bor (List ℕ)). w.now) in
      let low : slice_cmp nat_cmp (get_or words i d).now (get_or words j d).now ≡ Less =
      rw (nth-texts words i d first, nth-texts words j d inside) at (in-order i j before (rw size inside)) in
      up-chain (get_or words i d).now (get_or words j d).now text low up
  | inr after ↦ let same : i ≡ j = omega (arith, below, after) in rw same up
]

pub lt-less : (o : Ordering) → is_lt o ≡ true → o ≡ Less
lt-less Less h = refl
lt-less Equal h = cc
lt-less Greater h = cc

pub reach-point : (words : List (Bor (List ℕ))) (text : List ℕ) (n : ℕ) (last : Option ℕ) → Ascends (texts words) → n ≤ length words
    → IsPartitionPoint (λ (w : Bor (List ℕ)). is_le (slice_cmp nat_cmp w.now text) ≡ true) (λ (w : Bor (List ℕ)). is_le (slice_cmp nat_cmp w.now text) ≡ false) words n
    → SomeIff last (1 ≤ n) (n - 1) → (j : ℕ) → j < length words → begins (nth (texts words) j) text ≡ true → Reaches (texts words) last j
reach-point [] text n last in-order within point is j inside first = let none : ⊥ = omega (arith, inside) in absurd none
reach-point (w ∷ words) text n last in-order within point is j inside first =
    let all : List (Bor (List ℕ)) = w ∷ words in
    let size : length (texts all) ≡ length all = length-map all (λ (w : Bor (List ℕ)). w.now) in
    reach-parted (texts all) text n last in-order (rw size within)
    (λ k low. let here : k < length all = omega (arith, low, within) in rw (nth-texts all k w here) (point.0 k w (omega arith) low))
    (λ k high below. let here : k < length all = rw size at below in rw (nth-texts all k w here) (point.1 k w high here))
    is j (rw size inside) first

-- the word before one is reached from it

step-back : (words : List (List ℕ)) (i : ℕ) (last : Option ℕ) → Ascends words → i < length words → SomeIff last (1 ≤ i) (i - 1)
    → (j : ℕ) → j < i → begins (nth words j) (nth words i) ≡ true → Reaches words last j
step-back words i None in-order inside is j below first = absurd (is (omega (arith, below)))
step-back words i (Some k) in-order inside is j below first =
    let some : 1 ≤ i = is.0 in
    let last : k ≡ i - 1 = is.1 in
    let before : k < i = omega (arith, last, some) in
    let low : j ≤ k = omega (arith, last, below) in
    (low, reach-last words k j (nth words i) in-order (omega (arith, before, inside)) (ap is_le (in-order k i before inside)) low first)

pub link-is : (words : List (List ℕ)) (links : List (Option ℕ)) (i : ℕ) (last link : Option ℕ) → Ascends words → i < length words → length links ≡ i → SomeIff last (1 ≤ i) (i - 1)
    → IfSome link (λ k. (k < length links) × (begins (nth words k) (nth words i) ≡ true))
    → ((j : ℕ) → begins (nth words j) (nth words i) ≡ true → Reaches words last j → Reaches words link j) → IsLink words i link
link-is words links i last None in-order inside all is first others = (tt, λ j below part. others j part (step-back words i last in-order inside is j below part))
link-is words links i last (Some k) in-order inside all is first others =
    let low : k < length links = first.0 in
    ((omega (arith, low, all), first.1), λ j below part. others j part (step-back words i last in-order inside is j below part))

pub links-push : (words : List (List ℕ)) (links more : List (Option ℕ)) (link : Option ℕ) → AreLinks words links → more ≡ links ++ link ∷ [] → IsLink words (length links) link → AreLinks words more
links-push words links more link are is last i inside =
    let size : length (links ++ link ∷ []) ≡ length links + 1 = length-append links (link ∷ []) in
    let within : i < length (links ++ link ∷ []) = rw is at inside in
    elim (cases_lt i (length links)) [
      | inl below ↦ rw (is, get_or-append links (link ∷ []) None i below) (are i below)
      | inr after ↦
          let same : i ≡ length links = omega (arith, within, size, after) in
          rw (is, same, get_or-append_seam links link [] None) last
    ]

pub link-of : (words : List (Bor (List ℕ))) (links own : List (Option ℕ)) (i n : ℕ) (text : List ℕ) (last link : Option ℕ) → Ascends (texts words) → i < length words → length links ≡ i → own ≡ links → n ≡ length links
    → SomeIff last (1 ≤ n) (n - 1) → text ≡ nth (texts words) i → IfSome link (λ k. (k < length own) × (begins (nth (texts words) k) text ≡ true))
    → ((j : ℕ) → begins (nth (texts words) j) text ≡ true → Reaches (texts words) last j → Reaches (texts words) link j) → IsLink (texts words) (length links) link
link-of words links own i n text last link in-order inside all same count is spelled first others =
    let size : length (texts words) ≡ length words = length-map words (λ (w : Bor (List ℕ)). w.now) in
    let number : n ≡ i = count ∙ all in
    rw all (link-is (texts words) links i last link in-order (rw size inside) all (rw number at is) (rw (same, spelled) at first) (λ j part. rw spelled at (others j) part))

-- what comes first in what comes first
pub begins-chain : (w v s : List ℕ) → begins w v ≡ true → begins v s ≡ true → begins w s ≡ true
begins-chain [] v s one other = refl
begins-chain (x ∷ w) [] s one other = cc
begins-chain (x ∷ w) (y ∷ v) [] one other = cc
begins-chain (x ∷ w) (y ∷ v) (z ∷ s) one other =
    let left : x ≡ y = eqb-true x y (first-true (x == y) (same_word w (take (length w) v)) one) in
    let right : y ≡ z = eqb-true y z (first-true (y == z) (same_word v (take (length v) s)) other) in
    let here : (x == z) ≡ true = eq-eqb x z (left ∙ right) in
    let rest = begins-chain w v s (second-true (x == y) (same_word w (take (length w) v)) one) (second-true (y == z) (same_word v (take (length v) s)) other) in
    rw (here, rest) refl

pub link-first : (words : List (List ℕ)) (text : List ℕ) (k n : ℕ) (link : Option ℕ) → IsLink words k link → k < n → begins (nth words k) text ≡ true
    → IfSome link (λ m. (m < n) × (begins (nth words m) text ≡ true))
link-first words text k n None linked inside first = tt
link-first words text k n (Some m) linked inside first =
    let part : (m < k) × (begins (nth words m) (nth words k) ≡ true) = linked.0 in
    let low : m < k = part.0 in
    (omega (arith, low, inside), begins-chain (nth words m) (nth words k) text part.1 first)

-- what comes first in two texts is no longer than what they have in common

pub begins-length : (w s : List ℕ) → begins w s ≡ true → length w ≤ length s
begins-length [] s first = omega arith
begins-length (x ∷ w) [] first = cc
begins-length (x ∷ w) (z ∷ s) first =
    let rest : length w ≤ length s = begins-length w s (second-true (x == z) (same_word w (take (length w) s)) first) in
    omega (arith, rest)

pub begins-byte : (w s : List ℕ) (i : ℕ) → begins w s ≡ true → i < length w → get_or w i 0 ≡ get_or s i 0
begins-byte [] s i first inside = let none : ⊥ = omega (arith, inside) in absurd none
begins-byte (x ∷ w) [] i first inside = cc
begins-byte (x ∷ w) (z ∷ s) zero first inside = eqb-true x z (first-true (x == z) (same_word w (take (length w) s)) first)
begins-byte (x ∷ w) (z ∷ s) (suc i) first inside =
    let below : i < length w = omega (arith, inside) in
    begins-byte w s i (second-true (x == z) (same_word w (take (length w) s)) first) below

pub common-differ : (w s t : List ℕ) (at : ℕ) → (get_or s at 0 ≡ get_or t at 0 → ⊥) → begins w s ≡ true → begins w t ≡ true → length w ≤ at
common-differ w s t at apart one other = elim (cases_lt at (length w)) [
  | inl below ↦ absurd (apart (sym (begins-byte w s at one below) ∙ begins-byte w t at other below))
  | inr above ↦ above
]

-- from a word that does not come first to the one that its link leads to

pub pass-on : (words : List (List ℕ)) (text : List ℕ) (k : ℕ) (from link : Option ℕ) → IsLink words k link → (begins (nth words k) text ≡ true → ⊥)
    → ((j : ℕ) → begins (nth words j) text ≡ true → Reaches words from j → Reaches words (Some k) j)
    → (j : ℕ) → begins (nth words j) text ≡ true → Reaches words from j → Reaches words link j
pass-on words text k from link linked fails others j first part =
    let reached : (j ≤ k) × (begins (nth words j) (nth words k) ≡ true) = others j first part in
    let low : j ≤ k = reached.0 in
    elim (cases_lt j k) [
      | inl before ↦ linked.1 j before reached.1
      | inr after ↦ let same : j ≡ k = omega (arith, low, after) in absurd (fails (rw same at first))
    ]

pub pass-part : (words : List (List ℕ)) (k : ℕ) (from link : Option ℕ) → IsLink words k link → Reaches words from k → IfSome link (λ m. Reaches words from m)
pass-part words k from None linked part = tt
pass-part words k None (Some m) linked part = absurd part
pass-part words k (Some f) (Some m) linked part =
    let before : (m < k) × (begins (nth words m) (nth words k) ≡ true) = linked.0 in
    let low : m < k = before.0 in
    let high : k ≤ f = part.0 in
    (omega (arith, low, high), begins-chain (nth words m) (nth words k) (nth words f) before.1 part.1)

pub reach-self : (words : List (List ℕ)) (from : Option ℕ) → IfSome from (λ k. Reaches words from k)
reach-self words None = tt
reach-self words (Some k) = (omega arith, begins-self (nth words k))

pub link-inside : (words : List (List ℕ)) (k n : ℕ) (link : Option ℕ) → IsLink words k link → k < n → IfSome link (λ m. m < n)
link-inside words k n None linked inside = tt
link-inside words k n (Some m) linked inside =
    let part : (m < k) × (begins (nth words m) (nth words k) ≡ true) = linked.0 in
    let low : m < k = part.0 in
    omega (arith, low, inside)
