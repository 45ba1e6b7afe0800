-- The marks of the first places at which a word stands.
use Rattle.std.proofs.Common.{◌≡◌, ℕ, zero, suc, ◌+◌, ◌-◌, ◌<◌, Bool, true, false, cond, List, length, Option, Some, None, IfSome, inl, inr, refl, ap, ◌∙◌, arith}
use Rattle.std.proofs.lemmas.Bool.{cases_lt}
use Rattle.std.proofs.lemmas.Option.{same_Some}
use Rattle.std.specs.Option.{option_and_then, option_map, option_or}
use Rattle.machine_lint.specs.Words.{first_at, first_key, first_word, is_key_at, is_word_at, key_from}
use Rattle.machine_lint.specs.inner.Marks.{mark_at}
use Rattle.machine_lint.specs.declared.index.Mark.{Mark}

-- the first place is inside the text

some-or : (P : ℕ → Type 0) (a b : Option ℕ) → IfSome a P → IfSome b P → IfSome (option_or a b) P
some-or P None b x y = y
some-or P (Some n) b x y = x

some-weaker : (P Q : ℕ → Type 0) (a : Option ℕ) → ((n : ℕ) → P n → Q n) → IfSome a P → IfSome a Q
some-weaker P Q None f h = tt
some-weaker P Q (Some n) f h = f n h

some-if : (P : ℕ → Type 0) (b : Bool) (from : ℕ) (a : Option ℕ) → P from → IfSome a P → IfSome (cond b (Some from) a) P
some-if P true from a here there = here
some-if P false from a here there = there

first-before : (test : ℕ → Bool) (from count : ℕ) → IfSome (first_at test from count) (λ at. at < from + count)
first-before test from zero = tt
first-before test from (suc count) =
    some-if (λ at. at < from + suc count) (test from) from (first_at test (suc from) count) (omega arith)
    (some-weaker (λ at. at < suc from + count) (λ at. at < from + suc count) (first_at test (suc from) count) (λ at h. omega (arith, h)) (first-before test (suc from) count))

pub first-inside : (test : ℕ → Bool) (from n : ℕ) → IfSome (first_at test from (n - from)) (λ at. at < n)
first-inside test from n = elim (cases_lt from n) [
  | inl before ↦ some-weaker (λ at. at < from + (n - from)) (λ at. at < n) (first_at test from (n - from)) (λ at h. omega (arith, h, before)) (first-before test from (n - from))
  | inr after ↦ let none : n - from ≡ 0 = omega (arith, after) in rw none tt
]

map-some : (text : List ℕ) (a : Option ℕ) → IfSome a (λ at. at < length text) → IfSome (option_map (mark_at text) a) (λ (mark : Mark). mark.at < length text)
map-some text None h = tt
map-some text (Some n) h = h

pub key-inside : (text word : List ℕ) (from : ℕ) → IfSome (option_map (mark_at text) (key_from text word from)) (λ (mark : Mark). mark.at < length text)
unfolding key_from
key-inside text word from =
    map-some text (option_or (first_key text word from) (first_word text word from))
    (some-or (λ at. at < length text) (first_key text word from) (first_word text word from)
    (first-inside (is_key_at text word) from (length text)) (first-inside (is_word_at text word) from (length text)))

-- a place after another one

pub mark-next : (text : List ℕ) (mark : Mark) (o : Option ℕ) (next : ℕ → Option ℕ) (r : Option Mark) → Some mark ≡ option_map (mark_at text) o → r ≡ option_map (mark_at text) (next mark.at)
    → r ≡ option_map (mark_at text) (option_and_then next o)
mark-next text mark None next r there is = cc
mark-next text mark (Some n) next r there is =
    let same : mark.at ≡ n = ap (λ (m : Mark). m.at) (same_Some mark (mark_at text n) there) in
    is ∙ ap (λ k. option_map (mark_at text) (next k)) same

pub mark-no-next : (text : List ℕ) (o : Option ℕ) (next : ℕ → Option ℕ) → None ≡ option_map (mark_at text) o → None ≡ option_map (mark_at text) (option_and_then next o)
mark-no-next text None next none = refl
mark-no-next text (Some n) next none = cc
