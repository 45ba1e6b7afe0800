-- What is known of a word from an offset on, by whether it stands there.
use Rattle.std.proofs.Common.{◌≡◌, ℕ, ◌+◌, ◌-◌, ◌<◌, ◌≤◌, ◌&&◌, Bool, true, false, not, cond, List, length, drop, take, get_or, option_map, set, min, ◌⊎◌, ◌≢◌, inl, inr, Option, Some, None, refl, sym, ap, ◌∙◌, arith}
use Rattle.std.proofs.lemmas.Bool.{cases_order, false_from_ne_true}
use Rattle.std.proofs.lemmas.List.{get_or-set_other, get_or-set_same, length-drop, length-take}
use Rattle.std.specs.Option.{option_or}
use Rattle.machine_lint.specs.Words.{bare_at, bare_before, comment_after, first_key, first_word, is_key_at, is_word_at, key_from, leads_on}
use Rattle.machine_lint.specs.inner.Sought.{AreNext, IsLink, Reaches, begins, none, nth, stepped}
use Rattle.machine_lint.specs.inner.Marks.{mark_at}
use Rattle.machine_lint.specs.declared.index.Mark.{Mark}
use Rattle.machine_lint.specs.declared.sought.next.Next.{Next}
use Rattle.std.proofs.lemmas.Slice.Eq.{bytes_eq-Decides}
use Rattle.machine_lint.proofs.Keys.{and-false, key-no-word}
use Rattle.machine_lint.proofs.Steps.{first-step}

module _ (text word : List ℕ) (at : ℕ) where
  pub word-here : begins word (drop at text) ≡ true → bare_at text (at + length word) ≡ false → bare_before text at ≡ false → is_word_at text word at ≡ true
  unfolding is_word_at
  word-here first end start = rw (first, end, start) refl

  pub word-longer : bare_at text (at + length word) ≡ true → is_word_at text word at ≡ false
  unfolding is_word_at
  word-longer more = rw more (ap (λ b. b && not (bare_before text at)) (and-false (begins word (drop at text))))

  pub word-inside : bare_before text at ≡ true → is_word_at text word at ≡ false
  unfolding is_word_at
  word-inside before = rw before (and-false (begins word (drop at text) && not (bare_at text (at + length word))))

  pub word-other : begins word (drop at text) ≡ false → is_word_at text word at ≡ false
  unfolding is_word_at
  word-other other = rw other refl

  pub step-none : (next : Next) → is_word_at text word at ≡ false → next ≡ stepped text word at next
  unfolding stepped
  step-none next fails = rw fails refl

  pub step-word : (next : Next) → is_word_at text word at ≡ true → is_key_at text word at ≡ false → ◌≡◌ {A = Next} record { key = next.key; word = Some at } (stepped text word at next)
  unfolding stepped
  step-word next there fails = rw (there, fails) refl

  pub step-key : (next : Next) → is_word_at text word at ≡ true → is_key_at text word at ≡ true → ◌≡◌ {A = Next} record { key = Some at; word = Some at } (stepped text word at next)
  unfolding stepped
  step-key next there passes = rw (there, passes) refl

  -- a word that stands here stands as a key does where it is led on in no comment
  pub key-here : (begun b : Bool) → is_word_at text word at ≡ true → begun ≡ comment_after false (take at text) → b ≡ (leads_on (drop (at + length word) text) && not begun) → is_key_at text word at ≡ b
  unfolding is_key_at
  key-here begun b there is led = rw (there, led, is) refl

  two-steps : (a b : Bool) → is_word_at text word at ≡ a → is_key_at text word at ≡ b → (next : Next) → stepped text word at (stepped text word at next) ≡ stepped text word at next
  unfolding stepped
  two-steps true true there passes next = rw (there, passes) refl
  two-steps true false there fails next = rw (there, fails) refl
  two-steps false b there is next = rw there refl

  pub step-twice : (next : Next) → stepped text word at (stepped text word at next) ≡ stepped text word at next
  step-twice next = two-steps (is_word_at text word at) (is_key_at text word at) refl refl next

-- a word that comes first in the rest of a text ends inside the text
pub begins-inside : (text word : List ℕ) (at : ℕ) → at ≤ length text → begins word (drop at text) ≡ true → at + length word ≤ length text
begins-inside text word at within first =
    let same : word ≡ take (length word) (drop at text) = (bytes_eq-Decides word (take (length word) (drop at text))).0 first in
    let size : length word ≡ min (length word) (length (drop at text)) = ap length same ∙ length-take (length word) (drop at text) in
    let left : length (drop at text) ≡ length text - at = length-drop at text in
    omega (arith, within, size, left)

cases_eq : (j k : ℕ) → (j ≡ k) ⊎ (j ≢ k)
cases_eq j k = elim (cases_order j k) [
  | inl same ↦ inl same
  | inr apart ↦ inr (elim apart [
    | inl low ↦ λ same. (let none : ⊥ = omega (arith, low, same) in none)
    | inr high ↦ λ same. (let none : ⊥ = omega (arith, high, same) in none)
  ])
]

-- some words are stepped, and the others are as they were and may still be reached
abbrev pub Each : List ℕ → ℕ → List (List ℕ) → List Next → List Next → Option ℕ → Type 0
Each text at words olds nexts now = (j : ℕ) → j < length words
    → (get_or nexts j none ≡ stepped text (nth words j) at (get_or olds j none))
    ⊎ ((get_or nexts j none ≡ get_or olds j none) × (begins (nth words j) (drop at text) ≡ true → Reaches words now j))

module _ (text : List ℕ) (at : ℕ) (words : List (List ℕ)) where
  abbrev Step : ℕ → Next → Next
  Step j next = stepped text (nth words j) at next

  same-step : (olds nexts : List Next) (k : ℕ) (link : Option ℕ) (b : Next)
      → (get_or nexts k none ≡ Step k (get_or olds k none)) ⊎ ((get_or nexts k none ≡ get_or olds k none) × (begins (nth words k) (drop at text) ≡ true → Reaches words (Some k) k))
      → b ≡ Step k (get_or nexts k none) → b ≡ Step k (get_or olds k none)
  same-step olds nexts k link b (inl done) is = is ∙ ap (Step k) done ∙ step-twice text (nth words k) at (get_or olds k none)
  same-step olds nexts k link b (inr still) is = is ∙ ap (Step k) still.0

  other-step : (olds nexts : List Next) (k j : ℕ) (link : Option ℕ) (b : Next) → j ≢ k → IsLink words k link
      → (get_or nexts j none ≡ Step j (get_or olds j none)) ⊎ ((get_or nexts j none ≡ get_or olds j none) × (begins (nth words j) (drop at text) ≡ true → Reaches words (Some k) j))
      → b ≡ get_or nexts j none
      → (b ≡ Step j (get_or olds j none)) ⊎ ((b ≡ get_or olds j none) × (begins (nth words j) (drop at text) ≡ true → Reaches words link j))
  other-step olds nexts k j link b apart linked (inl done) is = inl (is ∙ done)
  other-step olds nexts k j link b apart linked (inr still) is = inr (
    is ∙ still.0,
    λ first.
        let reached : (j ≤ k) × (begins (nth words j) (nth words k) ≡ true) = still.1 first in
        let low : j ≤ k = reached.0 in
        linked.1 j (omega (arith, low, apart)) reached.1,
  )

  pub each-more : (olds nexts news : List Next) (k : ℕ) (link : Option ℕ) → k < length words → length nexts ≡ length words → IsLink words k link
      → news ≡ set nexts k (Step k (get_or nexts k none)) → Each text at words olds nexts (Some k) → Each text at words olds news link
  each-more olds nexts news k link inside known linked is each j within = elim (cases_eq j k) [
    | inl same ↦
        let here : k < length nexts = rw known inside in
        let own : get_or news k none ≡ Step k (get_or nexts k none) = ap (λ l. get_or l k none) is ∙ get_or-set_same nexts k (Step k (get_or nexts k none)) none here in
        rw same (inl (same-step olds nexts k link (get_or news k none) (each k inside) own))
    | inr apart ↦
        other-step olds nexts k j link (get_or news j none) apart linked (each j within)
        (ap (λ l. get_or l j none) is ∙ get_or-set_other nexts k j (Step k (get_or nexts k none)) none apart)
  ]

  last-step : (olds nexts : List Next) (j : ℕ)
      → (get_or nexts j none ≡ Step j (get_or olds j none)) ⊎ ((get_or nexts j none ≡ get_or olds j none) × (begins (nth words j) (drop at text) ≡ true → ⊥))
      → get_or nexts j none ≡ Step j (get_or olds j none)
  last-step olds nexts j (inl done) = done
  last-step olds nexts j (inr still) =
      still.0 ∙ step-none text (nth words j) at (get_or olds j none) (word-other text (nth words j) at (false_from_ne_true (begins (nth words j) (drop at text)) still.1))

  pub each-done : (olds nexts : List Next) → Each text at words olds nexts None → (j : ℕ) → j < length words → get_or nexts j none ≡ Step j (get_or olds j none)
  each-done olds nexts each j within = last-step olds nexts j (each j within)

-- what is known from an offset on

module _ (text word : List ℕ) (at : ℕ) (below : at < length text) where
  abbrev From : ℕ → Next
  From from = record { key = first_key text word from; word = first_word text word from }

  key-step : (b : Bool) → is_key_at text word at ≡ b → first_key text word at ≡ cond b (Some at) (first_key text word (at + 1))
  key-step b is = first-step (is_key_at text word) at (length text) below ∙ ap (λ t. cond t (Some at) (first_key text word (at + 1))) is

  word-step : (b : Bool) → is_word_at text word at ≡ b → first_word text word at ≡ cond b (Some at) (first_word text word (at + 1))
  word-step b is = first-step (is_word_at text word) at (length text) below ∙ ap (λ t. cond t (Some at) (first_word text word (at + 1))) is

  from-steps : (a b : Bool) → is_word_at text word at ≡ a → is_key_at text word at ≡ b → stepped text word at (From (at + 1)) ≡ From at
  unfolding stepped
  from-steps true b there is = rw (there, is, key-step b is, word-step true there) refl
  from-steps false b there is =
      let fails : is_key_at text word at ≡ false = key-no-word text word at there in
      rw (there, key-step false fails, word-step false there) refl

  pub from-step : stepped text word at (From (at + 1)) ≡ From at
  from-step = from-steps (is_word_at text word at) (is_key_at text word at) refl refl

pub next-step : (text : List ℕ) (words : List (List ℕ)) (at : ℕ) (olds news : List Next) → at < length text → AreNext text words (at + 1) olds
    → ((j : ℕ) → j < length words → get_or news j none ≡ stepped text (nth words j) at (get_or olds j none)) → AreNext text words at news
next-step text words at olds news below are each j inside =
    each j inside ∙ ap (stepped text (nth words j) at) (are j inside) ∙ from-step text (nth words j) at below

pub answer-is : (text own word : List ℕ) (from at : ℕ) (next : Next) (r : Option Mark) → next ≡ record { key = first_key text own at; word = first_word text own at } → own ≡ word → from ≡ at
    → r ≡ option_map (mark_at text) (option_or next.key next.word) → r ≡ option_map (mark_at text) (key_from text word from)
unfolding key_from
answer-is text own word from at next r known spelled here is =
    is ∙ ap (λ (n : Next). option_map (mark_at text) (option_or n.key n.word)) known
    ∙ ap (λ w. option_map (mark_at text) (option_or (first_key text w at) (first_word text w at))) spelled
    ∙ ap (λ n. option_map (mark_at text) (option_or (first_key text word n) (first_word text word n))) (sym here)
