-- Words that are sought in a text, in their order, and what is known of each: the first offsets at which it stands.
use Rattle.std.specs.Prelude.{◌≡◌, ℕ, ◌+◌, ◌<◌, ◌≤◌, ◌^◌, Bool, true, false, if◌then◌else◌, List, [], drop, length, map, take, Option, Some, None, IfSome, get_or}
use Rattle.std.specs.Borrow.{Bor}
use Rattle.std.specs.Cmp.Lexicographic.{slice_cmp}
use Rattle.std.specs.Option.{option_map}
use Rattle.std.specs.Ordering.{nat_cmp}
use Rattle.std.specs.declared.cmp.Ordering.TheVariants.{Less}
use Rattle.machine_data.specs.Opcodes.{same_word}
use Rattle.machine_lint.specs.Words.{comment_after, first_key, first_word, is_key_at, is_word_at, key_from, leads_on}
use Rattle.machine_lint.specs.Places.{place_at}
use Rattle.machine_lint.specs.inner.Marks.{mark_at}
use Rattle.machine_lint.specs.declared.sought.answers.Answer.{Answer}
use Rattle.machine_lint.specs.declared.sought.answers.Known.{Known}
use Rattle.machine_lint.specs.declared.sought.next.Next.{Next}
use Rattle.machine_lint.specs.declared.sought.stands.Stand.{Stand}

-- a word comes first in a text
abbrev pub begins : List ℕ → List ℕ → Bool
begins word text = same_word word (take (length word) text)

abbrev pub texts : List (Bor (List ℕ)) → List (List ℕ)
texts words = map (λ w. w.now) words

abbrev pub nth : List (List ℕ) → ℕ → List ℕ
nth words i = get_or words i []

-- each word is below those after it
abbrev pub Ascends : List (List ℕ) → Type 0
Ascends words = (i j : ℕ) → i < j → j < length words → slice_cmp nat_cmp (nth words i) (nth words j) ≡ Less

-- the word with a number is the other one, or comes first in it and before it
abbrev pub Reaches : List (List ℕ) → Option ℕ → ℕ → Type 0
Reaches words None j = ⊥
Reaches words (Some k) j = (j ≤ k) × (begins (nth words j) (nth words k) ≡ true)

-- the last word before a word that comes first in it
abbrev pub IsLink : List (List ℕ) → ℕ → Option ℕ → Type 0
IsLink words i link =
    IfSome link (λ k. (k < i) × (begins (nth words k) (nth words i) ≡ true))
    × ((j : ℕ) → j < i → begins (nth words j) (nth words i) ≡ true → Reaches words link j)

abbrev pub AreLinks : List (List ℕ) → List (Option ℕ) → Type 0
AreLinks words links = (i : ℕ) → i < length links → IsLink words i (get_or links i None)

-- for each offset, whether a text from there on leads on as after a key
abbrev pub AreLeads : List ℕ → List Bool → Type 0
AreLeads text leads = (at : ℕ) → at ≤ length text → get_or leads at false ≡ leads_on (drop at text)

-- for each offset, where its byte stands
abbrev pub AreStands : List ℕ → List Stand → Type 0
AreStands text stands = (at : ℕ) (d : Stand) → at < length text → get_or stands at d ≡ record { place = place_at text at; begun = comment_after false (take at text) }

-- what is found of a text and of words is right
pub record IsKnown (known : Known) : Type 0 where
  pub short : length known.text.now < 2 ^ 32
  pub stands : AreStands known.text.now known.stands.now
  pub stood : length known.stands.now ≡ length known.text.now
  pub leads : AreLeads known.text.now known.leads.now
  pub led : length known.leads.now ≡ length known.text.now + 1
  pub ascends : Ascends (texts known.words.now)
  pub links : AreLinks (texts known.words.now) known.links.now
  pub linked : length known.links.now ≡ length known.words.now

-- what is known of a word from an offset on, by what is known from the next one on
unfoldable pub stepped : List ℕ → List ℕ → ℕ → Next → Next
stepped text word at next =
    if is_word_at text word at then record { key = if is_key_at text word at then Some at else next.key; word = Some at } else next

abbrev pub none : Next
none = record { key = None; word = None }

-- what is known of each word from an offset on
abbrev pub AreNext : List ℕ → List (List ℕ) → ℕ → List Next → Type 0
AreNext text words at nexts = (j : ℕ) → j < length words → get_or nexts j none ≡ record { key = first_key text (nth words j) at; word = first_word text (nth words j) at }

-- an answer is right
abbrev pub IsAnswer : List ℕ → Answer → Type 0
IsAnswer text answer = IfSome answer.mark (λ mark. mark ≡ option_map (mark_at text) (key_from text answer.word.now answer.from))
