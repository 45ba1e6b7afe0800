-- The statements that touch each array are linked from the last one to the first.
use Rattle.std.proofs.Common.{◌≡◌, ℕ, ◌+◌, ◌<◌, ◌≤◌, List, length, set, refl, sym, ap, ◌∙◌, subst, inl, inr, arith, get_or-set_other, get_or-set_same, Some, None}
use Rattle.std.specs.List.{slice_index, slice_get}
use Rattle.std.proofs.lemmas.Bool.{cases_lt, cases_eq}
use Rattle.std.proofs.lemmas.Option.{slice_get_within}
use Rattle.loop_data.specs.declared.language.statement.Statement.{Statement}
use Rattle.loop_data.specs.declared.language.statement.Place.{Place}
use Rattle.edges.specs.Edges.{EdgeData}
use Rattle.graph.specs.Subscripts.{HasMeetings}
use Rattle.graph.specs.inner.SameArrays.{Skips, IsLink, IsNextTouch, AreLinked}

-- one statement more that does not touch the array
skips-less : (statements : List Statement) (array i op j : ℕ) → i + 1 ≡ op
    → ((s : Statement) (place : Place) → slice_get statements i ≡ Some s → s.place ≡ Some place → place.array ≡ array → ⊥)
    → Skips statements array op j → Skips statements array i j
skips-less statements array i op j at none skips = λ k s place from to is has touches. elim (cases_eq k i) [
  | inl here ↦ none s place (subst (λ n. slice_get statements n ≡ Some s) here is) has touches
  | inr other ↦ skips k s place (omega arith) to is has touches
]

link-less : (statements : List Statement) (array i op j : ℕ) → i + 1 ≡ op
    → ((s : Statement) (place : Place) → slice_get statements i ≡ Some s → s.place ≡ Some place → place.array ≡ array → ⊥)
    → IsLink statements array op j → IsLink statements array i j
link-less statements array i op j at none link =
    let following : op ≤ j = link.following in
    record { following = omega arith; skips = skips-less statements array i op j at none link.skips; touches = link.touches }

pub linked_end : (statements : List Statement) (op : ℕ) (first next : List ℕ) → op ≡ length statements
    → ((array : ℕ) → array < 256 → slice_index first array ≡ op) → AreLinked statements op first next
linked_end statements op first next end all = record {
  first_of = λ array below. (let e : slice_index first array ≡ op = all array below in record {
    following = omega arith;
    skips = λ k s place from to is has touches. omega arith;
    touches = λ s is. absurd (let within : slice_index first array < length statements = slice_get_within statements (slice_index first array) s is in omega arith);
  });
  next_of = λ k from s place is has. absurd (let within : k < length statements = slice_get_within statements k s is in omega arith);
}

-- a statement without a place
pub linked-passed : (statements : List Statement) (i op : ℕ) (first next : List ℕ) (s : Statement) → i + 1 ≡ op → slice_get statements i ≡ Some s → s.place ≡ None
    → AreLinked statements op first next → AreLinked statements i first next
linked-passed statements i op first next s at is none linked =
    let other : (t : Statement) (place : Place) → slice_get statements i ≡ Some t → t.place ≡ Some place → ⊥
    = λ t place got has. (let both : Some s ≡ Some t = sym is ∙ got in
    let same : s ≡ t = cc in
    let wrong : None ≡ Some place = sym none ∙ ap (λ (x : Statement). x.place) same ∙ has in cc) in
    record {
      first_of = λ array below. link-less statements array i op (slice_index first array) at (λ t place got has touches. other t place got has) (linked.first_of array below);
      next_of = λ k from. elim (cases_eq k i) [
        | inl here ↦ λ t place got has. absurd (other t place (subst (λ n. slice_get statements n ≡ Some t) here got) has)
        | inr later ↦ linked.next_of k (omega arith)
      ];
    }

-- a statement that touches an array is the first one now, and the one that was the first is next
pub linked-more : (statements : List Statement) (i op : ℕ) (first next : List ℕ) (s : Statement) (place : Place) → i + 1 ≡ op → slice_get statements i ≡ Some s
    → s.place ≡ Some place → place.array < 256 → length first ≡ 256 → i < length next → AreLinked statements op first next
    → AreLinked statements i (set first place.array i) (set next i (slice_index first place.array))
linked-more statements i op first next s place at is has few long within linked =
    let same : (t : Statement) → slice_get statements i ≡ Some t → s ≡ t = λ t got. (let both : Some s ≡ Some t = sym is ∙ got in cc) in
    let same_place : (t : Statement) (other : Place) → slice_get statements i ≡ Some t → t.place ≡ Some other → other ≡ place
    = λ t other got holds. (let places : Some place ≡ Some other = sym has ∙ ap (λ (x : Statement). x.place) (same t got) ∙ holds in cc) in
    let here_link : IsLink statements place.array i i = record {
      following = omega arith;
      skips = λ k t other from to got holds touches. omega arith;
      touches = λ t got. (place, sym (ap (λ (x : Statement). x.place) (same t got)) ∙ has, refl);
    } in
    record {
      first_of = λ array below. elim (cases_eq array place.array) [
        | inl here ↦ subst (λ n. IsLink statements n i (slice_index (set first place.array i) n)) (sym here)
            (subst (IsLink statements place.array i) (sym (get_or-set_same first place.array i 0 (omega arith))) here_link)
        | inr far ↦ subst (IsLink statements array i) (sym (get_or-set_other first place.array array i 0 far))
            (link-less statements array i op (slice_index first array) at
            (λ t other got holds touches. far (sym touches ∙ ap (λ (x : Place). x.array) (same_place t other got holds))) (linked.first_of array below))
      ];
      next_of = λ k from. elim (cases_eq k i) [
        | inl here ↦ subst (λ n. IsNextTouch statements n (slice_index (set next i (slice_index first place.array)) n)) (sym here)
            (λ t other got holds. subst (IsLink statements other.array (i + 1)) (sym (get_or-set_same next i (slice_index first place.array) 0 within))
            (subst (λ n. IsLink statements other.array n (slice_index first place.array)) (sym at)
            (subst (λ (x : Place). IsLink statements x.array op (slice_index first place.array)) (sym (same_place t other got holds)) (linked.first_of place.array few))))
        | inr later ↦ subst (IsNextTouch statements k) (sym (get_or-set_other next i k (slice_index first place.array) 0 later)) (linked.next_of k (omega arith))
      ];
    }

-- no statement that is skipped meets the operation
pub meetings-skipped : (statements : List Statement) (latencies : List ℕ) (to i j : ℕ) (second : Statement) (later : Place) (list : List EdgeData)
    → slice_get statements to ≡ Some second → second.place ≡ Some later → Skips statements later.array i j
    → HasMeetings statements latencies to i list → HasMeetings statements latencies to j list
meetings-skipped statements latencies to i j second later list there has skips h = λ e to_is below meets. elim (cases_lt e.from i) [
  | inl before ↦ h e to_is before meets
  | inr after ↦ (let both : Some meets.second ≡ Some second = sym meets.is_second ∙ ap (slice_get statements) to_is ∙ there in
      let same : meets.second ≡ second = cc in
      let places : Some meets.edge.later ≡ Some later = sym meets.edge.is_later ∙ ap (λ (x : Statement). x.place) same ∙ has in
      let place : meets.edge.later ≡ later = cc in
      absurd (skips e.from meets.first meets.edge.place after below meets.is_first meets.edge.is_place (meets.edge.same_array ∙ ap (λ (x : Place). x.array) place)))
]

-- the next statement that touches the array of one that touches it
pub next-link : (statements : List Statement) (first next : List ℕ) (array k : ℕ) (s : Statement) → AreLinked statements 0 first next → slice_get statements k ≡ Some s
    → (place : Place) × (s.place ≡ Some place) × (place.array ≡ array) → IsLink statements array (k + 1) (slice_index next k)
next-link statements first next array k s linked is touches =
    subst (λ n. IsLink statements n (k + 1) (slice_index next k)) touches.2 (linked.next_of k (omega arith) s touches.0 is touches.1)

-- what touches the array of a statement's place touches that of each place of it
pub touches-also : (statements : List Statement) (second : Statement) (place : Place) (link : ℕ) → second.place ≡ Some place
    → ((s : Statement) → slice_get statements link ≡ Some s → (p : Place) × (s.place ≡ Some p) × (p.array ≡ place.array))
    → (later : Place) → second.place ≡ Some later → (s : Statement) → slice_get statements link ≡ Some s → (p : Place) × (s.place ≡ Some p) × (p.array ≡ later.array)
touches-also statements second place link has touches later holds =
    let both : Some place ≡ Some later = sym has ∙ holds in
    let same : place ≡ later = cc in
    subst (λ (x : Place). (s : Statement) → slice_get statements link ≡ Some s → (p : Place) × (s.place ≡ Some p) × (p.array ≡ x.array)) same touches
