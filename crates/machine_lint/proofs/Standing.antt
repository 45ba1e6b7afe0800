-- Where the bytes of a text stand, with those of one more.
use Rattle.std.proofs.Common.{◌≡◌, ℕ, ◌+◌, ◌<◌, ◌≤◌, suc, cond, set, Bool, false, List, [], ◌∷◌, ◌++◌, length, drop, take, get_or, inl, inr, refl, sym, ap, ◌∙◌, arith}
use Rattle.std.proofs.Math.ListN.{get_or-append}
use Rattle.std.proofs.Math.Seq.{drop-cons, get_or-append_seam}
use Rattle.std.proofs.lemmas.Bool.{cases_lt}
use Rattle.std.proofs.lemmas.List.{get_or_default, get_or-set_other, get_or-set_same}
use Rattle.machine_lint.specs.Places.{place_at}
use Rattle.machine_lint.specs.Words.{comment_after, is_blank, is_mark, leads_on}
use Rattle.machine_lint.specs.declared.place.Place.{Place}
use Rattle.machine_lint.specs.declared.sought.stands.Stand.{Stand}

abbrev StandAt : List ℕ → ℕ → Stand
StandAt text at = record { place = place_at text at; begun = comment_after false (take at text) }

abbrev Standing : Place → Bool → Stand
Standing place begun = record { place = place; begun = begun }

pub stand-more : (text : List ℕ) (olds news : List Stand) (n : ℕ) (place : Place) (begun : Bool) → news ≡ olds ++ Standing place begun ∷ [] → length olds ≡ n
    → ((at : ℕ) (d : Stand) → at < n → get_or olds at d ≡ StandAt text at) → place ≡ place_at text n → begun ≡ comment_after false (take n text)
    → (at : ℕ) (d : Stand) → at < n + 1 → get_or news at d ≡ StandAt text at
stand-more text olds news n place begun is size are placed commented at d inside = elim (cases_lt at n) [
  | inl below ↦
      let here : at < length olds = omega (arith, size, below) in
      ap (λ l. get_or l at d) is ∙ get_or-append olds (Standing place begun ∷ []) d at here ∙ are at d below
  | inr after ↦
      let end : at ≡ length olds = omega (arith, size, inside, after) in
      let last : at ≡ n = end ∙ size in
      let own : Standing place begun ≡ StandAt text n = rw (placed, commented) refl in
      ap (λ l. get_or l at d) is ∙ ap (λ k. get_or (olds ++ Standing place begun ∷ []) k d) end ∙ get_or-append_seam olds (Standing place begun) [] d ∙ own ∙ ap (StandAt text) (sym last)
]

-- for each offset from one on, whether a text leads on, with the offset before

pub lead-more : (text : List ℕ) (olds : List Bool) (at : ℕ) (b next : Bool) → at < length text → length olds ≡ length text + 1
    → ((k : ℕ) → at + 1 ≤ k → k ≤ length text → get_or olds k false ≡ leads_on (drop k text)) → b ≡ cond (is_blank (get_or text at 0)) next (is_mark (get_or text at 0))
    → next ≡ get_or olds (at + 1) next
    → (k : ℕ) → at ≤ k → k ≤ length text → get_or (set olds at b) k false ≡ leads_on (drop k text)
lead-more text olds at b next below size are is known k low high = elim (cases_lt at k) [
  | inl after ↦ get_or-set_other olds at k b false (λ same. (let none : ⊥ = omega (arith, after, same) in none)) ∙ are k (omega (arith, after)) high
  | inr before ↦
      let same : k ≡ at = omega (arith, low, before) in
      let here : at < length olds = omega (arith, below, size) in
      let after : at + 1 ≡ suc at = omega arith in
      let default = get_or_default olds (at + 1) next false (omega (arith, below, size)) in
      rw same (
      get_or-set_same olds at b false here ∙ is
      ∙ ap (λ n. cond (is_blank (get_or text at 0)) n (is_mark (get_or text at 0))) (known ∙ default ∙ are (at + 1) (omega arith) (omega (arith, below)) ∙ ap (λ n. leads_on (drop n text)) after)
      ∙ sym (ap leads_on (drop-cons text at 0 below))
      )
]
