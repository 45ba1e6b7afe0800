-- Whether a word stands as a key does, and comments.
use Rattle.std.proofs.Common.{◌≡◌, ℕ, ◌+◌, ◌<◌, ◌==◌, ◌||◌, ◌&&◌, Bool, true, false, if◌then◌else◌, List, [], ◌∷◌, ◌++◌, length, take, get_or, refl, sym, ap, ◌∙◌}
use Rattle.std.proofs.lemmas.List.{take_more}
use Rattle.machine_lint.specs.Words.{comment_after, is_key_at, is_word_at}

pub and-false : (b : Bool) → (b && false) ≡ false
and-false true = refl
and-false false = refl

-- whether a byte is in a comment or ends one, by whether the byte before it is in one
abbrev pub commented : Bool → ℕ → Bool
commented begun c = if c == 10 then false else begun || (c == 35)

comment-push : (begun : Bool) (xs : List ℕ) (c : ℕ) → comment_after begun (xs ++ c ∷ []) ≡ commented (comment_after begun xs) c
comment-push begun [] c = refl
comment-push begun (x ∷ xs) c = comment-push (commented begun x) xs c

pub comment-more : (text : List ℕ) (at : ℕ) (begun : Bool) → at < length text → begun ≡ comment_after false (take at text) → commented begun (get_or text at 0) ≡ comment_after false (take (at + 1) text)
comment-more text at begun below is =
    ap (λ b. commented b (get_or text at 0)) is ∙ sym (ap (comment_after false) (take_more text at 0 below) ∙ comment-push false (take at text) (get_or text at 0))

pub key-no-word : (text word : List ℕ) (at : ℕ) → is_word_at text word at ≡ false → is_key_at text word at ≡ false
unfolding is_key_at
key-no-word text word at fails = rw fails refl
