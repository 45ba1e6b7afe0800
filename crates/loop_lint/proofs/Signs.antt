-- Where a word has a byte.
use Rattle.std.proofs.Common.{◌≡◌, ◌==◌, ℕ, ◌<◌, ◌≤◌, Bool, true, false, List, [], ◌∷◌, length, refl, arith}
use Rattle.std.proofs.lemmas.List.Sums.{passes_at_first}
use Rattle.std.proofs.lemmas.List.Folds.{list_any_at}
use Rattle.std.specs.List.{list_any, position_or_len}

pub any_there : (byte : ℕ) (word : List ℕ) (end : ℕ) → end ≡ position_or_len (λ c. c == byte) word → end < length word → list_any (λ c. c == byte) word ≡ true
any_there byte word end e h =
    let lt : position_or_len (λ c. c == byte) word < length word = omega arith in
    list_any_at (λ c. c == byte) word (position_or_len (λ c. c == byte) word) 0 lt (passes_at_first (λ c. c == byte) word 0 lt)

none-at : (p : ℕ → Bool) (c : ℕ) (cs : List ℕ) (b : Bool) → p c ≡ b → (length cs ≤ position_or_len p cs → list_any p cs ≡ false) → length (c ∷ cs) ≤ position_or_len p (c ∷ cs) → list_any p (c ∷ cs) ≡ false
none-at p c cs true e ih h = let none = rw e at h in absurd (omega arith)
none-at p c cs false e ih h = let more = rw e at h in rw (e, ih (omega arith)) refl

none : (p : ℕ → Bool) (word : List ℕ) → length word ≤ position_or_len p word → list_any p word ≡ false
none p [] h = refl
none p (c ∷ cs) h = none-at p c cs (p c) refl (none p cs) h

pub none_there : (byte : ℕ) (word : List ℕ) (end : ℕ) → end ≡ position_or_len (λ c. c == byte) word → length word ≤ end → list_any (λ c. c == byte) word ≡ false
none_there byte word end e h = none (λ c. c == byte) word (omega arith)
