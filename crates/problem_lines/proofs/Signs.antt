-- Where a word has an `@`.
use Rattle.std.proofs.Common.{◌≡◌, ℕ, ◌<◌, ◌≤◌, Bool, true, false, List, [], ◌∷◌, length, refl, arith}
use Rattle.std.proofs.lemmas.List.Sums.{passes_at_first}
use Rattle.std.proofs.lemmas.List.Folds.{list_any_at}
use Rattle.std.specs.List.{list_any, position_or_len}
use Rattle.problem_lines.specs.Names.{is_at}

pub any_there : (word : List ℕ) (end : ℕ) → end ≡ position_or_len is_at word → end < length word → list_any is_at word ≡ true
any_there word end e h = let lt : position_or_len is_at word < length word = omega arith in list_any_at is_at word (position_or_len is_at word) 0 lt (passes_at_first is_at word 0 lt)

none-at : (c : ℕ) (cs : List ℕ) (b : Bool) → is_at c ≡ b → (length cs ≤ position_or_len is_at cs → list_any is_at cs ≡ false) → length (c ∷ cs) ≤ position_or_len is_at (c ∷ cs) → list_any is_at (c ∷ cs) ≡ false
none-at c cs true e ih h = let none = rw e at h in absurd (omega arith)
none-at c cs false e ih h = let more = rw e at h in rw (e, ih (omega arith)) refl

none : (word : List ℕ) → length word ≤ position_or_len is_at word → list_any is_at word ≡ false
none [] h = refl
none (c ∷ cs) h = none-at c cs (is_at c) refl (none cs) h

pub none_there : (word : List ℕ) (end : ℕ) → end ≡ position_or_len is_at word → length word ≤ end → list_any is_at word ≡ false
none_there word end e h = none word (omega arith)
