-- Where a word has an `@`.
use Rattle.std.proofs.Common.{◌≡◌, ◌==◌, ℕ, ◌<◌, Bool, true, false, List, [], ◌∷◌, length, refl}
use Rattle.std.proofs.lemmas.Bool.{and_parts, ne_eqb}
use Rattle.std.proofs.lemmas.List.Sums.{passes_at_first}
use Rattle.std.proofs.lemmas.List.Folds.{list_any_at}
use Rattle.std.specs.List.{list_all, list_any, position_or_len}
use Rattle.loop_data.specs.Names.{is_letter, is_name, is_name_byte, starts_name}

-- a byte that stands somewhere is there
pub any_there : (p : ℕ → Bool) (xs : List ℕ) → position_or_len p xs < length xs → list_any p xs ≡ true
any_there p xs h = list_any_at p xs (position_or_len p xs) 0 h (passes_at_first p xs 0 h)

pub none_at : (c : ℕ) → is_name_byte c ≡ true → (c == 64) ≡ false
none_at c h = ne_eqb c 64 (λ e. let at : is_name_byte 64 ≡ true = rw e at h in cc)

pub no_at : (cs : List ℕ) → list_all is_name_byte cs ≡ true → list_any (λ c. c == 64) cs ≡ false
no_at [] h = refl
no_at (c ∷ cs) h =
    let parts = and_parts (is_name_byte c) (list_all is_name_byte cs) h in
    rw (none_at c parts.0, no_at cs parts.1) refl

pub name_bytes : (word : List ℕ) → starts_name word ≡ true → list_all is_name_byte word ≡ true
name_bytes [] h = refl
name_bytes (c ∷ cs) h =
    let parts = and_parts (is_letter c) (list_all is_name_byte cs) h in
    rw (parts.0, parts.1) refl

pub name_starts : (word : List ℕ) → is_name word ≡ true → starts_name word ≡ true
unfolding is_name
name_starts word h = (and_parts (starts_name word) _ h).0
