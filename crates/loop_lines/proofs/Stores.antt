-- A `store` by the parts of its line.
use Rattle.std.proofs.Common.{◌≡◌, ℕ, Bool, true, false, cond, List, [], ◌∷◌, ◌++◌, map, Option, Some, None, option_to_list, refl, sym, codes}
use Rattle.machine_data.specs.Opcodes.{same_word}
use Rattle.loop_lines.specs.Forms as spec
use Rattle.loop_lines.specs.Forms.{Malformed, place_of, store_line, store_of, use_of, uses_of, with_use}
use Rattle.loop_lines.specs.Parsed.{guard_of, use_seen}
use Rattle.loop_lines.specs.declared.form.Use.{Use}

-- a value without the uses after it, or no use at all, is no line
pub no_guard : (place : Option spec.Subscript) (value : Option spec.Use) → store_of place (with_use value None) ≡ Malformed
no_guard None value = refl
no_guard (Some place) None = refl
no_guard (Some place) (Some value) = refl

pub no_uses : (place : Option spec.Subscript) → store_of place None ≡ Malformed
no_uses None = refl
no_uses (Some place) = refl

guarded : (place : Option spec.Subscript) (value : Option spec.Use) (guard : Option (List spec.Use)) (b : Bool) → cond b (store_of place (with_use value guard)) Malformed ≡ store_of place (with_use value (cond b guard None))
guarded place value guard true = refl
guarded place value guard false = sym (no_guard place value)

-- a line of two words or more
pub store_by_parts : (place value : List ℕ) (words : List (List ℕ)) → store_line (place ∷ value ∷ words) ≡ store_of (place_of place) (with_use (use_of value) (guard_of words))
store_by_parts place value [] = refl
store_by_parts place value (word ∷ []) = sym (no_guard (place_of place) (use_of value))
store_by_parts place value (word ∷ guard ∷ []) = guarded (place_of place) (use_of value) (uses_of (guard ∷ [])) (same_word word (codes "if"))
store_by_parts place value (word ∷ guard ∷ other ∷ words) = sym (no_guard (place_of place) (use_of value))

-- the third use, which is none
pub last_nothing : (guard : Option Use) → map use_seen (option_to_list guard) ≡ map use_seen (option_to_list guard ++ [])
last_nothing None = refl
last_nothing (Some guard) = refl
