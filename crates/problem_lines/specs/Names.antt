-- Names in a problem text.
use Rattle.std.specs.Prelude.{ℕ, ◌==◌, ◌&&◌, ◌||◌, not, nat_lt, nat_le, Bool, if◌then◌else◌, List, length}
use Rattle.std.specs.List.{list_all, list_any, before_first, after_first}
use Rattle.machine_data.specs.declared.limits.TheConstants.{MAX_LABEL}
use Rattle.loop_lines.specs.Forms.{is_number}

-- a byte of printable ASCII, but not `#`
abbrev pub is_printable : ℕ → Bool
is_printable c = nat_le 33 c && nat_le c 126 && not (c == 35)

-- 1 to MAX_LABEL such bytes
abbrev pub is_name : List ℕ → Bool
is_name word = nat_lt 0 (length word) && nat_le (length word) MAX_LABEL && list_all is_printable word

abbrev pub is_at : ℕ → Bool
is_at c = c == 64

-- a unit's name has no `@` and no `|`
abbrev pub is_sign : ℕ → Bool
is_sign c = is_at c || (c == 124)

abbrev pub is_unit_name : List ℕ → Bool
is_unit_name word = is_name word && not (list_any is_sign word)

-- UNIT, or UNIT@NUM
abbrev pub is_hold : List ℕ → Bool
is_hold word =
    if list_any is_at word then is_unit_name (before_first is_at word) && is_number (after_first is_at word)
    else is_unit_name word
