-- Words passed over one by one.
use Rattle.std.proofs.Common.{◌≡◌, ℕ, zero, suc, ◌+◌, ◌-◌, ◌<◌, ◌||◌, Bool, true, false, cond, List, [], ◌∷◌, length, map, Option, Some, None, sym, ◌∙◌, ap, arith, leb}
use Rattle.loop_lines.specs.Forms.{int_of}
use Rattle.loop_lint.specs.Misfits.{fits, places_misfit}
use Rattle.loop_lint.specs.Parts.{cell_parts, first_part, is_over, is_wide_int}
use Rattle.loop_lines.specs.Columns.{Placed, column_after}
use Rattle.loop_lint.specs.Words.{spot_from}
use Rattle.loop_lint.specs.declared.fits.Expected.{Expected}
use Rattle.loop_lint.specs.declared.fits.Expected.TheVariants as expected
use Rattle.loop_lint.specs.declared.spots.Spot.{Spot}

pub spot_here : (column left : ℕ) (words rest : List Placed) (w : Placed) (spot : Spot) → words ≡ w ∷ rest → left ≡ 0 → spot_from column words left ≡ spot
    → record { column = w.column; width = length w.bytes } ≡ spot
spot_here column left words rest w spot h z e = sym (ap (λ ws. spot_from column ws left) h ∙ ap (spot_from column (w ∷ rest)) z) ∙ e

pub spot_next : (column left : ℕ) (words rest : List Placed) (w : Placed) (spot : Spot) → words ≡ w ∷ rest → 0 < left → spot_from column words left ≡ spot
    → spot_from (column_after w) rest (left - 1) ≡ spot
spot_next column zero words rest w spot h some e = absurd (omega arith)
spot_next column (suc left) words rest w spot h some e =
    let less : suc left - 1 ≡ left = omega arith in
    ap (spot_from (column_after w) rest) less ∙ sym (ap (λ ws. spot_from column ws (suc left)) h) ∙ e

pub spot_none : (column left : ℕ) (words : List Placed) (spot : Spot) → words ≡ [] → spot_from column words left ≡ spot → record { column = column; width = 0 } ≡ spot
spot_none column left words spot h e = sym (ap (λ ws. spot_from column ws left) h) ∙ e

-- places

pub place_next : (number : ℕ) (what : Expected) (more : List Expected) (words rest : List (List ℕ)) (word : List ℕ) (all : ℕ) → words ≡ word ∷ rest → fits what word ≡ true
    → places_misfit number (what ∷ more) words ≡ all → places_misfit (number + 1) more rest ≡ all
place_next number what more words rest word all h f e =
    sym (ap (places_misfit number (what ∷ more)) h ∙ ap (λ b. cond b (places_misfit (number + 1) more rest) number) f) ∙ e

pub place_other : (number : ℕ) (what : Expected) (more : List Expected) (words rest : List (List ℕ)) (word : List ℕ) (all : ℕ) → words ≡ word ∷ rest → fits what word ≡ false
    → places_misfit number (what ∷ more) words ≡ all → number ≡ all
place_other number what more words rest word all h f e =
    sym (ap (places_misfit number (what ∷ more)) h ∙ ap (λ b. cond b (places_misfit (number + 1) more rest) number) f) ∙ e

pub place_none : (number : ℕ) (what : Expected) (more : List Expected) (words : List (List ℕ)) (all : ℕ) → words ≡ [] → places_misfit number (what ∷ more) words ≡ all → number ≡ all
place_none number what more words all h e = sym (ap (places_misfit number (what ∷ more)) h) ∙ e

-- an integer for each word
abbrev pub integers : List (List ℕ) → List Expected
integers words = map (λ (w : List ℕ). expected.Integer) words

pub integer_next : (number : ℕ) (words rest : List (List ℕ)) (word : List ℕ) (all : ℕ) → words ≡ word ∷ rest → fits expected.Integer word ≡ true
    → places_misfit number (integers words) words ≡ all → places_misfit (number + 1) (integers rest) rest ≡ all
integer_next number words rest word all h f e =
    sym (ap (λ ws. places_misfit number (integers ws) ws) h ∙ ap (λ b. cond b (places_misfit (number + 1) (integers rest) rest) number) f) ∙ e

pub integer_other : (number : ℕ) (words rest : List (List ℕ)) (word : List ℕ) (all : ℕ) → words ≡ word ∷ rest → fits expected.Integer word ≡ false
    → places_misfit number (integers words) words ≡ all → number ≡ all
integer_other number words rest word all h f e =
    sym (ap (λ ws. places_misfit number (integers ws) ws) h ∙ ap (λ b. cond b (places_misfit (number + 1) (integers rest) rest) number) f) ∙ e

pub integer_none : (number : ℕ) (words : List (List ℕ)) (all : ℕ) → words ≡ [] → places_misfit number (integers words) words ≡ all → number ≡ all
integer_none number words all h e = sym (ap (λ ws. places_misfit number (integers ws) ws) h) ∙ e

-- cells

cell-test : (number : ℕ) (word : List ℕ) (rest : List (List ℕ)) (b : Bool) → (is_wide_int (int_of word) || leb 1024 number) ≡ b
    → first_part is_over (cell_parts number (word ∷ rest)) ≡ cond b (Some (number + 3)) (first_part is_over (cell_parts (number + 1) rest))
cell-test number word rest b h = ap (λ t. cond t (Some (number + 3)) (first_part is_over (cell_parts (number + 1) rest))) h

pub cell_wide : (number : ℕ) (words rest : List (List ℕ)) (word : List ℕ) (all : Option ℕ) → words ≡ word ∷ rest → (is_wide_int (int_of word) || leb 1024 number) ≡ true
    → first_part is_over (cell_parts number words) ≡ all → Some (number + 3) ≡ all
cell_wide number words rest word all h w e = sym (ap (λ ws. first_part is_over (cell_parts number ws)) h ∙ cell-test number word rest true w) ∙ e

pub cell_next : (number : ℕ) (words rest : List (List ℕ)) (word : List ℕ) (all : Option ℕ) → words ≡ word ∷ rest → (is_wide_int (int_of word) || leb 1024 number) ≡ false
    → first_part is_over (cell_parts number words) ≡ all → first_part is_over (cell_parts (number + 1) rest) ≡ all
cell_next number words rest word all h w e = sym (ap (λ ws. first_part is_over (cell_parts number ws)) h ∙ cell-test number word rest false w) ∙ e

pub cell_none : (number : ℕ) (words : List (List ℕ)) (all : Option ℕ) → words ≡ [] → first_part is_over (cell_parts number words) ≡ all → None ≡ all
cell_none number words all h e = sym (ap (λ ws. first_part is_over (cell_parts number ws)) h) ∙ e

-- where no word is left
pub places_done : (number : ℕ) (places : List Expected) (words : List (List ℕ)) (all : ℕ) → words ≡ [] → places_misfit number places words ≡ all → number ≡ all
places_done number [] words all h e = e
places_done number (what ∷ more) words all h e = place_none number what more words all h e
