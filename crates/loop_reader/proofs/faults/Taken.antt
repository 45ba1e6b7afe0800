-- What a table of initial values holds.
use Rattle.std.proofs.Common.{◌≡◌, ℕ, zero, suc, ℤ, pos, ◌+◌, ◌*◌, ◌<◌, ◌≤◌, Bool, true, false, if◌then◌else◌, List, [], ◌∷◌, length, Some, None, is_some, IsTrue, not, refl, sym, ap, ◌∙◌, arith, get_or, set, replicate}
use Rattle.std.proofs.lemmas.Bool.{both_ways}
use Rattle.loop_reader.specs.inner.Checks.{values_taken, slot, IsTable}

pub length_taken : (taken : List Bool) (values : List ℤ) → length taken ≤ length values → length (values_taken taken values) ≡ length taken
length_taken [] values h = refl
length_taken (t ∷ ts) [] h = absurd (omega arith)
length_taken (t ∷ ts) (v ∷ vs) h = ap suc (length_taken ts vs (omega arith))

-- the value at a place
pub value_taken : (taken : List Bool) (values : List ℤ) (place : ℕ) (d : ℤ) → length taken ≤ length values
    → get_or (values_taken taken values) place None ≡ (if get_or taken place false then Some (get_or values place d) else None)
value_taken [] values place d h = refl
value_taken (t ∷ ts) [] place d h = absurd (omega arith)
value_taken (t ∷ ts) (v ∷ vs) zero d h = refl
value_taken (t ∷ ts) (v ∷ vs) (suc n) d h = value_taken ts vs n d (omega arith)

some-if : (b : Bool) (v : ℤ) → is_some (if b then Some v else None) ≡ b
some-if true v = refl
some-if false v = refl

pub some_taken : (taken : List Bool) (values : List ℤ) (place : ℕ) → length taken ≤ length values
    → is_some (get_or (values_taken taken values) place None) ≡ get_or taken place false
some_taken [] values place h = refl
some_taken (t ∷ ts) [] place h = absurd (omega arith)
some_taken (t ∷ ts) (v ∷ vs) zero h = some-if t v
some_taken (t ∷ ts) (v ∷ vs) (suc n) h = some_taken ts vs n (omega arith)

-- one more value
pub set_taken : (taken : List Bool) (values : List ℤ) (place : ℕ) (value : ℤ) → length taken ≤ length values
    → values_taken (set taken place true) (set values place value) ≡ set (values_taken taken values) place (Some value)
set_taken [] values place value h = refl
set_taken (t ∷ ts) [] place value h = absurd (omega arith)
set_taken (t ∷ ts) (v ∷ vs) zero value h = refl
set_taken (t ∷ ts) (v ∷ vs) (suc n) value h = ap (λ xs. (if t then Some v else None) ∷ xs) (set_taken ts vs n value (omega arith))

-- no value at any place
pub none_taken : (n : ℕ) (values : List ℤ) → n ≤ length values → values_taken (replicate n false) values ≡ replicate n None
none_taken zero values h = refl
none_taken (suc n) [] h = absurd (omega arith)
none_taken (suc n) (v ∷ vs) h = ap (λ xs. None ∷ xs) (none_taken n vs (omega arith))

-- no value in a row that is not marked
pub bare_row : (taken : List Bool) (values : List ℤ) (rows : List Bool) (row place : ℕ) → IsTable taken values rows → get_or rows row false ≡ false → place < 16
    → slot (values_taken taken values) row place ≡ None
bare_row taken values rows row place t h low =
    value_taken taken values (16 * row + place) (pos 0) t.room ∙ ap (λ b. if b then Some (get_or values (16 * row + place) (pos 0)) else None) (t.bare row place low h)

pub not-true : (b : Bool) → IsTrue (not b) → b ≡ false
not-true true h = absurd (both_ways true (sym h) refl)
not-true false h = refl
