-- The cells of an array before a run, by what is written for it.
use Rattle.std.proofs.Common.{◌≡◌, ℕ, ℤ, pos, ◌+◌, ◌-◌, ◌<◌, ◌≤◌, List, [], ◌++◌, length, get_or, replicate, take, refl, sym, ◌∙◌, arith}
use Rattle.std.proofs.lemmas.List.{get_or_append_left, get_or-append_right, get_or-map, get_or-replicate, get_or-take, length-replicate}
use Rattle.loop_data.specs.declared.language.lists.Array.{Array}
use Rattle.loop_data.specs.Loops.{LoopData}
use Rattle.loop_data.specs.Run.{opening_cells, opening_of}

-- before cell 0
pub kept-before : (trip i : ℕ) (written : List ℤ) → i < 64 → pos 0 ≡ get_or (opening_cells trip written) i (pos 0)
kept-before trip i written low =
    sym (get_or_append_left (replicate 64 (pos 0)) (take (trip + 64) (written ++ replicate (trip + 64) (pos 0))) (pos 0) i (omega (arith, length-replicate 64 (pos 0)))
    ∙ get_or-replicate 64 i (pos 0) (pos 0) low)

from-0 : (trip i : ℕ) (written : List ℤ) → 64 ≤ i → i < trip + 128
    → get_or (opening_cells trip written) i (pos 0) ≡ get_or (written ++ replicate (trip + 64) (pos 0)) (i - 64) (pos 0)
from-0 trip i written high there =
    get_or-append_right (replicate 64 (pos 0)) (take (trip + 64) (written ++ replicate (trip + 64) (pos 0))) 64 i (pos 0) (length-replicate 64 (pos 0)) high
    ∙ get_or-take (trip + 64) (written ++ replicate (trip + 64) (pos 0)) (i - 64) (pos 0) (omega arith)

-- where it is written
pub kept-written : (trip i : ℕ) (written : List ℤ) → 64 ≤ i → i - 64 < length written → i < trip + 128
    → get_or written (i - 64) (pos 0) ≡ get_or (opening_cells trip written) i (pos 0)
kept-written trip i written high low there =
    sym (from-0 trip i written high there ∙ get_or_append_left written (replicate (trip + 64) (pos 0)) (pos 0) (i - 64) low)

-- past what is written
pub kept-past : (trip i : ℕ) (written : List ℤ) → 64 ≤ i → length written ≤ i - 64 → i < trip + 128 → pos 0 ≡ get_or (opening_cells trip written) i (pos 0)
kept-past trip i written high past there =
    sym (from-0 trip i written high there
    ∙ get_or-append_right written (replicate (trip + 64) (pos 0)) (length written) (i - 64) (pos 0) refl past
    ∙ get_or-replicate (trip + 64) (i - 64 - length written) (pos 0) (pos 0) (omega arith))

-- the cells of the array of a number before a run
pub opening-array : (loop : LoopData) (trip number : ℕ) (d : Array) → number < length loop.arrays
    → get_or (opening_of loop trip).arrays number [] ≡ opening_cells trip (get_or loop.arrays number d).cells
unfolding opening_of
opening-array loop trip number d low = get_or-map (λ (a : Array). opening_cells trip a.cells) loop.arrays number d [] low
