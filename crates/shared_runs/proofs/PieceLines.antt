-- The pieces of the arrays' lines, one after another, are the lines of the arrays.
use Rattle.std.proofs.Common.{◌≡◌, ℕ, zero, suc, ℤ, pos, ◌+◌, ◌-◌, ◌*◌, ◌/◌, ◌%◌, ◌-ℤ◌, ◌<◌, ◌≤◌, List, [], ◌∷◌, ◌++◌, length, get_or, map, refl, sym, ap, ap₂, ◌∙◌, arith}
use Rattle.std.specs.List.{enumerate_from, flat_map, range_with_len}
use Rattle.std.proofs.lemmas.Grind.{flat_map-append}
use Rattle.std.proofs.lemmas.List.{append-nil, get_or_default, map-append}
use Rattle.std.proofs.lemmas.List.FromFn.{length-range_with_len, get_or-range_with_len, length-enumerate_from, get_or-enumerate_from}
use Rattle.loop_data.specs.declared.language.lists.Array.{Array}
use Rattle.loop_data.specs.Loops.{LoopData}
use Rattle.loop_data.specs.Run.{MemoryData, opening_of}
use Rattle.lines_of_runs.specs.Plain.{array_lines, cell_lines, cells_between, changed_line, stretch_lines}
use Rattle.lines_of_runs.proofs.PlainLines.{cells_between-none, stretch_all}
use Rattle.text_parts.proofs.Pieces.{flat_same}
use Rattle.std.specs.Prelude.{Vec}
use Rattle.std.specs.Global.{Global}
use Rattle.text_parts.specs.Parted.{joined_text}
use Rattle.shared_runs.specs.inner.Pieces.{ArePieces, place_of, lines_of_piece, piece_lines}

-- numbers one after another, in two parts
pub range_parts : (a m n : ℕ) → range_with_len a (m + n) ≡ range_with_len a m ++ range_with_len (a + m) n
range_parts a zero n =
    let none : 0 + n ≡ n = omega arith in
    let same : a ≡ a + 0 = omega arith in
    ap (range_with_len a) none ∙ ap (λ k. range_with_len k n) same
range_parts a (suc m) n =
    let more : suc m + n ≡ suc (m + n) = omega arith in
    let same : a + 1 + m ≡ a + suc m = omega arith in
    ap (range_with_len a) more ∙ ap (λ l. a ∷ l) (range_parts (a + 1) m n ∙ ap (λ k. range_with_len (a + 1) m ++ range_with_len k n) same)

-- two stretches that meet
stretch_parts : (opening after : MemoryData) (array : ℕ) (name : List ℕ) (p q : ℕ) → p ≤ q
    → stretch_lines opening after array name 0 p ++ stretch_lines opening after array name p q ≡ stretch_lines opening after array name 0 q
stretch_parts opening after array name p q h =
    let place : ℕ → ℤ = λ k. pos k -ℤ pos 64 in
    let line : ℤ → List ℕ = changed_line opening after array name in
    let all : p + (q - p) ≡ q = omega arith in
    let there : 0 + p ≡ p = omega arith in
    let numbers : range_with_len 0 p ++ range_with_len p (q - p) ≡ range_with_len 0 q
    = ap (λ k. range_with_len 0 p ++ range_with_len k (q - p)) (sym there) ∙ sym (range_parts 0 p (q - p)) ∙ ap (range_with_len 0) all in
    let first : p - 0 ≡ p = omega arith in
    let whole : q ≡ q - 0 = omega arith in
    sym (flat_map-append line (cells_between 0 p) (cells_between p q))
    ∙ ap (λ n. flat_map line (map place (range_with_len 0 n) ++ cells_between p q)) first
    ∙ ap (flat_map line) (sym (map-append place (range_with_len 0 p) (range_with_len p (q - p))) ∙ ap (map place) (numbers ∙ ap (range_with_len 0) whole))

-- the places of pieces ascend
place_up : (trip n : ℕ) → place_of trip n ≤ place_of trip (n + 1)
place_up trip n =
    let size : ℕ = (trip + 128) / 8 + 1 in
    let more : (n + 1) * size ≡ n * size + size = grind arith in
    omega (arith, more)

-- the first pieces of an array
pieces_so_far : (loop : LoopData) (after : MemoryData) (d : Array) (array n : ℕ)
    → flat_map (lines_of_piece loop after d array) (range_with_len 0 n)
    ≡ stretch_lines (opening_of loop after.trip) after array (get_or loop.arrays array d).name 0 (place_of after.trip n)
pieces_so_far loop after d array zero =
    sym (ap (flat_map (changed_line (opening_of loop after.trip) after array (get_or loop.arrays array d).name)) (cells_between-none 0 (place_of after.trip 0) (omega arith)))
pieces_so_far loop after d array (suc n) =
    let lines : ℕ → List ℕ = lines_of_piece loop after d array in
    let next : n + 1 ≡ suc n = omega arith in
    let here : 0 + n ≡ n = omega arith in
    ap (λ k. flat_map lines (range_with_len 0 k)) (sym next)
    ∙ ap (flat_map lines) (range_parts 0 n 1 ∙ ap (λ k. range_with_len 0 n ++ k ∷ []) here)
    ∙ flat_map-append lines (range_with_len 0 n) (n ∷ [])
    ∙ ap₂ (λ (s t : List ℕ). s ++ t) (pieces_so_far loop after d array n) (append-nil (lines n))
    ∙ stretch_parts (opening_of loop after.trip) after array (get_or loop.arrays array d).name (place_of after.trip n) (place_of after.trip (n + 1)) (place_up after.trip n)
    ∙ ap (λ k. stretch_lines (opening_of loop after.trip) after array (get_or loop.arrays array d).name 0 (place_of after.trip k)) next

-- all eight of them
pieces_of_array : (loop : LoopData) (after : MemoryData) (d : Array) (array : ℕ)
    → flat_map (lines_of_piece loop after d array) (range_with_len 0 8) ≡ cell_lines (opening_of loop after.trip) after array (get_or loop.arrays array d).name
pieces_of_array loop after d array =
    let end : place_of after.trip 8 ≡ after.trip + 128 = omega arith in
    pieces_so_far loop after d array 8
    ∙ ap (stretch_lines (opening_of loop after.trip) after array (get_or loop.arrays array d).name 0) end
    ∙ stretch_all (opening_of loop after.trip) after array (get_or loop.arrays array d).name

-- the pieces of the first arrays
pieces_of_arrays : (loop : LoopData) (after : MemoryData) (d : Array) (n : ℕ)
    → flat_map (piece_lines loop after d) (range_with_len 0 (n * 8))
    ≡ flat_map (λ a. cell_lines (opening_of loop after.trip) after a (get_or loop.arrays a d).name) (range_with_len 0 n)
pieces_of_arrays loop after d zero = refl
pieces_of_arrays loop after d (suc n) =
    let pieces : ℕ → List ℕ = piece_lines loop after d in
    let lines : ℕ → List ℕ = λ a. cell_lines (opening_of loop after.trip) after a (get_or loop.arrays a d).name in
    let next : n + 1 ≡ suc n = omega arith in
    let here : 0 + n ≡ n = omega arith in
    let eight : n * 8 + 8 ≡ suc n * 8 = omega arith in
    let there : 0 + n * 8 ≡ n * 8 = omega arith in
    let those : flat_map pieces (range_with_len (n * 8) 8) ≡ flat_map (lines_of_piece loop after d n) (range_with_len 0 8)
    = flat_same (lines_of_piece loop after d n) pieces (range_with_len 0 8) (range_with_len (n * 8) 8) refl
    (λ k x y h.
    let low : k < 8 = omega (arith, h, length-range_with_len 0 8) in
    let array : (n * 8 + k) / 8 ≡ n = omega arith in
    let piece : (n * 8 + k) % 8 ≡ k = omega arith in
    let here : 0 + k ≡ k = omega arith in
    ap pieces (get_or-range_with_len (n * 8) 8 k y low) ∙ ap₂ (lines_of_piece loop after d) array piece
    ∙ ap (lines_of_piece loop after d n) (sym (get_or-range_with_len 0 8 k x low ∙ here))) in
    ap (λ k. flat_map pieces (range_with_len 0 k)) (sym eight)
    ∙ ap (flat_map pieces) (range_parts 0 (n * 8) 8 ∙ ap (λ k. range_with_len 0 (n * 8) ++ range_with_len k 8) there)
    ∙ flat_map-append pieces (range_with_len 0 (n * 8)) (range_with_len (n * 8) 8)
    ∙ ap₂ (λ (s t : List ℕ). s ++ t) (pieces_of_arrays loop after d n) (those ∙ pieces_of_array loop after d n ∙ sym (append-nil (lines n)))
    ∙ sym (flat_map-append lines (range_with_len 0 n) (n ∷ []))
    ∙ ap (flat_map lines) (sym (range_parts 0 n 1 ∙ ap (λ k. range_with_len 0 n ++ k ∷ []) here))
    ∙ ap (λ k. flat_map lines (range_with_len 0 k)) next

-- of all arrays
pieces_are_arrays : (loop : LoopData) (after : MemoryData) (d : Array)
    → flat_map (piece_lines loop after d) (range_with_len 0 (length loop.arrays * 8)) ≡ array_lines loop (opening_of loop after.trip) after
pieces_are_arrays loop after d =
    let opening : MemoryData = opening_of loop after.trip in
    let many = length-range_with_len 0 (length loop.arrays) in
    let numbered = length-enumerate_from 0 loop.arrays in
    let line : ℕ × Array → List ℕ = λ a. cell_lines opening after a.0 a.1.name in
    let of_array : ℕ → List ℕ = λ a. cell_lines opening after a (get_or loop.arrays a d).name in
    pieces_of_arrays loop after d (length loop.arrays)
    ∙ sym (flat_same of_array line (range_with_len 0 (length loop.arrays)) (enumerate_from 0 loop.arrays) (omega (arith, many, numbered))
    (λ k x y h.
    let within : k < length loop.arrays = omega (arith, h, many) in
    let here : 0 + k ≡ k = omega arith in
    ap line (get_or-enumerate_from 0 loop.arrays k y within ∙ ap₂ (λ (n : ℕ) (a : Array). (n, a)) here (get_or_default loop.arrays k y.1 d within))
    ∙ sym (ap of_array (get_or-range_with_len 0 (length loop.arrays) k x within ∙ here))))

-- texts of pieces, one after another
pieces_joined : (loop : LoopData) (after : MemoryData) (d : Array) (pieces : List (Vec ℕ Global)) → ArePieces loop after pieces
    → joined_text pieces ≡ flat_map (piece_lines loop after d) (range_with_len 0 (length pieces))
pieces_joined loop after d pieces are =
    flat_same (piece_lines loop after d) (λ (text : Vec ℕ Global). text.items) (range_with_len 0 (length pieces)) pieces (sym (length-range_with_len 0 (length pieces)))
    (λ k x text h.
    let within : k < length pieces = omega (arith, h, length-range_with_len 0 (length pieces)) in
    let here : 0 + k ≡ k = omega arith in
    are.each k text d within ∙ ap (piece_lines loop after d) (sym (get_or-range_with_len 0 (length pieces) k x within ∙ here)))

-- the first ones and all others
pub pieces_are_all : (loop : LoopData) (after : MemoryData) (d : Array) (first : List (Vec ℕ Global)) → ArePieces loop after first
    → joined_text first ++ flat_map (piece_lines loop after d) (range_with_len (length first) (length loop.arrays * 8 - length first)) ≡ array_lines loop (opening_of loop after.trip) after
pieces_are_all loop after d first are =
    let pieces : ℕ → List ℕ = piece_lines loop after d in
    let left : ℕ = length loop.arrays * 8 - length first in
    let here : 0 + length first ≡ length first = omega arith in
    let many : length first + left ≡ length loop.arrays * 8 = omega (arith, are.few) in
    ap (λ t. t ++ flat_map pieces (range_with_len (length first) left)) (pieces_joined loop after d first are)
    ∙ sym (flat_map-append pieces (range_with_len 0 (length first)) (range_with_len (length first) left))
    ∙ ap (λ k. flat_map pieces (range_with_len 0 (length first) ++ range_with_len k left)) (sym here)
    ∙ ap (flat_map pieces) (sym (range_parts 0 (length first) left))
    ∙ ap (λ k. flat_map pieces (range_with_len 0 k)) many
    ∙ pieces_are_arrays loop after d
