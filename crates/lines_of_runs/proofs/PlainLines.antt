-- The lines of a run, piece by piece.
use Rattle.std.proofs.Common.{◌≡◌, ℕ, ℤ, pos, ◌+◌, ◌-◌, ◌-ℤ◌, ◌<◌, ◌≤◌, Bool, true, false, List, [], ◌∷◌, ◌++◌, length, map, take, get_or, min, refl, sym, ap, ap₂, ◌∙◌, arith}
use Rattle.std.specs.Prelude.{if◌then◌else◌, cond}
use Rattle.std.specs.List.{enumerate_from, filter, flat_map, range_with_len, zip}
use Rattle.std.proofs.lemmas.List.{take_all, take_more, flat_map_more}
use Rattle.std.proofs.lemmas.List.FromFn.{length-enumerate_from, get_or-enumerate_from, map-range_with_len_more}
use Rattle.std.proofs.lemmas.Slice.Zip.{get_or-zip, length-zip}
use Rattle.loop_data.specs.declared.language.lists.Array.{Array}
use Rattle.loop_data.specs.Run.{MemoryData, cell_of}
use Rattle.lines_of_runs.specs.Plain.{cell_line, cells_between, cells_of, changed_line, is_changed, cell_lines, stretch_lines}

-- one more piece of a text
pub pieces_more : {X : Type 0} (f : X → List ℕ) (before now piece : List ℕ) (xs : List X) (i : ℕ) (d x : X) → i < length xs → get_or xs i d ≡ x
    → now ≡ before ++ flat_map f (take i xs) → piece ≡ f x → now ++ piece ≡ before ++ flat_map f (take (i + 1) xs)
pieces_more f before now piece xs i d x h is e p =
    ap₂ (λ (s t : List ℕ). s ++ t) e p ∙ (flat_map_more f before (take i xs) x
    ∙ ap (λ ys. before ++ flat_map f ys) (ap (λ y. take i xs ++ y ∷ []) (sym is) ∙ sym (take_more xs i d h)))

-- all pieces
pub pieces_all : {X : Type 0} (f : X → List ℕ) (before now : List ℕ) (xs : List X) (i : ℕ) → length xs ≤ i
    → now ≡ before ++ flat_map f (take i xs) → now ≡ before ++ flat_map f xs
pieces_all f before now xs i all e = e ∙ ap (λ ys. before ++ flat_map f ys) (take_all i xs all)

-- the arrays by their numbers
pub array_more : (f : ℕ × Array → List ℕ) (before now piece : List ℕ) (arrays : List Array) (i : ℕ) (a : Array) → i < length arrays → get_or arrays i a ≡ a
    → now ≡ before ++ flat_map f (take i (enumerate_from 0 arrays)) → piece ≡ f (i, a)
    → now ++ piece ≡ before ++ flat_map f (take (i + 1) (enumerate_from 0 arrays))
array_more f before now piece arrays i a h is e p =
    let long : length (enumerate_from 0 arrays) ≡ length arrays = length-enumerate_from 0 arrays in
    let number : 0 + i ≡ i = omega arith in
    pieces_more f before now piece (enumerate_from 0 arrays) i (i, a) (i, a) (omega (arith, long))
    (get_or-enumerate_from 0 arrays i (i, a) h ∙ ap₂ (λ (n : ℕ) (b : Array). (n, b)) number is) e p

pub array_all : (f : ℕ × Array → List ℕ) (before now : List ℕ) (arrays : List Array) (i : ℕ) → length arrays ≤ i
    → now ≡ before ++ flat_map f (take i (enumerate_from 0 arrays)) → now ≡ before ++ flat_map f (enumerate_from 0 arrays)
array_all f before now arrays i all e =
    let long : length (enumerate_from 0 arrays) ≡ length arrays = length-enumerate_from 0 arrays in
    pieces_all f before now (enumerate_from 0 arrays) i (omega (arith, long)) e

-- the elements of two lists in pairs
pub pair_more : {A B : Type 0} (f : A × B → List ℕ) (before now piece : List ℕ) (xs : List A) (ys : List B) (i : ℕ) (d x : A) (e y : B) → length ys ≡ length xs → i < length xs
    → get_or xs i d ≡ x → get_or ys i e ≡ y → now ≡ before ++ flat_map f (take i (zip xs ys)) → piece ≡ f (x, y)
    → now ++ piece ≡ before ++ flat_map f (take (i + 1) (zip xs ys))
pair_more f before now piece xs ys i d x e y same h is_x is_y so_far p =
    let long : length (zip xs ys) ≡ min (length xs) (length ys) = length-zip xs ys in
    pieces_more f before now piece (zip xs ys) i (d, e) (x, y) (omega (arith, long, same))
    (get_or-zip xs ys i (d, e) h (omega (arith, same)) ∙ ap₂ (λ a b. (a, b)) is_x is_y) so_far p

pub pair_all : {A B : Type 0} (f : A × B → List ℕ) (before now : List ℕ) (xs : List A) (ys : List B) (i : ℕ) → length xs ≤ i
    → now ≡ before ++ flat_map f (take i (zip xs ys)) → now ≡ before ++ flat_map f (zip xs ys)
pair_all f before now xs ys i all e =
    let long : length (zip xs ys) ≡ min (length xs) (length ys) = length-zip xs ys in
    pieces_all f before now (zip xs ys) i (omega (arith, long)) e

-- the pieces of the elements that pass a test
flat_map-filter : {X : Type 0} (p : X → Bool) (f : X → List ℕ) (xs : List X) → flat_map (λ x. if p x then f x else []) xs ≡ flat_map f (filter p xs)
flat_map-filter p f [] = refl
flat_map-filter p f (x ∷ xs) = step (p x) (flat_map-filter p f xs)
  where
    step : (b : Bool) → flat_map (λ x. if p x then f x else []) xs ≡ flat_map f (filter p xs)
        → (if b then f x else []) ++ flat_map (λ x. if p x then f x else []) xs ≡ flat_map f (cond b (x ∷ filter p xs) (filter p xs))
    step true e = ap (λ rest. f x ++ rest) e
    step false e = e

-- the cells between two places, and one more
cells_between-more : (from i : ℕ) → from ≤ i → cells_between from (i + 1) ≡ cells_between from i ++ (pos i -ℤ pos 64) ∷ []
cells_between-more from i h =
    let place : ℕ → ℤ = λ k. pos k -ℤ pos 64 in
    let count : i + 1 - from ≡ i - from + 1 = omega arith in
    ap (λ n. map place (range_with_len from n)) count ∙ map-range_with_len_more place from (i - from) i (omega arith)

pub stretch_more : (f : ℤ → List ℕ) (before now piece : List ℕ) (from i : ℕ) (cell : ℤ) → from ≤ i → cell ≡ pos i -ℤ pos 64
    → now ≡ before ++ flat_map f (cells_between from i) → piece ≡ f cell
    → now ++ piece ≡ before ++ flat_map f (cells_between from (i + 1))
stretch_more f before now piece from i cell h is e p =
    ap₂ (λ (s t : List ℕ). s ++ t) e (p ∙ ap f is) ∙ flat_map_more f before (cells_between from i) (pos i -ℤ pos 64)
    ∙ ap (λ cells. before ++ flat_map f cells) (sym (cells_between-more from i h))

-- none and all of them
pub cells_between-none : (from i : ℕ) → i ≤ from → cells_between from i ≡ []
cells_between-none from i h = let none : i - from ≡ 0 = omega arith in ap (λ n. map (λ k. pos k -ℤ pos 64) (range_with_len from n)) none

pub stretch_all : (opening after : MemoryData) (array : ℕ) (name : List ℕ) → stretch_lines opening after array name 0 (after.trip + 128) ≡ cell_lines opening after array name
stretch_all opening after array name =
    let whole : after.trip + 128 - 0 ≡ after.trip + 128 = omega arith in
    ap (λ n. flat_map (changed_line opening after array name) (map (λ k. pos k -ℤ pos 64) (range_with_len 0 n))) whole
    ∙ flat_map-filter (is_changed opening after array) (λ cell. cell_line name cell (cell_of after.arrays array cell)) (cells_of after.trip)
