-- Eight bytes at once, and the first bit of a word.
use Rattle.std.proofs.Common.{◌≡◌, ℕ, ◌+◌, ◌-◌, ◌^◌, ◌%◌, ◌<◌, ◌≤◌, ◌||◌, Bool, true, false, cond, eqb, ltb, min, List, length, get_or, map, take, drop, replicate, refl, sym, ap, ◌∙◌, arith, w8, w64}
use Rattle.std.specs.Prelude.{◌++◌}
use Rattle.std.specs.Int.{bit_at, trailing_zeros}
use Rattle.std.specs.Simd.Lanes.{mask_l}
use Rattle.std.specs.List.{starts_with}
use Rattle.std.specs.Str.{bytes_eq}
use Rattle.std.proofs.lemmas.Bool.{false_from_ne_true}
use Rattle.std.proofs.lemmas.Bool.Decides.{nat_tests, same_from_decides}
use Rattle.std.proofs.lemmas.List.{get_or-map, take_all, take_rest, length-take-le, length-drop}
use Rattle.std.proofs.lemmas.Simd.{bit_mask_l, bitmask_splat, zip2_splat, zip2_splat_left}
use Rattle.std.proofs.lemmas.Slice.Eq.{bytes_eq-Decides}
use Rattle.std.proofs.Math.Seq.{take-add}
use Rattle.loop_lines.proofs.Lanes.{lowest_bit}
use Rattle.machine_data.specs.Opcodes.{same_word}
use Rattle.problem_lines.specs.Names.{is_printable}
use lib.Lanes.{top, zip2}
use mir.Val.{bits, hbits}

one_if : (b : Bool) → eqb (cond b 1 0) 1 ≡ b
one_if true = refl
one_if false = refl

-- the bit of a byte tells whether it passes a test
pub bit_of_lanes : (test : ℕ → Bool) (bytes : List ℕ) (k : ℕ) → length bytes ≡ 8 → k < 8 → eqb (bit_at (mask_l (map test bytes)) k) 1 ≡ test (get_or bytes k 0)
bit_of_lanes test bytes k p l =
    ap (λ n. eqb n 1) (bit_mask_l (map test bytes) k ∙ ap (λ b. cond b 1 0) (get_or-map test bytes k 0 false (omega arith)))
    ∙ one_if (test (get_or bytes k 0))

-- the mask of the bytes that are above one
pub mask_above : (bytes : List ℕ) (y : ℕ) → length bytes ≡ 8
    → mask_l (map (top (hbits w8)) (zip2 (λ a b. cond (ltb a b) (2 ^ bits w8 - 1) 0) (replicate 8 y) bytes)) % 2 ^ 64 ≡ mask_l (map (λ x. ltb y x) bytes)
mask_above bytes y long =
    let f = λ (a b : ℕ). cond (ltb a b) (2 ^ bits w8 - 1) 0 in
    ap (λ z. mask_l (map (top (hbits w8)) z) % 2 ^ 64) (zip2_splat_left f y 8 bytes long ∙ sym (zip2_splat (λ a b. f b a) bytes 8 y long))
    ∙ bitmask_splat w8 (λ a b. ltb b a) bytes 8 y long (omega arith)

pub high_printable : (c : ℕ) → (ltb c 36 || ltb 126 c) ≡ false → is_printable c ≡ true
high_printable c h = grind (arith, nat_tests)

-- texts that are the same up to a place, and eight bytes more
pub more_same : (one other : List ℕ) (at n : ℕ) → take at one ≡ take at other → bytes_eq (take n (drop at one)) (take n (drop at other)) ≡ true → take (at + n) one ≡ take (at + n) other
more_same one other at n front eq =
    let back : take n (drop at one) ≡ take n (drop at other) = (bytes_eq-Decides _ _).0 eq in
    take-add at n one ∙ ap (λ xs. xs ++ take n (drop at one)) front ∙ ap (λ ys. take at other ++ ys) back ∙ sym (take-add at n other)

pub differ_eight : (one other : List ℕ) (at n : ℕ) → bytes_eq (take n (drop at one)) (take n (drop at other)) ≡ false → same_word one other ≡ false
differ_eight one other at n h = false_from_ne_true _ (λ t.
    let same : one ≡ other = (bytes_eq-Decides one other).0 t in
    let eq = (bytes_eq-Decides (take n (drop at one)) (take n (drop at other))).1 (ap (λ xs. take n (drop at xs)) same) in cc)

pub differ_one : (one other : List ℕ) (at : ℕ) → (get_or one at 0 ≡ get_or other at 0 → ⊥) → same_word one other ≡ false
differ_one one other at ne = false_from_ne_true _ (λ t. ne (ap (λ xs. get_or xs at 0) ((bytes_eq-Decides one other).0 t)))

pub differ_long : (one other : List ℕ) → (length one ≡ length other → ⊥) → same_word one other ≡ false
differ_long one other ne = false_from_ne_true _ (λ t. ne (ap length ((bytes_eq-Decides one other).0 t)))

pub same_whole : (one other : List ℕ) (at : ℕ) → length one ≡ length other → length one ≤ at → take at one ≡ take at other → same_word one other ≡ true
same_whole one other at long all front =
    (bytes_eq-Decides one other).1 (sym (take_all at one all) ∙ front ∙ take_all at other (omega arith))

-- no bit is set below the lowest, of eight
pub lowest_of_eight : (n r : ℕ) → n < 2 ^ 64 → r ≡ min (trailing_zeros w64 n) 8 → (k : ℕ) → k < r → bit_at n k ≡ 1 → ⊥
lowest_of_eight n r fits is k lt = (lowest_bit 8 n r (omega arith) fits is).0 k lt

-- as slices are compared
pub eight_taken : (one other : List ℕ) (at : ℕ) → at + 8 ≤ length one
    → starts_with eqb (take (length other - at) (drop at other)) (take (at + 8 - at) (drop at one)) ≡ bytes_eq (take 8 (drop at one)) (take 8 (drop at other))
eight_taken one other at few =
    let eight : at + 8 - at ≡ 8 = omega arith in
    let long : length (take 8 (drop at one)) ≡ 8 = length-take-le 8 (drop at one) (omega (arith, length-drop at one)) in
    ap (λ n. starts_with eqb (take (length other - at) (drop at other)) (take n (drop at one))) eight
    ∙ ap (λ xs. starts_with eqb xs (take 8 (drop at one))) (take_rest other at)
    ∙ ap (λ n. bytes_eq (take 8 (drop at one)) (take n (drop at other))) long

-- the text of a word
pub text_taken : (bytes text : List ℕ) → length bytes ≡ length text → starts_with eqb bytes text ≡ same_word bytes text
text_taken bytes text long =
    ap (bytes_eq text) (take_all (length text) bytes (omega arith))
    ∙ same_from_decides _ _ (bytes_eq-Decides text bytes) ((λ h. sym ((bytes_eq-Decides bytes text).0 h)), (λ h. (bytes_eq-Decides bytes text).1 (sym h)))
