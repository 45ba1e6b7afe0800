-- Sixteen bytes at once, and the first bit of a word.
use Rattle.std.proofs.Common.{◌≡◌, ℕ, ◌+◌, ◌-◌, ◌^◌, ◌%◌, ◌<◌, ◌≤◌, ◌&&◌, ◌||◌, not, inl, inr, Bool, true, false, cond, eqb, ltb, min, max, List, length, get_or, map, replicate, refl, sym, ap, ◌∙◌, arith, w8, w64, zero, suc}
use Rattle.std.specs.Char.{is_ascii_digit}
use Rattle.std.specs.Int.Bits.{bit_and, bit_or}
use Rattle.std.specs.Int.{bit_at, trailing_zeros}
use Rattle.std.specs.Simd.Lanes.{mask_l}
use Rattle.std.proofs.lemmas.Bool.{cases_eq, cases_lt}
use Rattle.std.proofs.lemmas.Bool.Decides.{nat_tests}
use Rattle.std.proofs.lemmas.List.{get_or-map}
use Rattle.std.proofs.lemmas.Nat.Bits.{bit_at-lt, bit_at-trailing_zeros, bit_at-zero, bit_at_and, bit_at_or}
use Rattle.std.proofs.lemmas.Simd.{bit_mask_l, bitmask_splat, zip2_splat, zip2_splat_left}
use Rattle.loop_data.specs.Names.{is_name_byte}
use lib.Count.{count_trailing_zeros}
use lib.Lanes.{top, zip2}
use mir.Val.{bits, hbits}

one_if : (b : Bool) → eqb (cond b 1 0) 1 ≡ b
one_if true = refl
one_if false = refl

-- the bit of a byte tells whether it passes a test
pub bit_of_lanes : (test : ℕ → Bool) (bytes : List ℕ) (n k : ℕ) → length bytes ≡ n → k < n → eqb (bit_at (mask_l (map test bytes)) k) 1 ≡ test (get_or bytes k 0)
bit_of_lanes test bytes n k p l =
    ap (λ n. eqb n 1) (bit_mask_l (map test bytes) k ∙ ap (λ b. cond b 1 0) (get_or-map test bytes k 0 false (omega arith)))
    ∙ one_if (test (get_or bytes k 0))

-- the lowest bit that is set, of sixteen
pub lowest_bit : (most n r : ℕ) → most ≤ 64 → n < 2 ^ 64 → r ≡ min (trailing_zeros w64 n) most → ((k : ℕ) → k < r → bit_at n k ≡ 1 → ⊥) × (r < most → bit_at n r ≡ 1)
unfolding count_trailing_zeros
lowest_bit most n r few fits is =
    elim (cases_eq n 0) [
      | inl none ↦
          let all : r ≡ most = is ∙ ap (λ m. min (trailing_zeros w64 m) most) none ∙ omega (arith, few) in
          (λ k lt one. omega (arith, sym one ∙ ap (λ m. bit_at m k) none ∙ bit_at-zero k), λ lt. absurd (omega arith))
      | inr some ↦
          let t = bit_at-trailing_zeros w64 n (omega arith) fits in (
            λ k lt one. omega (arith, t.2 k (omega (arith, is)), one),
            λ lt. let same : r ≡ trailing_zeros w64 n = omega (arith, is) in ap (λ k. bit_at n k) same ∙ t.1,
          )
    ]

-- none of the bytes before a place passes a test, and none of some more after them
pub none_more : (test : ℕ → Bool) (text : List ℕ) (at ahead : ℕ) → ((k : ℕ) → k < at → test (get_or text k 0) ≡ false) → ((k : ℕ) → k < ahead → test (get_or text (at + k) 0) ≡ false)
    → (k : ℕ) → k < at + ahead → test (get_or text k 0) ≡ false
none_more test text at ahead none more k lt =
    elim (cases_lt k at) [
      | inl here ↦ none k here
      | inr past ↦
          let same : at + (k - at) ≡ k = omega arith in
          ap (λ n. test (get_or text n 0)) (sym same) ∙ more (k - at) (omega arith)
    ]

-- the mask of the bytes that are above one
pub mask_above : (bytes : List ℕ) (n y : ℕ) → length bytes ≡ n → n ≤ 64
    → mask_l (map (top (hbits w8)) (zip2 (λ a b. cond (ltb a b) (2 ^ bits w8 - 1) 0) (replicate n y) bytes)) % 2 ^ 64 ≡ mask_l (map (λ x. ltb y x) bytes)
mask_above bytes n y long few =
    let f = λ (a b : ℕ). cond (ltb a b) (2 ^ bits w8 - 1) 0 in
    ap (λ z. mask_l (map (top (hbits w8)) z) % 2 ^ 64) (zip2_splat_left f y n bytes long ∙ sym (zip2_splat (λ a b. f b a) bytes n y long))
    ∙ bitmask_splat w8 (λ a b. ltb b a) bytes n y long few

one_or_none : (P : ℕ → Type 0) → P 0 → P 1 → (x : ℕ) → x < 2 → P x
one_or_none P none one zero h = none
one_or_none P none one (suc zero) h = one
one_or_none P none one (suc (suc x)) h = absurd (omega arith)

either_bit : (a b : ℕ) → a < 2 → b < 2 → eqb (max a b) 1 ≡ (eqb a 1 || eqb b 1)
either_bit a b p q =
    one_or_none (λ x. eqb (max x b) 1 ≡ (eqb x 1 || eqb b 1))
    (one_or_none (λ y. eqb (max 0 y) 1 ≡ (eqb 0 1 || eqb y 1)) refl refl b q)
    (one_or_none (λ y. eqb (max 1 y) 1 ≡ (eqb 1 1 || eqb y 1)) refl refl b q) a p

-- a bit of two masks together is set where it is in one of them
pub bit_of_either : (a b k : ℕ) (x y : Bool) → eqb (bit_at a k) 1 ≡ x → eqb (bit_at b k) 1 ≡ y → eqb (bit_at (bit_or a b) k) 1 ≡ (x || y)
bit_of_either a b k x y p q =
    ap (λ n. eqb n 1) (bit_at_or a b k) ∙ either_bit (bit_at a k) (bit_at b k) (bit_at-lt a k) (bit_at-lt b k)
    ∙ ap (λ t. t || eqb (bit_at b k) 1) p ∙ ap (λ t. x || t) q

both_bits : (a b : ℕ) → a < 2 → b < 2 → eqb (min a b) 1 ≡ (eqb a 1 && eqb b 1)
both_bits a b p q =
    one_or_none (λ x. eqb (min x b) 1 ≡ (eqb x 1 && eqb b 1))
    (one_or_none (λ y. eqb (min 0 y) 1 ≡ (eqb 0 1 && eqb y 1)) refl refl b q)
    (one_or_none (λ y. eqb (min 1 y) 1 ≡ (eqb 1 1 && eqb y 1)) refl refl b q) a p

-- a bit that two masks share is set where it is in both
pub bit_of_both : (a b k : ℕ) (x y : Bool) → eqb (bit_at a k) 1 ≡ x → eqb (bit_at b k) 1 ≡ y → eqb (bit_at (bit_and a b) k) 1 ≡ (x && y)
bit_of_both a b k x y p q =
    ap (λ n. eqb n 1) (bit_at_and a b k) ∙ both_bits (bit_at a k) (bit_at b k) (bit_at-lt a k) (bit_at-lt b k)
    ∙ ap (λ t. t && eqb (bit_at b k) 1) p ∙ ap (λ t. x && t) q

-- what is in none of the ranges of letters, digits and `_` stands in no name
pub nameless_byte : (c : ℕ) → ((((ltb c 97 || ltb 122 c) && (ltb c 65 || ltb 90 c)) && (ltb c 48 || ltb 57 c)) && (ltb c 95 || ltb 95 c)) ≡ not (is_name_byte c)
nameless_byte c = grind (arith, nat_tests)

pub digit_since : (d : ℕ) → (ltb d 48 || ltb 57 d) ≡ false → is_ascii_digit d ≡ true
digit_since d h = grind (arith, nat_tests)
