-- Names that are numbered.
use Rattle.std.proofs.Common.{◌≡◌, ◌≢◌, ◌<◌, ◌≤◌, ◌+◌, ◌/◌, ◌%◌, ℕ, true, List, [], ◌∷◌, ◌++◌, length, get_or, refl, sym, ap, ◌∙◌, subst, inl, inr, arith}
use Rattle.std.specs.Prelude.{codes, decimal}
use Rattle.std.specs.Char.{is_ascii_lowercase}
use Rattle.std.specs.List.{All, AllPairs, list_all, range_with_len}
use Rattle.std.proofs.lemmas.Bool.{and_from, cases_lt}
use Rattle.std.proofs.lemmas.Fmt.{decimal_digit, decimal_injective, decimal_step, length-decimal-le}
use Rattle.std.proofs.lemmas.List.{length-append}
use Rattle.std.proofs.lemmas.Nat.{div_below, mod_below}
use Rattle.std.proofs.lemmas.List.FromFn.{get_or-map-range_with_len, get_or-range_with_len, length-map-range_with_len, length-range_with_len}
use Rattle.std.proofs.lemmas.List.Sums.{AllPass-from_list_all}
use Rattle.machine_data.specs.Machines.{IsUnitName, is_unit_byte}
use Rattle.machine_variants.specs.Variants.{numbered}

abbrev pub name_of : ℕ → List ℕ
name_of k = codes "u" ++ decimal k

abbrev without_first : List ℕ → List ℕ
without_first [] = []
without_first (x ∷ xs) = xs

are-bytes : list_all (λ d. is_unit_byte (48 + d)) (range_with_len 0 10) ≡ true
are-bytes = refl

digit-byte : (d : ℕ) → d < 10 → is_unit_byte (48 + d) ≡ true
digit-byte d below =
    let at = AllPass-from_list_all (λ k. is_unit_byte (48 + k)) (range_with_len 0 10) are-bytes d 0 (subst (λ n. d < n) (sym (length-range_with_len 0 10)) below) in
    ap (λ k. is_unit_byte (48 + k)) (sym (get_or-range_with_len 0 10 d 0 below ∙ (let e : 0 + d ≡ d = omega arith in e))) ∙ at

one-digit : (a : ℕ) → is_unit_byte a ≡ true → list_all is_unit_byte (a ∷ []) ≡ true
one-digit a h = and_from (is_unit_byte a) true h refl

two-digits : (a b : ℕ) → is_unit_byte a ≡ true → is_unit_byte b ≡ true → list_all is_unit_byte (a ∷ b ∷ []) ≡ true
two-digits a b h g = and_from (is_unit_byte a) (list_all is_unit_byte (b ∷ [])) h (one-digit b g)

digits-formed : (k : ℕ) → k < 100 → list_all is_unit_byte (decimal k) ≡ true
digits-formed k below = elim (cases_lt k 10) [
  | inl low ↦ ap (list_all is_unit_byte) (decimal_digit k low) ∙ one-digit (48 + k) (digit-byte k low)
  | inr high ↦
      let tens : k / 10 < 10 = div_below k 10 10 (omega arith) (omega (arith, below)) in
      let ones : k % 10 < 10 = mod_below k 10 (omega arith) in
      ap (list_all is_unit_byte) (decimal_step k high (omega (arith, below)) ∙ ap (λ ds. ds ++ (48 + k % 10) ∷ []) (decimal_digit (k / 10) tens))
      ∙ two-digits (48 + k / 10) (48 + k % 10) (digit-byte (k / 10) tens) (digit-byte (k % 10) ones)
]

pub name-short : (k : ℕ) → k < 100 → (0 < length (name_of k)) × (length (name_of k) ≤ 16)
name-short k below =
    let long = length-append (codes "u") (decimal k) in
    let few : length (decimal k) ≤ 2 = length-decimal-le 2 k (omega arith) (omega (arith, below)) (omega (arith, below)) in
    (omega (arith, long), omega (arith, long, few))

named : (k : ℕ) → k < 65 → IsUnitName (name_of k)
named k below = record {
  formed = and_from (is_ascii_lowercase 117) (list_all is_unit_byte (decimal k)) refl (digits-formed k (omega (arith, below)));
  short = (name-short k (omega (arith, below))).1;
}

pub numbered-long : (count : ℕ) → length (numbered count) ≡ count
numbered-long count = length-map-range_with_len name_of 0 count

at : (count k : ℕ) (d : List ℕ) → k < length (numbered count) → get_or (numbered count) k d ≡ name_of k
at count k d below =
    let within : k < count = subst (λ n. k < n) (numbered-long count) below in
    get_or-map-range_with_len name_of 0 count k k d within (omega arith)

pub numbered-named : (count : ℕ) → count ≤ 65 → All IsUnitName (numbered count)
numbered-named count few k d below =
    let within : k < count = subst (λ n. k < n) (numbered-long count) below in
    subst IsUnitName (sym (at count k d below)) (named k (omega (arith, within, few)))

pub numbered-different : (count : ℕ) → count ≤ 65 → AllPairs (λ a b. a ≢ b) (numbered count)
numbered-different count few i j d before below same =
    let within : j < count = subst (λ n. j < n) (numbered-long count) below in
    let low : i < length (numbered count) = omega (arith, before, below) in
    let names : name_of i ≡ name_of j = sym (at count i d low) ∙ same ∙ at count j d below in
    let e : i ≡ j = decimal_injective i j (omega (arith, before, within, few)) (omega (arith, within, few)) (ap without_first names) in
    omega (arith, before, e)
