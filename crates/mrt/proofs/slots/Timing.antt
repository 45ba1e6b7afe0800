-- Timelines.
use Rattle.std.proofs.Common.{zero, suc, ◌≡◌, ◌≢◌, ℕ, ◌+◌, ◌-◌, ◌*◌, ◌/◌, ◌%◌, ◌^◌, ◌<◌, ◌≤◌, ◌⊎◌, inl, inr, Bool, true, false, not, ◌&&◌, ◌||◌, cond, eqb, max, bit_and, bit_or, List, [], ◌∷◌, length, get_or, set, take, refl, sym, ap, ◌∙◌, arith, eq-eqb, w64}
use Rattle.std.specs.Int.{bit_at}
use Rattle.std.proofs.lemmas.Bool.{cases_eq, cases_lt, cases_Bool, ne_eqb, true≢false}
use Rattle.std.proofs.lemmas.Nat.{pow_pos}
use Rattle.std.proofs.lemmas.Nat.Bits.{bit_at-lt, bit_at_or, bit_at_and, bit_at_not, bit_at_ones, bit_at-zero, bit_at_above, bit_at_cat_low, bit_at_cat_high}
use Rattle.std.proofs.lemmas.List.{get_or-set_same, get_or-set_other}
use Rattle.std.proofs.Math.Nat.{mod-add-div', mod-add-mod, add-mod_left, mod-eq_of_lt}
use Rattle.machine_data.specs.Alternative.{residue_of}
use Rattle.mrt.specs.declared.rosters.slot.Slot.{Slot}
use Rattle.mrt.specs.inner.Slots.{rows_in, meets_held}
use Rattle.mrt.specs.inner.Times.{is_set, Tell, is_on, TellOnce}
use Rattle.mrt.proofs.slots.Owning.{same_place, meets_more}
use Rattle.mrt.proofs.placements.Residues.{residue_later, residue_around}

-- ---- the bits of two words side by side
pub bit_at-shr : (n s k : ℕ) → bit_at (n / 2 ^ s) k ≡ bit_at n (s + k)
bit_at-shr n s k =
    let small : n % 2 ^ s < 2 ^ s = omega (arith, pow_pos s) in
    let whole : n / 2 ^ s * 2 ^ s + n % 2 ^ s ≡ n = omega (arith, mod-add-div' n (2 ^ s)) in
    let rest : s + k - s ≡ k = omega arith in
    sym (ap (λ m. bit_at m (s + k)) (sym whole) ∙ bit_at_cat_high (n / 2 ^ s) s (n % 2 ^ s) (s + k) small (omega arith) ∙ ap (λ j. bit_at (n / 2 ^ s) j) rest)

bit_at-mod : (n k : ℕ) → k < 64 → bit_at (n % 2 ^ 64) k ≡ bit_at n k
bit_at-mod n k lt =
    let whole : n / 2 ^ 64 * 2 ^ 64 + n % 2 ^ 64 ≡ n = omega (arith, mod-add-div' n (2 ^ 64)) in
    sym (ap (λ m. bit_at m k) (sym whole) ∙ bit_at_cat_low (n / 2 ^ 64) 64 (n % 2 ^ 64) k lt)

pub bit_at-shl_above : (n s k : ℕ) → k < 64 → s ≤ k → bit_at (n * 2 ^ s % 2 ^ 64) k ≡ bit_at n (k - s)
bit_at-shl_above n s k lt le =
    let whole : n * 2 ^ s + 0 ≡ n * 2 ^ s = omega arith in
    bit_at-mod (n * 2 ^ s) k lt ∙ ap (λ m. bit_at m k) (sym whole) ∙ bit_at_cat_high n s 0 k (pow_pos s) le

pub bit_at-shl_below : (n s k : ℕ) → k < 64 → k < s → bit_at (n * 2 ^ s % 2 ^ 64) k ≡ 0
bit_at-shl_below n s k lt below =
    let whole : n * 2 ^ s + 0 ≡ n * 2 ^ s = omega arith in
    bit_at-mod (n * 2 ^ s) k lt ∙ ap (λ m. bit_at m k) (sym whole) ∙ bit_at_cat_low n s 0 k below ∙ bit_at-zero k

-- two words as one number
both : ℕ → ℕ → ℕ
both low high = bit_or (high * 2 ^ 64 % 2 ^ 128) low

both_is : (high : ℕ) → high < 2 ^ 64 → high * 2 ^ 64 % 2 ^ 128 ≡ high * 2 ^ 64 + 0
both_is high fits =
    let small : high * 2 ^ 64 < 2 ^ 128 = omega arith in
    let whole : high * 2 ^ 64 ≡ high * 2 ^ 64 + 0 = omega arith in
    mod-eq_of_lt small ∙ whole

both_low : (low high i : ℕ) → high < 2 ^ 64 → i < 64 → bit_at (both low high) i ≡ bit_at low i
unfolding both
both_low low high i fits near =
    let none : bit_at (high * 2 ^ 64 % 2 ^ 128) i ≡ 0 = ap (λ n. bit_at n i) (both_is high fits) ∙ bit_at_cat_low high 64 0 i near ∙ bit_at-zero i in
    bit_at_or (high * 2 ^ 64 % 2 ^ 128) low i ∙ omega (arith, none)

both_high : (low high i : ℕ) → low < 2 ^ 64 → high < 2 ^ 64 → 64 ≤ i → bit_at (both low high) i ≡ bit_at high (i - 64)
unfolding both
both_high low high i small fits far =
    let none : bit_at low i ≡ 0 = bit_at_above low 64 i small far in
    let some : bit_at (high * 2 ^ 64 % 2 ^ 128) i ≡ bit_at high (i - 64) = ap (λ n. bit_at n i) (both_is high fits) ∙ bit_at_cat_high high 64 0 i (pow_pos 64) far in
    bit_at_or (high * 2 ^ 64 % 2 ^ 128) low i ∙ omega (arith, none, some)

-- the low word of a number
low_word : (n k : ℕ) → k < 64 → bit_at (bit_and n (2 ^ 64 - 1)) k ≡ bit_at n k
low_word n k lt = bit_at_and n (2 ^ 64 - 1) k ∙ omega (arith, bit_at_ones 64 k lt, bit_at-lt n k)

pub bit_across_low : (low high shift k : ℕ) → high < 2 ^ 64 → k < 64 → shift + k < 64
    → bit_at (bit_and (bit_or (high * 2 ^ 64 % 2 ^ 128) low / 2 ^ shift) (2 ^ 64 - 1)) k ≡ bit_at low (shift + k)
unfolding both
bit_across_low low high shift k fits lt near = low_word (both low high / 2 ^ shift) k lt ∙ bit_at-shr (both low high) shift k ∙ both_low low high (shift + k) fits near

pub bit_across_high : (low high shift k : ℕ) → low < 2 ^ 64 → high < 2 ^ 64 → k < 64 → 64 ≤ shift + k
    → bit_at (bit_and (bit_or (high * 2 ^ 64 % 2 ^ 128) low / 2 ^ shift) (2 ^ 64 - 1)) k ≡ bit_at high (shift + k - 64)
unfolding both
bit_across_high low high shift k small fits lt far = low_word (both low high / 2 ^ shift) k lt ∙ bit_at-shr (both low high) shift k ∙ both_high low high (shift + k) small fits far

-- ---- one bit is written
pub off : (a b : Bool) → b ≡ false → (a && b) ≡ false
off true b h = h
off false b h = refl

pub is_set-set : (words : ℕ) (times : List ℕ) (own at word other place : ℕ) (held : Bool) → own * words + at / 64 < length times → at < 64 * words → place < 64 * words
    → ((bit : ℕ) → bit < 64 → eqb (bit_at word bit) 1 ≡ cond (eqb bit (at % 64)) held (eqb (bit_at (get_or times (own * words + at / 64) 0) bit) 1))
    → is_set words (set times (own * words + at / 64) word) other place ≡ cond (eqb other own && eqb place at) held (is_set words times other place)
is_set-set words times own at word other place held lt a p written =
    let index = own * words + at / 64 in
    let bit = place % 64 in
    elim (cases_eq (other * words + place / 64) index) [
      | inl same ↦
          let is = same_place words (place / 64) other (at / 64) own (omega arith) (omega arith) same in
          let read = ap (λ k. get_or (set times index word) k 0) same ∙ get_or-set_same times index word 0 lt in
          let old = ap (λ k. eqb (bit_at (get_or times k 0) bit) 1) (sym same) in
          elim (cases_eq place at) [
            | inl here ↦
                ap (λ n. eqb (bit_at n bit) 1) read ∙ written bit (omega arith)
                ∙ ap (λ b. cond b held (eqb (bit_at (get_or times index 0) bit) 1)) (eq-eqb bit (at % 64) (ap (λ n. n % 64) here))
                ∙ sym (ap (λ b. cond (b && eqb place at) held (is_set words times other place)) (eq-eqb other own is.1) ∙ ap (λ b. cond b held (is_set words times other place)) (eq-eqb place at here))
            | inr apart ↦
                let ne : bit ≢ at % 64 = λ e. apart (omega (arith, e, is.0)) in
                ap (λ n. eqb (bit_at n bit) 1) read ∙ written bit (omega arith)
                ∙ ap (λ b. cond b held (eqb (bit_at (get_or times index 0) bit) 1)) (ne_eqb bit (at % 64) ne) ∙ old
                ∙ sym (ap (λ b. cond b held (is_set words times other place)) (off (eqb other own) (eqb place at) (ne_eqb place at apart)))
          ]
      | inr ne ↦
          let out : (eqb other own && eqb place at) ≡ false =
          elim (cases_eq other own) [
            | inl same ↦ off (eqb other own) (eqb place at) (ne_eqb place at (λ e. ne (ap (λ o. o * words + place / 64) same ∙ ap (λ q. own * words + q / 64) e)))
            | inr apart ↦ ap (λ b. b && eqb place at) (ne_eqb other own apart)
          ] in
          ap (λ n. eqb (bit_at n bit) 1) (get_or-set_other times index (other * words + place / 64) word 0 ne)
          ∙ sym (ap (λ b. cond b held (is_set words times other place)) out)
    ]

-- ---- places with a residue
-- the places that go on after an interval of 64 or more
pub residue_at : (ii residue p : ℕ) → 64 ≤ ii → p < ii + 64 → p % ii ≡ residue → (p ≡ residue) ⊎ (p ≡ residue + ii)
residue_at ii residue p long lt at =
    elim (cases_lt p ii) [
      | inl inside ↦ inl (sym (mod-eq_of_lt inside) ∙ at)
      | inr past ↦
          let small : p - ii < ii = omega arith in
          let whole : ii + (p - ii) ≡ p = omega arith in
          let is : p - ii ≡ residue = sym (mod-eq_of_lt small) ∙ sym (add-mod_left ii (p - ii)) ∙ ap (λ n. n % ii) whole ∙ at in
          inr (omega (arith, is))
    ]

residue_from : (ii residue p : ℕ) → residue < ii → (p ≡ residue) ⊎ (p ≡ residue + ii) → p % ii ≡ residue
residue_from ii residue p lt (inl e) = ap (λ n. n % ii) e ∙ mod-eq_of_lt lt
residue_from ii residue p lt (inr e) = let turn : residue + ii ≡ ii + residue = omega arith in ap (λ n. n % ii) (e ∙ turn) ∙ add-mod_left ii residue ∙ mod-eq_of_lt lt

-- both places with the residue are written, or the one that there is
pub two_written : (ii residue p : ℕ) (own held was mid new : Bool) → 64 ≤ ii → residue < ii → p < ii + 64 → mid ≡ cond (own && eqb p residue) held was
    → new ≡ cond (own && eqb p (residue + ii)) held mid → new ≡ cond (own && eqb (p % ii) residue) held was
two_written ii residue p false held was mid new long r lt m n = n ∙ m
two_written ii residue p true held was mid new long r lt m n =
    elim (cases_eq p residue) [
      | inl e ↦
          let apart : p ≢ residue + ii = λ f. absurd (omega (arith, e, f, long)) in
          n ∙ ap (λ b. cond b held mid) (ne_eqb p (residue + ii) apart) ∙ m ∙ ap (λ b. cond b held was) (eq-eqb p residue e)
          ∙ sym (ap (λ b. cond b held was) (eq-eqb (p % ii) residue (residue_from ii residue p r (inl e))))
      | inr ne ↦
          let mid_is : mid ≡ was = m ∙ ap (λ b. cond b held was) (ne_eqb p residue ne) in
          elim (cases_eq p (residue + ii)) [
            | inl f ↦
                n ∙ ap (λ b. cond b held mid) (eq-eqb p (residue + ii) f) ∙ sym (ap (λ b. cond b held was) (eq-eqb (p % ii) residue (residue_from ii residue p r (inr f))))
            | inr nf ↦
                let none : p % ii ≢ residue = λ at. absurd (elim (residue_at ii residue p long lt at) [ inl e ↦ ne e | inr f ↦ nf f ]) in
                n ∙ ap (λ b. cond b held mid) (ne_eqb p (residue + ii) nf) ∙ mid_is ∙ sym (ap (λ b. cond b held was) (ne_eqb (p % ii) residue none))
          ]
    ]

pub one_written : (ii residue p : ℕ) (own held was new : Bool) → 64 ≤ ii → residue < ii → p < ii + 64 → 64 ≤ residue → new ≡ cond (own && eqb p residue) held was
    → new ≡ cond (own && eqb (p % ii) residue) held was
one_written ii residue p false held was new long r lt far n = n
one_written ii residue p true held was new long r lt far n =
    let past : p ≢ residue + ii = λ f. absurd (omega (arith, f, lt, far)) in
    n ∙ elim (cases_eq p residue) [
      | inl e ↦ ap (λ b. cond b held was) (eq-eqb p residue e) ∙ sym (ap (λ b. cond b held was) (eq-eqb (p % ii) residue (residue_from ii residue p r (inl e))))
      | inr ne ↦
          let none : p % ii ≢ residue = λ at. absurd (elim (residue_at ii residue p long lt at) [ inl e ↦ ne e | inr f ↦ past f ]) in
          ap (λ b. cond b held was) (ne_eqb p residue ne) ∙ sym (ap (λ b. cond b held was) (ne_eqb (p % ii) residue none))
    ]

-- ---- 64 cycles
both_zero : (a b : ℕ) → a < 2 → b < 2 → eqb (max a b) 1 ≡ (eqb a 1 || eqb b 1)
both_zero a b la lb =
    elim (cases_eq a 1) [
      | inl one ↦ eq-eqb (max a b) 1 (omega arith) ∙ sym (ap (λ t. t || eqb b 1) (eq-eqb a 1 one))
      | inr ne ↦
          let is : max a b ≡ b = omega arith in
          ap (λ n. eqb n 1) is ∙ sym (ap (λ t. t || eqb b 1) (ne_eqb a 1 ne))
    ]

-- one slot more, whose word tells of the cycle
pub met_more : (ii : ℕ) (held : ℕ → ℕ → Bool) (slots : List Slot) (time k i : ℕ) (d : Slot) (was word : ℕ) → i < length slots
    → eqb (bit_at word k) 1 ≡ held (get_or slots i d).row.unit (residue_of ii (get_or slots i d).row (time + k))
    → eqb (bit_at was k) 1 ≡ meets_held ii held (rows_in (take i slots)) (time + k)
    → eqb (bit_at (bit_or was word) k) 1 ≡ meets_held ii held (rows_in (take (i + 1) slots)) (time + k)
met_more ii held slots time k i d was word lt here so_far =
    ap (λ n. eqb n 1) (bit_at_or was word k) ∙ both_zero (bit_at was k) (bit_at word k) (bit_at-lt was k) (bit_at-lt word k)
    ∙ ap (λ b. b || eqb (bit_at word k) 1) so_far ∙ ap (λ b. meets_held ii held (rows_in (take i slots)) (time + k) || b) here
    ∙ sym (meets_more ii held slots (time + k) i d lt)

pub cycle_more : (ii words : ℕ) (times : List ℕ) (held : ℕ → ℕ → Bool) (slots : List Slot) (time k i : ℕ) (d : Slot) (at was word : ℕ) → i < length slots
    → Tell ii words times held → (get_or slots i d).row.unit < 64 → at + k < ii + 64 → at ≡ residue_of ii (get_or slots i d).row time
    → bit_at word k ≡ bit_at (get_or times ((get_or slots i d).row.unit * words + (at + k) / 64) 0) ((at + k) % 64)
    → eqb (bit_at was k) 1 ≡ meets_held ii held (rows_in (take i slots)) (time + k)
    → eqb (bit_at (bit_or was word) k) 1 ≡ meets_held ii held (rows_in (take (i + 1) slots)) (time + k)
cycle_more ii words times held slots time k i d at was word lt tell unit within is read so_far =
    let row = (get_or slots i d).row in
    let same : (time + row.offset) + k ≡ (time + k) + row.offset = omega arith in
    let residue : (at + k) % ii ≡ residue_of ii row (time + k) = ap (λ n. (n + k) % ii) is ∙ mod-add-mod (time + row.offset) ii k ∙ ap (λ n. n % ii) same in
    let here : eqb (bit_at word k) 1 ≡ held row.unit (residue_of ii row (time + k)) = ap (λ n. eqb n 1) read ∙ tell row.unit (at + k) unit within ∙ ap (λ r. held row.unit r) residue in
    met_more ii held slots time k i d was word lt here so_far

-- what some of the slots meet, all do
pub meets_whole : (ii : ℕ) (held : ℕ → ℕ → Bool) (slots : List Slot) (n time : ℕ) → meets_held ii held (rows_in (take n slots)) time ≡ true → meets_held ii held (rows_in slots) time ≡ true
meets_whole ii held [] zero time h = h
meets_whole ii held [] (suc n) time h = h
meets_whole ii held (s ∷ slots) zero time h = absurd (true≢false (sym h))
meets_whole ii held (s ∷ slots) (suc n) time h =
    let here = held s.row.unit (residue_of ii s.row time) in
    elim (cases_Bool here) [
      | inl met ↦ ap (λ b. b || meets_held ii held (rows_in slots) time) met
      | inr apart ↦
          let rest : meets_held ii held (rows_in (take n slots)) time ≡ true = sym (ap (λ b. b || meets_held ii held (rows_in (take n slots)) time) apart) ∙ h in
          ap (λ b. b || meets_held ii held (rows_in slots) time) apart ∙ meets_whole ii held slots n time rest
    ]

pub all_set : (met k : ℕ) → met ≡ 2 ^ 64 - 1 → k < 64 → eqb (bit_at met k) 1 ≡ true
all_set met k is lt = eq-eqb (bit_at met k) 1 (ap (λ m. bit_at m k) is ∙ bit_at_ones 64 k lt)

pub none_set : (k : ℕ) (met : Bool) → met ≡ true → eqb (bit_at 0 k) 1 ≡ not met
none_set k met is = ap (λ n. eqb n 1) (bit_at-zero k) ∙ sym (ap not is)

-- a bit that is set stays so, and is not set in what is left
pub still_set : (met word k : ℕ) → bit_at met k ≡ 1 → bit_at (bit_or met word) k ≡ 1
still_set met word k one = omega (arith, bit_at_or met word k, one, bit_at-lt word k)

pub not_left : (met k : ℕ) → met < 2 ^ 64 → k < 64 → bit_at met k ≡ 1 → bit_at (2 ^ 64 - 1 - met) k ≡ 0
not_left met k fits lt one = omega (arith, bit_at_not w64 met k fits lt, one)

pub bit_of_rest : (met k : ℕ) → met < 2 ^ 64 → k < 64 → eqb (bit_at (2 ^ 64 - 1 - met) k) 1 ≡ not (eqb (bit_at met k) 1)
bit_of_rest met k fits lt =
    let is = bit_at_not w64 met k fits lt in
    elim (cases_eq (bit_at met k) 1) [
      | inl one ↦ ne_eqb (bit_at (2 ^ 64 - 1 - met) k) 1 (λ e. omega (arith, is, one, e)) ∙ sym (ap not (eq-eqb (bit_at met k) 1 one))
      | inr ne ↦ eq-eqb (bit_at (2 ^ 64 - 1 - met) k) 1 (omega (arith, is, bit_at-lt met k)) ∙ sym (ap not (ne_eqb (bit_at met k) 1 ne))
    ]

-- ---- a word turned round
turned : ℕ → ℕ → ℕ → ℕ
turned round ii residue = round * 2 ^ (ii - residue) % 2 ^ 64

pub turned_before : (round ii residue k : ℕ) → ii < 64 → residue + k < ii → bit_at (bit_or (round / 2 ^ residue) (round * 2 ^ (ii - residue) % 2 ^ 64)) k ≡ bit_at round (residue + k)
unfolding turned
turned_before round ii residue k short lt =
    bit_at_or (round / 2 ^ residue) (turned round ii residue) k ∙ ap (λ b. max (bit_at (round / 2 ^ residue) k) b) (bit_at-shl_below round (ii - residue) k (omega arith) (omega arith))
    ∙ omega (arith, bit_at-shr round residue k)

pub turned_after : (round ii residue k : ℕ) → ii < 64 → residue < ii → k < ii → ii ≤ residue + k → bit_at round (residue + k) ≡ 0
    → bit_at (bit_or (round / 2 ^ residue) (round * 2 ^ (ii - residue) % 2 ^ 64)) k ≡ bit_at round (residue + k - ii)
unfolding turned
turned_after round ii residue k short below lt past none =
    let place : k - (ii - residue) ≡ residue + k - ii = omega arith in
    let alone : max 0 (bit_at (turned round ii residue) k) ≡ bit_at (turned round ii residue) k = omega arith in
    bit_at_or (round / 2 ^ residue) (turned round ii residue) k ∙ ap (λ b. max b (bit_at (turned round ii residue) k)) (bit_at-shr round residue k ∙ none) ∙ alone
    ∙ bit_at-shl_above round (ii - residue) k (omega arith) (omega arith) ∙ ap (λ j. bit_at round j) place

-- no bit is set past the interval
pub no_bit_past : (ii : ℕ) (rounds : List ℕ) (held : ℕ → ℕ → Bool) (unit place : ℕ) → TellOnce ii rounds held → unit < 64 → ii ≤ place → get_or rounds unit 0 < 2 ^ 64
    → bit_at (get_or rounds unit 0) place ≡ 0
no_bit_past ii rounds held unit place tell u past fits =
    elim (cases_lt place 64) [
      | inl near ↦
          let clear = tell.clear unit place u past near in
          elim (cases_eq (bit_at (get_or rounds unit 0) place) 1) [
            | inl one ↦ absurd (true≢false (sym (eq-eqb (bit_at (get_or rounds unit 0) place) 1 one) ∙ clear))
            | inr ne ↦ omega (arith, ne, bit_at-lt (get_or rounds unit 0) place)
          ]
      | inr far ↦ bit_at_above (get_or rounds unit 0) 64 place fits far
    ]

-- one slot more, whose word is turned round
pub round_more : (ii : ℕ) (rounds : List ℕ) (held : ℕ → ℕ → Bool) (slots : List Slot) (time k i : ℕ) (d : Slot) (at was word : ℕ) → i < length slots
    → TellOnce ii rounds held → (get_or slots i d).row.unit < 64 → at < ii → k < ii → at ≡ residue_of ii (get_or slots i d).row time
    → get_or rounds (get_or slots i d).row.unit 0 < 2 ^ 64
    → (at + k < ii → bit_at word k ≡ bit_at (get_or rounds (get_or slots i d).row.unit 0) (at + k))
    → (ii ≤ at + k → bit_at (get_or rounds (get_or slots i d).row.unit 0) (at + k) ≡ 0 → bit_at word k ≡ bit_at (get_or rounds (get_or slots i d).row.unit 0) (at + k - ii))
    → eqb (bit_at was k) 1 ≡ meets_held ii held (rows_in (take i slots)) (time + k)
    → eqb (bit_at (bit_or was word) k) 1 ≡ meets_held ii held (rows_in (take (i + 1) slots)) (time + k)
round_more ii rounds held slots time k i d at was word lt tell unit below small is fits before after so_far =
    let row = (get_or slots i d).row in
    let same : (time + row.offset) + k ≡ (time + k) + row.offset = omega arith in
    let here : eqb (bit_at word k) 1 ≡ held row.unit (residue_of ii row (time + k)) =
    elim (cases_lt (at + k) ii) [
      | inl inside ↦
          let residue : residue_of ii row (time + k) ≡ at + k = ap (λ n. n % ii) (sym same) ∙ residue_later ii at (time + row.offset) k (sym is) inside in
          ap (λ n. eqb n 1) (before inside) ∙ tell.tell row.unit (at + k) unit inside ∙ ap (λ r. held row.unit r) (sym residue)
      | inr past ↦
          let residue : residue_of ii row (time + k) ≡ at + k - ii = ap (λ n. n % ii) (sym same) ∙ residue_around ii at (time + row.offset) k (omega arith) (sym is) (omega arith) past in
          ap (λ n. eqb n 1) (after past (no_bit_past ii rounds held row.unit (at + k) tell unit past fits)) ∙ tell.tell row.unit (at + k - ii) unit (omega arith) ∙ ap (λ r. held row.unit r) (sym residue)
    ] in
    met_more ii held slots time k i d was word lt here so_far

-- ---- the words of units as slots are written
pub is_on-set : (rounds : List ℕ) (own at word unit place : ℕ) (held : Bool) → own < length rounds → place < 64
    → ((bit : ℕ) → bit < 64 → eqb (bit_at word bit) 1 ≡ cond (eqb bit at) held (eqb (bit_at (get_or rounds own 0) bit) 1))
    → is_on (set rounds own word) unit place ≡ cond (eqb unit own && eqb place at) held (is_on rounds unit place)
is_on-set rounds own at word unit place held lt p w =
    elim (cases_eq unit own) [
      | inl same ↦
          let read : get_or (set rounds own word) unit 0 ≡ word = ap (λ k. get_or (set rounds own word) k 0) same ∙ get_or-set_same rounds own word 0 lt in
          ap (λ n. eqb (bit_at n place) 1) read ∙ w place p ∙ ap (λ k. cond (eqb place at) held (is_on rounds k place)) (sym same)
          ∙ ap (λ b. cond (b && eqb place at) held (is_on rounds unit place)) (sym (eq-eqb unit own same))
      | inr other ↦
          ap (λ n. eqb (bit_at n place) 1) (get_or-set_other rounds own unit word 0 other)
          ∙ ap (λ b. cond (b && eqb place at) held (is_on rounds unit place)) (sym (ne_eqb unit own other))
    ]
