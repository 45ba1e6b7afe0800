-- Bits of gaps between rows of one unit, and of the multiples of an interval.
use Rattle.std.proofs.Common.{◌≡◌, ◌≢◌, ℕ, ◌+◌, ◌-◌, ◌*◌, ◌/◌, ◌%◌, ◌^◌, ◌<◌, ◌≤◌, inl, inr, Bool, true, false, not, ◌&&◌, ◌||◌, cond, eqb, bit_and, bit_or, List, length, get_or, drop, take, sym, ap, ◌∙◌, arith, eq-eqb, zero-add}
use Rattle.std.specs.Int.{bit_at}
use Rattle.std.specs.List.{list_any}
use Rattle.std.proofs.Math.Nat.{add-mod, mod-eq_of_lt, mod-eq-sub-mod, mod-lt, mod-add-div', mul-mod_left, mul-div_cancel, mul-le-mul_right, div-mul-le_self}
use Rattle.std.proofs.Math.Bool.{or-false, or-true, or_comm}
use Rattle.std.proofs.lemmas.Bool.{cases_eq, cases_lt, ne_eqb}
use Rattle.std.proofs.lemmas.Nat.{and_comm, and_assoc, and_or_self, and_or_apart}
use Rattle.std.proofs.lemmas.List.Folds.{list_any_more}
use Rattle.machine_data.specs.declared.alternative.Row.{Row}
use Rattle.machine_data.specs.Alternative.{residue_of, rows_meet, collides}
use Rattle.mrt.specs.declared.rosters.slot.Slot.{Slot}
use Rattle.mrt.specs.inner.Marks.{Tells}
use Rattle.mrt.specs.inner.Slots.{rows_in}
use Rattle.mrt.proofs.placements.Lists.{list_any-map}
use Rattle.mrt.proofs.placements.Choosing.{collides-drop}
use Rattle.mrt.proofs.slots.Masking.{with_set, test_is}

-- ---- bits that two words share
abbrev pub share : ℕ → ℕ → Bool
share a b = not (eqb (bit_and a b) 0)

share_or : (a b m : ℕ) → share (bit_or a b) m ≡ (share a m || share b m)
share_or a b m =
    elim (cases_eq (bit_and b m) 0) [
      | inl none ↦
          ap (λ n. not (eqb n 0)) (and_or_apart m a b none) ∙ sym (or-false (share a m)) ∙ ap (λ t. share a m || not t) (sym (eq-eqb (bit_and b m) 0 none))
      | inr some ↦
          let whole : bit_and b m ≡ bit_and (bit_and (bit_or a b) m) b =
          ap (λ n. bit_and n m) (sym (and_or_self b a)) ∙ and_assoc m (bit_or a b) b ∙ ap (λ n. bit_and (bit_or a b) n) (and_comm b m) ∙ sym (and_assoc b (bit_or a b) m) in
          let own : share b m ≡ true = ap not (ne_eqb (bit_and b m) 0 some) in
          let both : share (bit_or a b) m ≡ true = ap not (ne_eqb (bit_and (bit_or a b) m) 0 (λ e. some (whole ∙ ap (λ n. bit_and n b) e))) in
          both ∙ sym (ap (λ t. share a m || t) own ∙ or-true (share a m))
    ]

-- two things, of which one or the other holds
pub Tells-or : (a b : ℕ) (p q : ℕ → Bool) → Tells a p → Tells b q → Tells (bit_or a b) (λ at. p at || q at)
Tells-or a b p q ta tb ii multiples some are =
    ap (λ t. t || q ii) (ta ii multiples some are) ∙ ap (λ t. share a multiples || t) (tb ii multiples some are) ∙ sym (share_or a b multiples)

-- one gap
Tells-gap : (mask gap : ℕ) → mask ≡ 2 ^ gap → gap < 64 → Tells mask (λ at. eqb (gap % at) 0)
Tells-gap mask gap m lt ii multiples some are =
    sym (are gap lt) ∙ sym (test_is multiples mask gap m) ∙ ap (λ n. not (eqb n 0)) (and_comm multiples mask)

-- ---- residues
same_residue : (m a d : ℕ) → 0 < m → eqb ((a + d) % m) (a % m) ≡ eqb (d % m) 0
same_residue m a d some =
    let r = a % m in
    let t = d % m in
    let whole : (a + d) % m ≡ (r + t) % m = add-mod a d m in
    let r_less : r < m = mod-lt a some in
    let t_less : t < m = mod-lt d some in
    elim (cases_lt (r + t) m) [
      | inl below ↦
          let is : (a + d) % m ≡ r + t = whole ∙ mod-eq_of_lt below in
          elim (cases_eq t 0) [
            | inl zero ↦ eq-eqb ((a + d) % m) r (omega (arith, is, zero)) ∙ sym (eq-eqb t 0 zero)
            | inr more ↦ ne_eqb ((a + d) % m) r (λ e. more (omega (arith, is, e))) ∙ sym (ne_eqb t 0 more)
          ]
      | inr past ↦
          let less : r + t - m < m = omega arith in
          let is : (a + d) % m ≡ r + t - m = whole ∙ mod-eq-sub-mod past ∙ mod-eq_of_lt less in
          ne_eqb ((a + d) % m) r (λ e. omega (arith, is, e, t_less, past)) ∙ sym (ne_eqb t 0 (λ e. omega (arith, past, r_less, e)))
    ]

eqb_turned : (a b : ℕ) → eqb a b ≡ eqb b a
eqb_turned a b =
    elim (cases_eq a b) [
      | inl same ↦ eq-eqb a b same ∙ sym (eq-eqb b a (sym same))
      | inr other ↦ ne_eqb a b other ∙ sym (ne_eqb b a (λ e. other (sym e)))
    ]

-- two rows of one unit meet where an interval divides the gap between their offsets
rows_meet-gap : (at gap : ℕ) (a b : Row) → 0 < at → a.unit ≡ b.unit → gap ≡ (a.offset - b.offset) + (b.offset - a.offset) → rows_meet at a 0 b 0 ≡ eqb (gap % at) 0
rows_meet-gap at gap a b some unit is =
    let x = a.offset in
    let y = b.offset in
    let plain : rows_meet at a 0 b 0 ≡ eqb (x % at) (y % at) =
    ap (λ t. t && eqb ((0 + x) % at) ((0 + y) % at)) (eq-eqb a.unit b.unit unit)
    ∙ ap (λ n. eqb (n % at) ((0 + y) % at)) (zero-add x) ∙ ap (λ n. eqb (x % at) (n % at)) (zero-add y) in
    elim (cases_lt x y) [
      | inl less ↦
          let far : y ≡ x + gap = omega (arith, is, less) in
          plain ∙ eqb_turned (x % at) (y % at) ∙ ap (λ n. eqb (n % at) (x % at)) far ∙ same_residue at x gap some
      | inr from ↦
          let far : x ≡ y + gap = omega (arith, is, from) in
          plain ∙ ap (λ n. eqb (n % at) (y % at)) far ∙ same_residue at y gap some
    ]

-- ---- rows of which one meets another
abbrev pub meets : Row → List Slot → ℕ → Bool
meets row others at = list_any (λ s. rows_meet at row 0 s 0) (rows_in others)

meets_more : (row : Row) (others : List Slot) (k : ℕ) (d : Slot) (at : ℕ) → k < length others
    → meets row (take (k + 1) others) at ≡ (meets row (take k others) at || rows_meet at row 0 (get_or others k d).row 0)
meets_more row others k d at lt =
    list_any-map (λ s. rows_meet at row 0 s 0) (λ (s : Slot). s.row) (take (k + 1) others)
    ∙ list_any_more (λ (s : Slot). rows_meet at row 0 s.row 0) others k d lt
    ∙ ap (λ t. t || rows_meet at row 0 (get_or others k d).row 0) (sym (list_any-map (λ s. rows_meet at row 0 s 0) (λ (s : Slot). s.row) (take k others)))

module _ (row : Row) (others : List Slot) (k : ℕ) (d : Slot) (lt : k < length others) (gaps : ℕ) (told : Tells gaps (meets row (take k others))) where
  -- one more that is of the row's unit
  pub Tells-one : (mask gap : ℕ) → mask ≡ 2 ^ gap → gap < 64 → row.unit ≡ (get_or others k d).row.unit
      → gap ≡ (row.offset - (get_or others k d).row.offset) + ((get_or others k d).row.offset - row.offset) → Tells (bit_or gaps mask) (meets row (take (k + 1) others))
  Tells-one mask gap m few unit is ii multiples some are =
      let other = (get_or others k d).row in
      meets_more row others k d ii lt ∙ ap (λ t. meets row (take k others) ii || t) (rows_meet-gap ii gap row other some unit is)
      ∙ Tells-or gaps mask (meets row (take k others)) (λ at. eqb (gap % at) 0) told (Tells-gap mask gap m few) ii multiples some are

  -- one more of another unit
  pub Tells-other : row.unit ≢ (get_or others k d).row.unit → Tells gaps (meets row (take (k + 1) others))
  Tells-other unit ii multiples some are =
      let other = (get_or others k d).row in
      meets_more row others k d ii lt ∙ ap (λ t. meets row (take k others) ii || (t && eqb (residue_of ii row 0) (residue_of ii other 0))) (ne_eqb row.unit other.unit unit)
      ∙ or-false (meets row (take k others) ii) ∙ told ii multiples some are

-- ---- slots from a place on, and the one before them
abbrev pub collide : List Slot → ℕ → Bool
collide slots at = collides at (rows_in slots)

module _ (slots : List Slot) (k : ℕ) (d : Slot) (lt : k < length slots) (gaps : ℕ) (told : Tells gaps (collide (drop (k + 1) slots))) where
  -- it meets some of them, at the intervals that more bits tell of
  pub Tells-before : (more : ℕ) → Tells more (meets (get_or slots k d).row (drop (k + 1) slots)) → Tells (bit_or gaps more) (collide (drop k slots))
  Tells-before more own ii multiples some are =
      collides-drop ii slots k d lt ∙ or_comm (meets (get_or slots k d).row (drop (k + 1) slots) ii) (collide (drop (k + 1) slots) ii)
      ∙ Tells-or gaps more (collide (drop (k + 1) slots)) (meets (get_or slots k d).row (drop (k + 1) slots)) told own ii multiples some are

  -- it meets none of them
  pub Tells-apart : ((at : ℕ) → meets (get_or slots k d).row (drop (k + 1) slots) at ≡ false) → Tells gaps (collide (drop k slots))
  Tells-apart none ii multiples some are =
      collides-drop ii slots k d lt ∙ ap (λ t. t || collide (drop (k + 1) slots) ii) (none ii) ∙ told ii multiples some are

-- ---- the multiples of an interval
module _ (ii bits count : ℕ) (some : 0 < ii) (mask : ℕ) (m : mask ≡ 2 ^ (count * ii)) (rest : (c : ℕ) → count ≤ c / ii → eqb (bit_at bits c) 1 ≡ false) where
  pub multiples_told : ((c : ℕ) → c / ii < count → eqb (bit_at bits c) 1 ≡ eqb (c % ii) 0) → (c : ℕ) → c / ii < count + 1 → eqb (bit_at (bit_or bits mask) c) 1 ≡ eqb (c % ii) 0
  multiples_told told c lt =
      with_set bits mask (count * ii) c m ∙
      elim (cases_eq c (count * ii)) [
        | inl same ↦
            ap (λ b. cond b true (eqb (bit_at bits c) 1)) (eq-eqb c (count * ii) same)
            ∙ sym (eq-eqb (c % ii) 0 (ap (λ n. n % ii) same ∙ mul-mod_left count ii))
        | inr other ↦
            ap (λ b. cond b true (eqb (bit_at bits c) 1)) (ne_eqb c (count * ii) other) ∙
            elim (cases_lt (c / ii) count) [
              | inl before ↦ told c before
              | inr from ↦
                  let at : c / ii ≡ count = omega arith in
                  let lies = λ (e : c % ii ≡ 0). sym (mod-add-div' c ii) ∙ ap (λ n. n + c / ii * ii) e ∙ zero-add (c / ii * ii) ∙ ap (λ n. n * ii) at in
                  rest c from ∙ sym (ne_eqb (c % ii) 0 (λ e. other (lies e)))
            ]
      ]

  pub multiples_rest : (c : ℕ) → count + 1 ≤ c / ii → eqb (bit_at (bit_or bits mask) c) 1 ≡ false
  multiples_rest c past =
      let own = λ (e : c ≡ count * ii). ap (λ n. n / ii) e ∙ mul-div_cancel count some in
      let other : c ≢ count * ii = λ e. omega (arith, past, own e) in
      with_set bits mask (count * ii) c m ∙ ap (λ b. cond b true (eqb (bit_at bits c) 1)) (ne_eqb c (count * ii) other) ∙ rest c (omega (arith, past))

pub multiple_below : (ii count : ℕ) → count ≤ 63 / ii → count * ii < 64
multiple_below ii count le = omega (arith, mul-le-mul_right ii le, div-mul-le_self 63 ii)
