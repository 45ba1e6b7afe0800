-- Values that are read no earlier than they land live to a cycle no earlier than their first one, within 2^32 cycles.
use Rattle.std.proofs.Common.{◌≡◌, ℕ, suc, zero, ◌+◌, ◌*◌, ◌<◌, ◌≤◌, min, max, Bool, true, false, eqb, List, [], ◌∷◌, length, map, Some, refl, ap, ◌∙◌, subst, inl, inr, arith}
use Rattle.std.specs.Prelude.{slice_get, slice_index, if◌then◌else◌}
use Rattle.std.specs.List.{All}
use Rattle.std.proofs.lemmas.Bool.{cases_eq, eq-eqb, ne_eqb, cond-true, cond-false}
use Rattle.std.proofs.lemmas.List.Elements.{All-nil, All-cons}
use Rattle.std.proofs.Math.Nat.{mul-le-mul_left}
use Rattle.registers.specs.declared.value.Value.{Value}
use Rattle.registers.specs.declared.value.Read.{Read}
use Rattle.registers.specs.Residues.{IsLifeSpan}
use Rattle.registers.specs.Values.{IsValue, IsRead, AreValues, AreReadInTime, LivesAreSpans, greatest_of, reads_of, carried, landing_of, read_at, last_read, first_cycle, live_of, lives_from, lives_of}

-- what holds of each element holds of the one at a place
at-place : {X : Type 0} (P : X → Type 0) (xs : List X) (k : ℕ) (x : X) → All P xs → slice_get xs k ≡ Some x → P x
at-place P [] k x all e = cc
at-place P (y ∷ xs) zero x all e = let same : y ≡ x = cc in subst P same (all 0 x (omega arith))
at-place P (y ∷ xs) (suc k) x all e = at-place P xs k x (λ i d lt. all (suc i) d (omega arith)) e

-- the last read is no earlier than the landing
pub late : (f : Read → ℕ) (landing number : ℕ) (reads : List Read) → ((k : ℕ) (r : Read) → slice_get reads k ≡ Some r → r.value ≡ number → landing ≤ f r)
    → landing ≤ last_read landing (map f (reads_of reads number))
late f landing number [] all = omega arith
late f landing number (r ∷ reads) all = elim (cases_eq r.value number) [
  | inl same ↦
      let e : last_read landing (map f (reads_of (r ∷ reads) number)) ≡ max (f r) (greatest_of (map f (reads_of reads number)))
      = ap (λ (rs : List Read). last_read landing (map f rs)) (cond-true (eqb r.value number) (r ∷ reads_of reads number) (reads_of reads number) (eq-eqb r.value number same)) in
      let h = all 0 r refl same in
      omega arith
  | inr apart ↦
      let e : last_read landing (map f (reads_of (r ∷ reads) number)) ≡ last_read landing (map f (reads_of reads number))
      = ap (λ (rs : List Read). last_read landing (map f rs)) (cond-false (eqb r.value number) (r ∷ reads_of reads number) (reads_of reads number) (ne_eqb r.value number apart)) in
      let h = late f landing number reads (λ k x there. all (suc k) x there) in
      omega arith
]

-- nor later than all that is read
greatest-within : (f : Read → ℕ) (most number : ℕ) (reads : List Read) → ((k : ℕ) (r : Read) → slice_get reads k ≡ Some r → f r ≤ most)
    → greatest_of (map f (reads_of reads number)) ≤ most
greatest-within f most number [] all = omega arith
greatest-within f most number (r ∷ reads) all =
    let h = greatest-within f most number reads (λ k x there. all (suc k) x there) in
    elim (cases_eq r.value number) [
      | inl same ↦
          let e : greatest_of (map f (reads_of (r ∷ reads) number)) ≡ max (f r) (greatest_of (map f (reads_of reads number)))
          = ap (λ (rs : List Read). greatest_of (map f rs)) (cond-true (eqb r.value number) (r ∷ reads_of reads number) (reads_of reads number) (eq-eqb r.value number same)) in
          let g = all 0 r refl in
          omega arith
      | inr apart ↦
          let e : greatest_of (map f (reads_of (r ∷ reads) number)) ≡ greatest_of (map f (reads_of reads number))
          = ap (λ (rs : List Read). greatest_of (map f rs)) (cond-false (eqb r.value number) (r ∷ reads_of reads number) (reads_of reads number) (ne_eqb r.value number apart)) in
          omega arith
    ]

last-most : (landing : ℕ) (ns : List ℕ) → last_read landing ns ≤ max landing (greatest_of ns)
last-most landing [] = omega arith
last-most landing (n ∷ ns) = omega arith

pub first-early : (ii landing iterations : ℕ) → first_cycle ii landing iterations ≤ landing
first-early ii landing iterations = elim (cases_eq iterations 0) [
  | inl none ↦ let e = cond-true (eqb iterations 0) landing (min landing ii) (eq-eqb iterations 0 none) in omega arith
  | inr some ↦ let e = cond-false (eqb iterations 0) landing (min landing ii) (ne_eqb iterations 0 some) in omega arith
]

at-most : (b : Bool) (n : ℕ) → (if b then n else 0) ≤ n
at-most true n = omega arith
at-most false n = omega arith

index-few : (xs : List ℕ) (n k : ℕ) → All (λ x. x < n) xs → slice_index xs k ≤ n
index-few [] n k all = omega arith
index-few (x ∷ xs) n zero all = let h : x < n = all 0 0 (omega arith) in omega arith
index-few (x ∷ xs) n (suc k) all = index-few xs n k (λ i d lt. all (suc i) d (omega arith))

life-span : (ii end : ℕ) (times : List ℕ) (values : List Value) (reads : List Read) → AreValues ii times values reads → AreReadInTime ii times values reads → end ≤ 4294967296
    → (number : ℕ) (x : Value) → slice_get values number ≡ Some x → IsLifeSpan (live_of ii times end reads number x)
life-span ii end times values reads are in_time few number x there =
    let landing : ℕ = landing_of times x in
    let interval = are.few in
    let value = at-place (IsValue (length times)) values number x are.each_value there in
    let lands = value.lands in
    let made = index-few times (64 * ii) x.maker are.issued in
    let a = first-early ii landing (carried reads number x.out) in
    let b = late (read_at ii times) landing number reads (λ k r at same. in_time k r x at (ap (slice_get values) same ∙ there)) in
    let c = greatest-within (read_at ii times) 2097152 number reads (λ k r at.
    let reading = at-place (IsRead (length times) (length values)) reads k r are.each_read at in
    let offset = reading.offset in
    let issued = index-few times (64 * ii) r.reader are.issued in
    let far : ii * r.distance ≤ ii * 16 = mul-le-mul_left ii reading.distance in
    omega arith) in
    let d = last-most landing (map (read_at ii times) (reads_of reads number)) in
    let e = at-most x.out end in
    record { ordered = omega arith; short = omega arith }

spans-from : (ii end : ℕ) (times : List ℕ) (reads : List Read) (number : ℕ) (values : List Value)
    → ((k : ℕ) (x : Value) → slice_get values k ≡ Some x → IsLifeSpan (live_of ii times end reads (number + k) x))
    → All IsLifeSpan (lives_from ii times end reads number values)
spans-from ii end times reads number [] all = All-nil IsLifeSpan
spans-from ii end times reads number (x ∷ values) all =
    let here : number + 0 ≡ number = omega arith in
    All-cons IsLifeSpan (live_of ii times end reads number x) (lives_from ii times end reads (number + 1) values)
    (subst (λ n. IsLifeSpan (live_of ii times end reads n x)) here (all 0 x refl))
    (spans-from ii end times reads (number + 1) values (λ k y there.
    let z : number + suc k ≡ (number + 1) + k = omega arith in
    subst (λ n. IsLifeSpan (live_of ii times end reads n y)) z (all (suc k) y there)))

pub lives-are_spans : LivesAreSpans
unfolding lives_of
lives-are_spans ii end times values reads are in_time few =
    spans-from ii end times reads 0 values (λ k x there.
    let z : k ≡ 0 + k = omega arith in
    subst (λ n. IsLifeSpan (live_of ii times end reads n x)) z (life-span ii end times values reads are in_time few k x there))
