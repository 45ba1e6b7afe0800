-- What lifetimes give: they begin no later than the landing, last to each read, and those of initial values are there at the start.
use Rattle.std.proofs.Common.{◌≡◌, ◌⊎◌, ℕ, suc, zero, ◌+◌, ◌-◌, ◌*◌, ◌<◌, ◌≤◌, min, max, Bool, true, false, eqb, List, [], ◌∷◌, length, map, Some, pos, negsuc, ◌-ℤ◌, refl, sym, ap, ◌∙◌, subst, inl, inr, arith}
use Rattle.std.specs.Prelude.{slice_get, if◌then◌else◌, ◌*ℤ◌}
use Rattle.std.proofs.lemmas.Bool.{cases_Bool, cases_eq, cases_lt, eq-eqb, ne_eqb, cond-true, cond-false, true≢false}
use Rattle.std.proofs.lemmas.Int.{ints}
use Rattle.std.proofs.lemmas.Option.{get_or_from_slice_get, slice_get-get_or, slice_get_within}
use Rattle.std.proofs.Math.IntN.{negsuc-*ℤ-pos}
use Rattle.registers.specs.declared.lifetime.Lifetime.{Lifetime}
use Rattle.registers.specs.declared.value.Value.{Value}
use Rattle.registers.specs.declared.value.Read.{Read}
use Rattle.registers.specs.Lifetimes.{IsLiveIn}
use Rattle.registers.specs.Values.{greatest_of, reads_of, landing_of, read_at, last_read, first_cycle, live_of, lives_from, lives_of}
use Rattle.registers.proofs.Whole.{times-more}
use Rattle.registers.proofs.lives.Spans.{first-early, late}
use Rattle.instances.specs.Runs.{RunData, IsRun, carried_by, landing, value_of}

-- the iteration `d` before iteration `j`, in cycles
pub times-back : (j d ii : ℕ) → ((pos j -ℤ pos d) *ℤ pos ii) ≡ (pos (ii * j) -ℤ pos (ii * d))
times-back j d ii = elim (cases_lt j d) [
  | inr le ↦
      let e : (pos j -ℤ pos d) ≡ pos (j - d) = omega (arith, ints) in
      let m : ii * j ≡ ii * d + ii * (j - d) = times-more ii d j le in
      let c : (j - d) * ii ≡ ii * (j - d) = omega arith in
      ap (λ z. z *ℤ pos ii) e ∙ (let f : (pos (j - d) *ℤ pos ii) ≡ pos ((j - d) * ii) = refl in omega (arith, ints))
  | inl lt ↦
      let n : ℕ = d - suc j in
      let e : (pos j -ℤ pos d) ≡ negsuc n = omega (arith, ints) in
      let m : ii * d ≡ ii * j + ii * (d - j) = times-more ii j d (omega arith) in
      let s : d - j ≡ suc n = omega arith in
      let c : suc n * ii ≡ ii * (d - j) = ap (λ k. k * ii) (sym s) ∙ (let x : (d - j) * ii ≡ ii * (d - j) = omega arith in x) in
      ap (λ z. z *ℤ pos ii) e ∙ negsuc-*ℤ-pos n ii ∙ (omega (arith, ints))
]

-- the lifetime of a value

pub life : RunData → ℕ → Lifetime
life run v = live_of run.ii run.times run.end run.reads v (value_of run v)

lives-at : (ii : ℕ) (times : List ℕ) (end : ℕ) (reads : List Read) (number : ℕ) (values : List Value) (k : ℕ) (x : Value)
    → slice_get values k ≡ Some x → slice_get (lives_from ii times end reads number values) k ≡ Some (live_of ii times end reads (number + k) x)
lives-at ii times end reads number [] k x there = cc
lives-at ii times end reads number (y ∷ values) zero x there =
    let same : y ≡ x = cc in
    let z : number ≡ number + 0 = omega arith in
    ap (λ w. Some (live_of ii times end reads number w)) same ∙ ap (λ n. Some (live_of ii times end reads n x)) z
lives-at ii times end reads number (y ∷ values) (suc k) x there =
    let z : (number + 1) + k ≡ number + suc k = omega arith in
    lives-at ii times end reads (number + 1) values k x there ∙ ap (λ n. Some (live_of ii times end reads n x)) z

pub value-there : (run : RunData) (v : ℕ) → v < length run.values → slice_get run.values v ≡ Some (value_of run v)
value-there run v within = slice_get-get_or run.values v (record { maker = 0; lands = 0; out = false }) within

pub life-there : (run : RunData) (v : ℕ) → v < length run.values → slice_get (lives_of run.ii run.times run.end run.values run.reads) v ≡ Some (life run v)
unfolding lives_of life
life-there run v within =
    let z : 0 + v ≡ v = omega arith in
    lives-at run.ii run.times run.end run.reads 0 run.values v (value_of run v) (value-there run v within)
    ∙ ap (λ n. Some (live_of run.ii run.times run.end run.reads n (value_of run v))) z

-- reads of a value

taken : (r : Read) (reads : List Read) (v : ℕ) → r.value ≡ v → reads_of (r ∷ reads) v ≡ r ∷ reads_of reads v
taken r reads v same = cond-true (eqb r.value v) (r ∷ reads_of reads v) (reads_of reads v) (eq-eqb r.value v same)

left : (r : Read) (reads : List Read) (v : ℕ) → (r.value ≡ v → ⊥) → reads_of (r ∷ reads) v ≡ reads_of reads v
left r reads v apart = cond-false (eqb r.value v) (r ∷ reads_of reads v) (reads_of reads v) (ne_eqb r.value v apart)

abbrev most : (Read → ℕ) → List Read → ℕ → ℕ
most f reads v = greatest_of (map f (reads_of reads v))

most-first : (f : Read → ℕ) (r : Read) (reads : List Read) (v : ℕ) → r.value ≡ v → most f (r ∷ reads) v ≡ max (f r) (most f reads v)
most-first f r reads v same = ap (λ (rs : List Read). greatest_of (map f rs)) (taken r reads v same)

most-other : (f : Read → ℕ) (r : Read) (reads : List Read) (v : ℕ) → (r.value ≡ v → ⊥) → most f (r ∷ reads) v ≡ most f reads v
most-other f r reads v apart = ap (λ (rs : List Read). greatest_of (map f rs)) (left r reads v apart)

-- each read of a value is at most the greatest
read-most : (f : Read → ℕ) (reads : List Read) (v k : ℕ) (r : Read) → slice_get reads k ≡ Some r → r.value ≡ v → f r ≤ most f reads v
read-most f [] v k r there same = cc
read-most f (x ∷ reads) v zero r there same =
    let e : x ≡ r = cc in
    let g = most-first f x reads v (ap (λ (y : Read). y.value) e ∙ same) in
    let h : f x ≡ f r = ap f e in
    omega arith
read-most f (x ∷ reads) v (suc k) r there same =
    let i = read-most f reads v k r there same in
    elim (cases_eq x.value v) [
      | inl met ↦ let g = most-first f x reads v met in omega arith
      | inr apart ↦ let g = most-other f x reads v apart in omega arith
    ]

-- and the greatest, where it is above 0, is that of some read
pub record IsMost (f : Read → ℕ) (reads : List Read) (v : ℕ) : Type 0 where
  pub number : ℕ
  pub reading : Read
  pub there : slice_get reads number ≡ Some reading
  pub of_value : reading.value ≡ v
  pub is : f reading ≡ most f reads v

most-later : (f : Read → ℕ) (x : Read) (reads : List Read) (v : ℕ) → most f (x ∷ reads) v ≡ most f reads v → IsMost f reads v → IsMost f (x ∷ reads) v
most-later f x reads v e m = record { number = suc m.number; reading = m.reading; there = m.there; of_value = m.of_value; is = m.is ∙ sym e }

most-reached : (f : Read → ℕ) (reads : List Read) (v : ℕ) → (most f reads v ≡ 0) ⊎ IsMost f reads v
most-reached f [] v = inl refl
most-reached f (x ∷ reads) v = elim (cases_eq x.value v) [
  | inl same ↦
      let g = most-first f x reads v same in
      elim (cases_lt (f x) (most f reads v)) [
        | inl lt ↦ elim (most-reached f reads v) [
          | inl none ↦ absurd (omega arith)
          | inr m ↦ inr (most-later f x reads v (omega arith) m)
        ]
        | inr ge ↦ inr (record { number = 0; reading = x; there = refl; of_value = same; is = omega arith })
      ]
  | inr apart ↦
      let g = most-other f x reads v apart in
      elim (most-reached f reads v) [
        | inl none ↦ inl (g ∙ none)
        | inr m ↦ inr (most-later f x reads v g m)
      ]
]

last-most : (landing : ℕ) (ns : List ℕ) → greatest_of ns ≤ last_read landing ns
last-most landing [] = omega arith
last-most landing (n ∷ ns) = omega arith

-- a value's lifetime

first-interval : (ii landing iterations : ℕ) → 1 ≤ iterations → first_cycle ii landing iterations ≤ ii
first-interval ii landing iterations some =
    let e = cond-false (eqb iterations 0) landing (min landing ii) (ne_eqb iterations 0 (λ z. omega arith)) in omega arith

pub if-on : (b : Bool) (n : ℕ) → b ≡ true → (if b then n else 0) ≡ n
if-on true n e = refl
if-on false n e = absurd (true≢false (sym e))

if-off : (b : Bool) (n : ℕ) → b ≡ false → (if b then n else 0) ≡ 0
if-off true n e = absurd (true≢false e)
if-off false n e = refl

module _ (run : RunData) (is : IsRun run) where
  -- the value of a read
  pub read-within : (n : ℕ) (r : Read) → slice_get run.reads n ≡ Some r → r.value < length run.values
  read-within n r there =
      let within = slice_get_within run.reads n r there in
      let e = get_or_from_slice_get run.reads n r r there in
      subst (λ (x : Read). x.value < length run.values) e (is.lists.each_read n r within).value

  -- a value is carried as far as it is read
  pub carried-far : (n : ℕ) (r : Read) → slice_get run.reads n ≡ Some r → r.distance ≤ carried_by run r.value
  carried-far n r there = let m = read-most (λ (x : Read). x.distance) run.reads r.value n r there refl in omega arith

  -- it has begun when it lands, and by the interval where it is carried on
  pub begins-by_landing : (v : ℕ) → (life run v).first ≤ landing_of run.times (value_of run v)
  unfolding life
  begins-by_landing v = first-early run.ii (landing_of run.times (value_of run v)) (carried_by run v)

  pub begins-by_interval : (v : ℕ) → 1 ≤ carried_by run v → (life run v).first ≤ run.ii
  unfolding life
  begins-by_interval v some = first-interval run.ii (landing_of run.times (value_of run v)) (carried_by run v) some

  -- it lives when it lands, and when it is read
  pub lasts-to_landing : (v : ℕ) → v < length run.values → landing_of run.times (value_of run v) ≤ (life run v).last
  unfolding life
  lasts-to_landing v within =
      let l = late (read_at run.ii run.times) (landing_of run.times (value_of run v)) v run.reads
      (λ k r there same. is.in_time k r (value_of run v) there (ap (slice_get run.values) same ∙ value-there run v within)) in
      omega arith

  pub lasts-to_read : (n : ℕ) (r : Read) → slice_get run.reads n ≡ Some r → read_at run.ii run.times r ≤ (life run r.value).last
  unfolding life
  lasts-to_read n r there =
      let m = read-most (read_at run.ii run.times) run.reads r.value n r there refl in
      let l = last-most (landing_of run.times (value_of run r.value)) (map (read_at run.ii run.times) (reads_of run.reads r.value)) in
      omega arith

  -- one that is live at the end lives until then
  pub lasts-to_end : (v : ℕ) → (value_of run v).out ≡ true → run.end ≤ (life run v).last
  unfolding life
  lasts-to_end v out = let e = if-on (value_of run v).out run.end out in omega arith

  pub lands-by_end : (v : ℕ) → v < length run.values → landing_of run.times (value_of run v) ≤ run.end
  lands-by_end v within = is.lasts v (record { maker = 0; lands = 0; out = false }) within

  -- a value that is carried on over `m` iterations lives for `m` intervals, or it is live at the end
  pub lasts-when_carried : (v m : ℕ) → 1 ≤ m → m ≤ carried_by run v → (run.ii * m ≤ (life run v).last) ⊎ ((m ≡ 1) × (run.end ≤ (life run v).last))
  lasts-when_carried v m some le = elim (cases_lt (most (λ (r : Read). r.distance) run.reads v) m) [
    | inr far ↦ elim (most-reached (λ (r : Read). r.distance) run.reads v) [
      | inl none ↦ absurd (omega arith)
      | inr r ↦
          let e : r.reading.distance ≡ most (λ (x : Read). x.distance) run.reads v = r.is in
          let l = lasts-to_read r.number r.reading r.there in
          let same : (life run r.reading.value).last ≡ (life run v).last = ap (λ w. (life run w).last) r.of_value in
          let more : run.ii * r.reading.distance ≡ run.ii * m + run.ii * (r.reading.distance - m) = times-more run.ii m r.reading.distance (omega arith) in
          inl (omega arith)
    ]
    | inl near ↦ elim (cases_Bool (value_of run v).out) [
      | inl out ↦ let e = if-on (value_of run v).out 1 out in inr (omega arith, lasts-to_end v out)
      | inr off ↦ let e = if-off (value_of run v).out 1 off in absurd (omega arith)
    ]
  ]

  -- an instance lives in the cycle in which it lands
  pub lives-at_landing : (v k : ℕ) → v < length run.values → IsLiveIn run.ii (life run v) (pos k) (pos (landing run v k))
  lives-at_landing v k within =
      let b = begins-by_landing v in
      let l = lasts-to_landing v within in
      let c : k * run.ii ≡ run.ii * k = omega arith in
      let f : (pos k *ℤ pos run.ii) ≡ pos (k * run.ii) = refl in
      record { begun = omega (arith, ints); lasts = omega (arith, ints) }
