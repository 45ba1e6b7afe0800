-- The gaps that are left where an arc is taken out of one of them.
use Rattle.std.proofs.Common.{◌≡◌, ◌≢◌, ◌↔◌, ◌⊎◌, ℕ, suc, zero, ◌+◌, ◌-◌, ◌<◌, ◌≤◌, List, [], ◌∷◌, length, set, Some, refl, sym, ap, ◌∙◌, inl, inr, arith}
use Rattle.std.specs.Prelude.{slice_get, insert}
use Rattle.std.proofs.lemmas.Bool.{cases_eq, cases_lt, cases_order}
use Rattle.std.proofs.lemmas.List.{length-set}
use Rattle.registers.proofs.allotted.Least.{place-within}
use Rattle.registers.specs.inner.Gaps.{AreInOrder, Fits, Overlap}
use Rattle.registers.specs.declared.numbers.gaps.Gap.{Gap}

pub set-there : {X : Type 0} (xs : List X) (k : ℕ) (x : X) → k < length xs → slice_get (set xs k x) k ≡ Some x
set-there [] k x lt = absurd (omega arith)
set-there (y ∷ xs) zero x lt = refl
set-there (y ∷ xs) (suc k) x lt = set-there xs k x (omega arith)

pub set-else : {X : Type 0} (xs : List X) (k j : ℕ) (x : X) → j ≢ k → slice_get (set xs k x) j ≡ slice_get xs j
set-else [] k j x apart = refl
set-else (y ∷ xs) zero zero x apart = absurd (apart refl)
set-else (y ∷ xs) zero (suc j) x apart = refl
set-else (y ∷ xs) (suc k) zero x apart = refl
set-else (y ∷ xs) (suc k) (suc j) x apart = set-else xs k j x (λ e. apart (ap suc e))

insert-before : {X : Type 0} (xs : List X) (i j : ℕ) (x : X) → j < i → i ≤ length xs → slice_get (insert xs i x) j ≡ slice_get xs j
insert-before xs zero j x lt le = absurd (omega arith)
insert-before [] (suc i) j x lt le = absurd (omega arith)
insert-before (y ∷ xs) (suc i) zero x lt le = refl
insert-before (y ∷ xs) (suc i) (suc j) x lt le = insert-before xs i j x (omega arith) (omega arith)

insert-there : {X : Type 0} (xs : List X) (i : ℕ) (x : X) → i ≤ length xs → slice_get (insert xs i x) i ≡ Some x
insert-there xs zero x le = refl
insert-there [] (suc i) x le = absurd (omega arith)
insert-there (y ∷ xs) (suc i) x le = insert-there xs i x (omega arith)

insert-after : {X : Type 0} (xs : List X) (i j : ℕ) (x : X) → i ≤ j → i ≤ length xs → slice_get (insert xs i x) (suc j) ≡ slice_get xs j
insert-after xs zero j x le l = refl
insert-after [] (suc i) j x le l = absurd (omega arith)
insert-after (y ∷ xs) (suc i) zero x le l = absurd (omega arith)
insert-after (y ∷ xs) (suc i) (suc j) x le l = insert-after xs i j x (omega arith) (omega arith)

-- two gaps are apart
gaps-apart : (gaps : List Gap) (around k l : ℕ) (one other : Gap) → AreInOrder around gaps → slice_get gaps k ≡ Some one → slice_get gaps l ≡ Some other → k ≢ l
    → (one.start + one.room ≤ other.start) ⊎ (other.start + other.room ≤ one.start)
gaps-apart gaps around k l one other is here there ne = elim (cases_order k l) [
  | inl same ↦ absurd (ne same)
  | inr o ↦ elim o [
    | inl lt ↦ inl (is.order k l one other lt here there)
    | inr gt ↦ inr (is.order l k other one gt there here)
  ]
]

-- what fits into another gap has nothing in common with the arc
else-apart : (gaps : List Gap) (around k l a n at long : ℕ) (one other : Gap) → AreInOrder around gaps → slice_get gaps k ≡ Some one → slice_get gaps l ≡ Some other → k ≢ l
    → other.start ≤ a → a + n < other.start + other.room → one.start ≤ at → at + long < one.start + one.room → ¬ Overlap a n at long
else-apart gaps around k l a n at long one other is here there ne low high from to o =
    let x = o.0 in let y = o.1 in
    elim (gaps-apart gaps around k l one other is here there ne) [
      | inl before ↦ omega arith
      | inr remainder ↦ omega arith
    ]

abbrev pub LeavesFits : List Gap → List Gap → ℕ → ℕ → Type 0
LeavesFits old new at long = (a n : ℕ) → Fits new a n ↔ (Fits old a n × ¬ Overlap a n at long)

cases-apart : (a n at long : ℕ) → ¬ Overlap a n at long → (a + n < at) ⊎ (at + long < a)
cases-apart a n at long not = elim (cases_lt (a + n) at) [
  | inl lt ↦ inl lt
  | inr ge ↦ elim (cases_lt (at + long) a) [
    | inl lt ↦ inr lt
    | inr le ↦ absurd (not (omega arith, omega arith))
  ]
]

-- an arc at the start of its gap leaves what is after it
pub start-left : (gaps : List Gap) (around k at long : ℕ) (gap remainder : Gap) → AreInOrder around gaps → slice_get gaps k ≡ Some gap → at ≡ gap.start → at + long < gap.start + gap.room
    → remainder.start ≡ at + long + 1 → remainder.start + remainder.room ≡ gap.start + gap.room → LeavesFits gaps (set gaps k remainder) at long
start-left gaps around k at long gap remainder is here begin inside start end a n =
    let within = place-within gaps gap k here in (
      λ f. elim (cases_eq f.0 k) [
        | inl same ↦
            let e : Some f.1.0 ≡ Some remainder = sym f.1.1 ∙ ap (slice_get (set gaps k remainder)) same ∙ set-there gaps k remainder within in
            let g : f.1.0 ≡ remainder = cc in
            let s : f.1.0.start ≡ remainder.start = ap (λ (x : Gap). x.start) g in
            let r : f.1.0.room ≡ remainder.room = ap (λ (x : Gap). x.room) g in
            let low = f.1.2 in let high = f.1.3 in
            ((k, (gap, here, omega arith, omega arith)), λ o. let x = o.0 in omega arith)
        | inr ne ↦
            let e : slice_get gaps f.0 ≡ Some f.1.0 = sym (set-else gaps k f.0 remainder ne) ∙ f.1.1 in
            ((f.0, (f.1.0, e, f.1.2, f.1.3)), else-apart gaps around k f.0 a n at long gap f.1.0 is here e (λ z. ne (sym z)) f.1.2 f.1.3 (omega arith) inside)
      ],
      λ both.
          let f = both.0 in
          elim (cases_eq f.0 k) [
            | inl same ↦
                let e : Some f.1.0 ≡ Some gap = sym f.1.1 ∙ ap (slice_get gaps) same ∙ here in
                let g : f.1.0 ≡ gap = cc in
                let s : f.1.0.start ≡ gap.start = ap (λ (x : Gap). x.start) g in
                let r : f.1.0.room ≡ gap.room = ap (λ (x : Gap). x.room) g in
                let low = f.1.2 in let high = f.1.3 in
                elim (cases-apart a n at long both.1) [
                  | inl before ↦ absurd (omega arith)
                  | inr after ↦ (k, (remainder, set-there gaps k remainder within, omega arith, omega arith))
                ]
            | inr ne ↦ (f.0, (f.1.0, set-else gaps k f.0 remainder ne ∙ f.1.1, f.1.2, f.1.3))
          ],
    )

-- and another one what is before it, too

abbrev Between : List Gap → ℕ → Gap → Gap → List Gap
Between gaps k before remainder = insert (set gaps k before) (k + 1) remainder

-- where the gaps stand

stands-before : (gaps : List Gap) (k j : ℕ) (before remainder : Gap) → k < length gaps → j < k → slice_get (Between gaps k before remainder) j ≡ slice_get gaps j
stands-before gaps k j before remainder within lt =
    insert-before (set gaps k before) (k + 1) j remainder (omega arith) (omega (arith, length-set gaps k before)) ∙ set-else gaps k j before (omega arith)

stands-here : (gaps : List Gap) (k : ℕ) (before remainder : Gap) → k < length gaps → slice_get (Between gaps k before remainder) k ≡ Some before
stands-here gaps k before remainder within =
    insert-before (set gaps k before) (k + 1) k remainder (omega arith) (omega (arith, length-set gaps k before)) ∙ set-there gaps k before within

stands-next : (gaps : List Gap) (k : ℕ) (before remainder : Gap) → k < length gaps → slice_get (Between gaps k before remainder) (k + 1) ≡ Some remainder
stands-next gaps k before remainder within = insert-there (set gaps k before) (k + 1) remainder (omega (arith, length-set gaps k before))

stands-after : (gaps : List Gap) (k j : ℕ) (before remainder : Gap) → k < length gaps → k < j → slice_get (Between gaps k before remainder) (suc j) ≡ slice_get gaps j
stands-after gaps k j before remainder within lt =
    insert-after (set gaps k before) (k + 1) j remainder (omega arith) (omega (arith, length-set gaps k before)) ∙ set-else gaps k j before (omega arith)

stands : (gaps : List Gap) (k : ℕ) (before remainder : Gap) → k < length gaps → (j : ℕ) (gap : Gap) → slice_get (Between gaps k before remainder) j ≡ Some gap
    → ((j < k) × (slice_get gaps j ≡ Some gap)) ⊎ (((j ≡ k) × (gap ≡ before)) ⊎ (((j ≡ k + 1) × (gap ≡ remainder)) ⊎ ((i : ℕ) × (j ≡ suc i) × (k < i) × (slice_get gaps i ≡ Some gap))))
stands gaps k before remainder within j gap there = elim (cases_order j k) [
  | inl same ↦
      let e : Some gap ≡ Some before = sym there ∙ ap (slice_get (Between gaps k before remainder)) same ∙ stands-here gaps k before remainder within in
      inr (inl (same, let z : gap ≡ before = cc in z))
  | inr o ↦ elim o [
    | inl lt ↦ inl (lt, sym (stands-before gaps k j before remainder within lt) ∙ there)
    | inr gt ↦ elim (cases_eq j (k + 1)) [
      | inl next ↦
          let e : Some gap ≡ Some remainder = sym there ∙ ap (slice_get (Between gaps k before remainder)) next ∙ stands-next gaps k before remainder within in
          inr (inr (inl (next, let z : gap ≡ remainder = cc in z)))
      | inr far ↦
          let s : j ≡ suc (j - 1) = omega arith in
          inr (inr (inr (j - 1, s, omega arith, sym (stands-after gaps k (j - 1) before remainder within (omega arith)) ∙ ap (slice_get (Between gaps k before remainder)) (sym s) ∙ there)))
    ]
  ]
]

-- the old gap of which a new one is a part
part-of : (gaps : List Gap) (k : ℕ) (gap before remainder : Gap) → slice_get gaps k ≡ Some gap → before.start ≡ gap.start → before.start + before.room ≤ gap.start + gap.room
    → gap.start ≤ remainder.start → remainder.start + remainder.room ≡ gap.start + gap.room → (j : ℕ) (new : Gap) → slice_get (Between gaps k before remainder) j ≡ Some new
    → (i : ℕ) × (old : Gap) × (slice_get gaps i ≡ Some old) × (old.start ≤ new.start) × (new.start + new.room ≤ old.start + old.room) × (j ≤ k → i ≡ j) × (k < j → suc i ≡ j)
part-of gaps k gap before remainder here b1 b2 b3 b4 j new there = elim (stands gaps k before remainder (place-within gaps gap k here) j new there) [
  | inl front ↦ let l = front.0 in (j, new, front.1, omega arith, omega arith, λ _. refl, λ m. absurd (omega arith))
  | inr rest ↦ elim rest [
    | inl at ↦
        let e = at.0 in
        let s : new.start ≡ before.start = ap (λ (x : Gap). x.start) at.1 in
        let r : new.room ≡ before.room = ap (λ (x : Gap). x.room) at.1 in
        (k, gap, here, omega arith, omega arith, λ _. sym e, λ m. absurd (omega arith))
    | inr more ↦ elim more [
      | inl next ↦
          let e = next.0 in
          let s : new.start ≡ remainder.start = ap (λ (x : Gap). x.start) next.1 in
          let r : new.room ≡ remainder.room = ap (λ (x : Gap). x.room) next.1 in
          (k, gap, here, omega arith, omega arith, λ m. absurd (omega arith), λ _. omega arith)
      | inr far ↦ let e = far.1 in let l = far.2 in (far.0, new, far.3, omega arith, omega arith, λ m. absurd (omega arith), λ _. sym e)
    ]
  ]
]

pub between-order : (gaps : List Gap) (around k : ℕ) (gap before remainder : Gap) → AreInOrder around gaps → slice_get gaps k ≡ Some gap → before.start ≡ gap.start
    → before.start + before.room ≤ remainder.start → remainder.start + remainder.room ≡ gap.start + gap.room → AreInOrder around (Between gaps k before remainder)
between-order gaps around k gap before remainder is here b1 b2 b3 =
    let part = part-of gaps k gap before remainder here b1 (omega arith) (omega arith) b3 in
    let within = place-within gaps gap k here in
    record {
      within = λ j new there. let p = part j new there in let w = is.within p.0 p.1 p.2 in let x = p.4 in omega arith;
      order = λ j l one other lt at to.
          let p = part j one at in
          let q = part l other to in
          let ps = p.3 in let pe = p.4 in let qs = q.3 in let qe = q.4 in
          let pl = p.5 in let pg = p.6 in let ql = q.5 in let qg = q.6 in
          elim (cases_lt p.0 q.0) [
            | inl less ↦ let o = is.order p.0 q.0 p.1 q.1 less p.2 q.2 in omega arith
            | inr ge ↦
                let js : j ≡ k = elim (cases_lt k j) [
                  | inl far ↦ let e = pg far in let d = qg (omega arith) in absurd (omega arith)
                  | inr near ↦ let e = pl near in elim (cases_lt k l) [
                    | inl beyond ↦ let d = qg beyond in omega arith
                    | inr both ↦ let d = ql both in absurd (omega arith)
                  ]
                ] in
                let ls : l ≡ k + 1 = elim (cases_lt k l) [
                  | inl beyond ↦ let d = qg beyond in let e = pl (omega arith) in omega arith
                  | inr both ↦ absurd (omega arith)
                ] in
                let e : Some one ≡ Some before = sym at ∙ ap (slice_get (Between gaps k before remainder)) js ∙ stands-here gaps k before remainder within in
                let d : Some other ≡ Some remainder = sym to ∙ ap (slice_get (Between gaps k before remainder)) ls ∙ stands-next gaps k before remainder within in
                let x : one ≡ before = cc in
                let y : other ≡ remainder = cc in
                let xs : one.start ≡ before.start = ap (λ (z : Gap). z.start) x in
                let xr : one.room ≡ before.room = ap (λ (z : Gap). z.room) x in
                let ys : other.start ≡ remainder.start = ap (λ (z : Gap). z.start) y in
                omega arith
          ];
    }

pub between-left : (gaps : List Gap) (around k at long : ℕ) (gap before remainder : Gap) → AreInOrder around gaps → slice_get gaps k ≡ Some gap → gap.start ≤ at → at + long < gap.start + gap.room
    → before.start ≡ gap.start → before.start + before.room ≡ at → remainder.start ≡ at + long + 1 → remainder.start + remainder.room ≡ gap.start + gap.room
    → LeavesFits gaps (Between gaps k before remainder) at long
between-left gaps around k at long gap before remainder is here low high b1 b2 b3 b4 a n =
    let within = place-within gaps gap k here in (
      λ f.
          let fl = f.1.2 in let fh = f.1.3 in
          elim (stands gaps k before remainder within f.0 f.1.0 f.1.1) [
            | inl front ↦ let l = front.0 in
                ((f.0, (f.1.0, front.1, f.1.2, f.1.3)), else-apart gaps around k f.0 a n at long gap f.1.0 is here front.1 (omega arith) f.1.2 f.1.3 low high)
            | inr rest ↦ elim rest [
              | inl same ↦
                  let s : f.1.0.start ≡ before.start = ap (λ (x : Gap). x.start) same.1 in
                  let r : f.1.0.room ≡ before.room = ap (λ (x : Gap). x.room) same.1 in
                  ((k, (gap, here, omega arith, omega arith)), λ o. let x = o.1 in omega arith)
              | inr more ↦ elim more [
                | inl next ↦
                    let s : f.1.0.start ≡ remainder.start = ap (λ (x : Gap). x.start) next.1 in
                    let r : f.1.0.room ≡ remainder.room = ap (λ (x : Gap). x.room) next.1 in
                    ((k, (gap, here, omega arith, omega arith)), λ o. let x = o.0 in omega arith)
                | inr far ↦ let l = far.2 in
                    ((far.0, (f.1.0, far.3, f.1.2, f.1.3)), else-apart gaps around k far.0 a n at long gap f.1.0 is here far.3 (omega arith) f.1.2 f.1.3 low high)
              ]
            ]
          ],
      λ both.
          let f = both.0 in
          let fl = f.1.2 in let fh = f.1.3 in
          elim (cases_order f.0 k) [
            | inl same ↦
                let e : Some f.1.0 ≡ Some gap = sym f.1.1 ∙ ap (slice_get gaps) same ∙ here in
                let g : f.1.0 ≡ gap = cc in
                let s : f.1.0.start ≡ gap.start = ap (λ (x : Gap). x.start) g in
                let r : f.1.0.room ≡ gap.room = ap (λ (x : Gap). x.room) g in
                elim (cases-apart a n at long both.1) [
                  | inl front ↦ (k, (before, stands-here gaps k before remainder within, omega arith, omega arith))
                  | inr after ↦ (k + 1, (remainder, stands-next gaps k before remainder within, omega arith, omega arith))
                ]
            | inr o ↦ elim o [
              | inl lt ↦ (f.0, (f.1.0, stands-before gaps k f.0 before remainder within lt ∙ f.1.1, f.1.2, f.1.3))
              | inr gt ↦ (suc f.0, (f.1.0, stands-after gaps k f.0 before remainder within gt ∙ f.1.1, f.1.2, f.1.3))
            ]
          ],
    )
