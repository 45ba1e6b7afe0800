-- The counters keep up with the rows.
use Rattle.std.proofs.Common.{◌≡◌, ◌≢◌, ℕ, zero, suc, ◌+◌, ◌<◌, ◌≤◌, max, cond, List, [], ◌∷◌, ◌++◌, length, get_or, map, eqb, refl, sym, ap, ◌∙◌, inl, inr, arith, set, get_or-set_same, get_or-set_other, length-set, add-zero, subst, take, replicate}
use Rattle.std.proofs.lemmas.List.{set_past, take_more, map-append, append_assoc, get_or-replicate}
use Rattle.std.proofs.lemmas.List.Sums.{sum_by_push, sum_by-append}
use Rattle.std.proofs.lemmas.Bool.{eq-eqb, ne_eqb, cases_eq, cases_lt}
use Rattle.machine_data.specs.declared.alternative.Row.{Row}
use Rattle.unit_bound.specs.Units.{use_of, greatest_of, greatest_use}
use Rattle.unit_bound.specs.Uses.{AtMost, Tallies, CountsRows}

pub greatest_of-push : (ns : List ℕ) (n : ℕ) → greatest_of (ns ++ n ∷ []) ≡ max (greatest_of ns) n
greatest_of-push [] n = omega arith
greatest_of-push (m ∷ ns) n = let h : greatest_of (ns ++ n ∷ []) ≡ max (greatest_of ns) n = greatest_of-push ns n in omega arith

-- numbers that agree but for those that one number bounds have the same greatest beside that number
greatest_of-raised : (f g : Row → ℕ) (m : ℕ) → ((r : Row) → max (f r) m ≡ max (g r) m) → (rows : List Row)
    → max (greatest_of (map f rows)) m ≡ max (greatest_of (map g rows)) m
greatest_of-raised f g m same [] = refl
greatest_of-raised f g m same (r ∷ rows) =
    let h : max (greatest_of (map f rows)) m ≡ max (greatest_of (map g rows)) m = greatest_of-raised f g m same rows in
    let k : max (f r) m ≡ max (g r) m = same r in
    omega arith

pub use_of-push : (rows : List Row) (r : Row) (unit : ℕ) → use_of (rows ++ r ∷ []) unit ≡ use_of rows unit + cond (eqb r.unit unit) 1 0
use_of-push rows r unit = sum_by_push (λ (s : Row). cond (eqb s.unit unit) 1 0) rows r

pub use_of-append : (rows others : List Row) (unit : ℕ) → use_of (rows ++ others) unit ≡ use_of rows unit + use_of others unit
use_of-append rows others unit = sum_by-append (λ (s : Row). cond (eqb s.unit unit) 1 0) rows others

use_of-push_same : (rows : List Row) (r : Row) (unit : ℕ) → r.unit ≡ unit → use_of (rows ++ r ∷ []) unit ≡ use_of rows unit + 1
use_of-push_same rows r unit e = use_of-push rows r unit ∙ ap (λ b. use_of rows unit + cond b 1 0) (eq-eqb r.unit unit e)

use_of-push_other : (rows : List Row) (r : Row) (unit : ℕ) → r.unit ≢ unit → use_of (rows ++ r ∷ []) unit ≡ use_of rows unit
use_of-push_other rows r unit ne = use_of-push rows r unit ∙ ap (λ b. use_of rows unit + cond b 1 0) (ne_eqb r.unit unit ne) ∙ add-zero (use_of rows unit)

pub greatest_use-push : (rows : List Row) (r : Row) → greatest_use (rows ++ r ∷ []) ≡ max (greatest_use rows) (use_of rows r.unit + 1)
greatest_use-push rows r =
    let m : use_of (rows ++ r ∷ []) r.unit ≡ use_of rows r.unit + 1 = use_of-push_same rows r r.unit refl in
    let f : Row → ℕ = λ s. use_of (rows ++ r ∷ []) s.unit in
    let g : Row → ℕ = λ s. use_of rows s.unit in
    let a : greatest_use (rows ++ r ∷ []) ≡ max (greatest_of (map f rows)) (use_of rows r.unit + 1)
    = ap greatest_of (map-append f rows (r ∷ [])) ∙ greatest_of-push (map f rows) (f r) ∙ ap (λ n. max (greatest_of (map f rows)) n) m in
    let same : (s : Row) → max (f s) (use_of rows r.unit + 1) ≡ max (g s) (use_of rows r.unit + 1)
    = λ s. elim (cases_eq r.unit s.unit) [
      | inl e ↦ (let p : use_of (rows ++ r ∷ []) s.unit ≡ use_of rows s.unit + 1 = use_of-push_same rows r s.unit e in
          let q : use_of rows r.unit ≡ use_of rows s.unit = ap (use_of rows) e in omega arith)
      | inr ne ↦ (let p : use_of (rows ++ r ∷ []) s.unit ≡ use_of rows s.unit = use_of-push_other rows r s.unit ne in omega arith)
    ] in
    a ∙ greatest_of-raised f g (use_of rows r.unit + 1) same rows

-- one row more, counted
pub Tallies-push : (taken : List Row) (counts : List ℕ) (greatest : ℕ) (r : Row) → Tallies taken counts greatest → r.unit < 64
    → Tallies (taken ++ r ∷ []) (set counts r.unit (get_or counts r.unit 0 + 1)) (max greatest (get_or counts r.unit 0 + 1))
Tallies-push taken counts greatest r t below =
    let n : get_or counts r.unit 0 ≡ use_of taken r.unit = t.each r.unit below in
    let within : r.unit < length counts = omega (arith, t.all) in
    record {
      all = length-set counts r.unit (get_or counts r.unit 0 + 1) ∙ t.all;
      each = λ unit h. elim (cases_eq r.unit unit) [
        | inl e ↦ (let p : use_of (taken ++ r ∷ []) unit ≡ use_of taken unit + 1 = use_of-push_same taken r unit e in
            let q : get_or (set counts r.unit (get_or counts r.unit 0 + 1)) r.unit 0 ≡ get_or counts r.unit 0 + 1
            = get_or-set_same counts r.unit (get_or counts r.unit 0 + 1) 0 within in
            let a : get_or (set counts r.unit (get_or counts r.unit 0 + 1)) unit 0 ≡ get_or (set counts r.unit (get_or counts r.unit 0 + 1)) r.unit 0
            = ap (λ k. get_or (set counts r.unit (get_or counts r.unit 0 + 1)) k 0) (sym e) in
            let b : use_of taken r.unit ≡ use_of taken unit = ap (use_of taken) e in
            a ∙ q ∙ (omega arith))
        | inr ne ↦ (let other : unit ≢ r.unit = λ e. ne (sym e) in
            get_or-set_other counts r.unit unit (get_or counts r.unit 0 + 1) 0 other ∙ t.each unit h ∙ sym (use_of-push_other taken r unit ne))
      ];
      most = (let g : greatest ≡ greatest_use taken = t.most in
          let p : greatest_use (taken ++ r ∷ []) ≡ max (greatest_use taken) (use_of taken r.unit + 1) = greatest_use-push taken r in omega arith);
    }

-- a counter that is one more stays below a bound that is one more
pub AtMost-set : (counts : List ℕ) (unit bound : ℕ) → AtMost bound counts → AtMost (bound + 1) (set counts unit (get_or counts unit 0 + 1))
AtMost-set counts unit bound h = λ k. elim (cases_eq k unit) [
  | inl e ↦ elim (cases_lt unit (length counts)) [
    | inl within ↦ (let below : get_or counts unit 0 ≤ bound = h unit in
        let a : get_or (set counts unit (get_or counts unit 0 + 1)) k 0 ≡ get_or (set counts unit (get_or counts unit 0 + 1)) unit 0
        = ap (λ i. get_or (set counts unit (get_or counts unit 0 + 1)) i 0) e in
        let b : get_or (set counts unit (get_or counts unit 0 + 1)) unit 0 ≡ get_or counts unit 0 + 1
        = get_or-set_same counts unit (get_or counts unit 0 + 1) 0 within in
        omega arith)
    | inr past ↦ (let below : get_or counts k 0 ≤ bound = h k in
        let a : get_or (set counts unit (get_or counts unit 0 + 1)) k 0 ≡ get_or counts k 0
        = ap (λ l. get_or l k 0) (set_past counts unit (get_or counts unit 0 + 1) past) in
        omega arith)
  ]
  | inr ne ↦ (let a : get_or (set counts unit (get_or counts unit 0 + 1)) k 0 ≡ get_or counts k 0 = get_or-set_other counts unit k (get_or counts unit 0 + 1) 0 ne in
      let b : get_or counts k 0 ≤ bound = h k in omega arith)
]

-- the step of a loop over the rows
pub Tallies-more : (rows : List Row) (i : ℕ) (r : Row) (counts others : List ℕ) (greatest count most : ℕ) → i < length rows
    → r ≡ get_or rows i r → r.unit < 64 → count ≡ get_or counts r.unit 0 + 1 → others ≡ set counts r.unit count → most ≡ max greatest count
    → (taken : List Row) → Tallies (taken ++ take i rows) counts greatest → Tallies (taken ++ take (i + 1) rows) others most
Tallies-more rows i r counts others greatest count most within is below c o m taken t =
    let front : (taken ++ take i rows) ++ r ∷ [] ≡ taken ++ take (i + 1) rows
    = append_assoc taken (take i rows) (r ∷ []) ∙ ap (λ l. taken ++ l) (ap (λ s. take i rows ++ s ∷ []) is ∙ sym (take_more rows i r within)) in
    let stepped : Tallies ((taken ++ take i rows) ++ r ∷ []) (set counts r.unit (get_or counts r.unit 0 + 1)) (max greatest (get_or counts r.unit 0 + 1))
    = Tallies-push (taken ++ take i rows) counts greatest r t below in
    let p : Tallies (taken ++ take (i + 1) rows) (set counts r.unit (get_or counts r.unit 0 + 1)) (max greatest (get_or counts r.unit 0 + 1))
    = subst (λ l. Tallies l (set counts r.unit (get_or counts r.unit 0 + 1)) (max greatest (get_or counts r.unit 0 + 1))) front stepped in
    let q : Tallies (taken ++ take (i + 1) rows) (set counts r.unit count) (max greatest count)
    = subst (λ n. Tallies (taken ++ take (i + 1) rows) (set counts r.unit n) (max greatest n)) (sym c) p in
    let s : Tallies (taken ++ take (i + 1) rows) others (max greatest count)
    = subst (λ l. Tallies (taken ++ take (i + 1) rows) l (max greatest count)) (sym o) q in
    subst (λ n. Tallies (taken ++ take (i + 1) rows) others n) (sym m) s

-- before any row, no counter is above 0
pub Tallies-none : Tallies [] (replicate 64 0) 0
Tallies-none = record {
  all = refl;
  each = λ unit h. get_or-replicate 64 unit 0 0 h;
  most = refl;
}

pub CountsRows-none : CountsRows [] (replicate 64 0) 0
CountsRows-none = record {
  choices = [];
  best = tt;
  tallies = Tallies-none;
}

zero_or_past : (n i : ℕ) → get_or (replicate n 0) i 0 ≤ 0
zero_or_past zero i = omega arith
zero_or_past (suc n) zero = omega arith
zero_or_past (suc n) (suc i) = zero_or_past n i

pub AtMost-none : AtMost 0 (replicate 64 0)
AtMost-none = λ unit. zero_or_past 64 unit
