-- The least cycle and the first alternative there.
use Rattle.std.proofs.Common.{◌≡◌, ℕ, ◌+◌, ◌-◌, ◌^◌, ◌<◌, ◌≤◌, inl, inr, Bool, true, false, not, eqb, min, length, Some, None, refl, sym, ap, subst, ◌∙◌, arith, eq-eqb, below_more, w64}
use Rattle.std.specs.Int.{bit_at, trailing_zeros}
use Rattle.std.proofs.lemmas.Bool.{cases_eq, cases_lt, eqb-true, true≢false}
use Rattle.std.proofs.lemmas.Nat.Bits.{bit_at-trailing_zeros, bit_at-zero}
use lib.Count.{count_trailing_zeros}
use Rattle.machine_data.specs.Alternative.{collides}
use Rattle.std.specs.List.{All}
use Rattle.mrt.specs.inner.Slots.{meets_held, Occupies}
use Rattle.mrt.proofs.searching.Taking.{free_from_unmet}
use Rattle.mrt.specs.Placements.{OperationAlternatives, Placements, alternatives_of, rows_of, IsFree, IsFirstSlot}

-- the least cycle below a bound at which one of the first `alternatives` serves, and the first that does, or the bound
pub record IsBest (F : ℕ → ℕ → Type 0) (bound first best alternatives : ℕ) : Type 0 where
  pub few : first ≤ bound
  pub none_sooner : (alternative : ℕ) → alternative < alternatives → (sooner : ℕ) → sooner < first → F sooner alternative → ⊥
  pub free : first < bound → F first best
  pub none_before : first < bound → (before : ℕ) → before < best → F first before → ⊥
  pub there : first < bound → best < alternatives

module _ (F : ℕ → ℕ → Type 0) (bound : ℕ) where
  pub IsBest-none : IsBest F bound bound 0 0
  IsBest-none = record {
    few = omega arith;
    none_sooner = λ alternative lt. absurd (omega arith);
    free = λ lt. absurd (omega arith);
    none_before = λ lt. absurd (omega arith);
    there = λ lt. absurd (omega arith);
  }

  -- one alternative more, that serves sooner
  pub IsBest-taken : (first best k cycle : ℕ) → IsBest F bound first best k → cycle < first → ((sooner : ℕ) → sooner < cycle → F sooner k → ⊥) → F cycle k → IsBest F bound cycle k (k + 1)
  IsBest-taken first best k cycle b lt none free = record {
    few = omega (arith, b.few);
    none_sooner = below_more (λ a. (sooner : ℕ) → sooner < cycle → F sooner a → ⊥) k (λ a la sooner ls. b.none_sooner a la sooner (omega arith)) none;
    free = λ _. free;
    none_before = λ _ before lb. b.none_sooner before lb cycle lt;
    there = λ _. omega arith;
  }

  -- one alternative more, that serves no sooner
  pub IsBest-kept : (first best k cycle : ℕ) → IsBest F bound first best k → first ≤ cycle → ((sooner : ℕ) → sooner < cycle → F sooner k → ⊥) → IsBest F bound first best (k + 1)
  IsBest-kept first best k cycle b le none = record {
    few = b.few;
    none_sooner = below_more (λ a. (sooner : ℕ) → sooner < first → F sooner a → ⊥) k b.none_sooner (λ sooner ls. none sooner (omega arith));
    free = b.free;
    none_before = b.none_before;
    there = λ lt. omega (arith, b.there lt);
  }

module _ (ii : ℕ) (operations : OperationAlternatives) (placed : Placements) (op start : ℕ) where
  -- the operation can be issued by an alternative some cycles later
  abbrev pub is_free_after : ℕ → ℕ → Type 0
  is_free_after cycle alternative = IsFree ii operations placed op (start + cycle) alternative

  module _ (first best alternatives : ℕ) (b : IsBest is_free_after ii first best alternatives) (all : length (alternatives_of operations op) ≤ alternatives) where
    none_before_first : (time alternative : ℕ) → start ≤ time → time < start + first → IsFree ii operations placed op time alternative → ⊥
    none_before_first time alternative from to f =
        let P : ℕ → Type 0 = λ t. IsFree ii operations placed op t alternative in
        let whole : time ≡ start + (time - start) = omega arith in
        let there : alternative < alternatives = omega (arith, f.there) in
        b.none_sooner alternative there (time - start) (omega arith) (subst P whole f)

    pub first_slot_some : first < ii → IsFirstSlot ii operations placed op start (Some (start + first, best))
    first_slot_some lt = ((omega arith), (omega arith), (b.free lt, b.none_before lt), λ sooner alternative from ls. none_before_first sooner alternative from ls)

    pub first_slot_none : ii ≤ first → IsFirstSlot ii operations placed op start None
    first_slot_none le = λ time alternative from to. none_before_first time alternative from (omega arith)

  -- an alternative that serves at once, where none before it does
  pub first_slot_at_once : (first best k : ℕ) → IsBest is_free_after ii first best k → 0 < first → IsFree ii operations placed op (start + 0) k → IsFirstSlot ii operations placed op start (Some (start, k))
  first_slot_at_once first best k b some free =
      let P : ℕ → ℕ → Type 0 = λ t a. IsFree ii operations placed op t a in
      let at : start + 0 ≡ start = omega arith in (
        (omega arith),
        (omega (arith, b.few)),
        (subst (λ t. P t k) at free, λ before lb now. b.none_sooner before lb 0 some (subst (λ t. P t before) (sym at) now)),
        λ sooner alternative from ls. absurd (omega arith),
      )

-- the lowest bit that is set, if there is one below a bound
pub lowest_bit : (n r most : ℕ) → n < 2 ^ 64 → most ≤ 64 → r ≡ min most (trailing_zeros w64 n) → ((k : ℕ) → k < r → bit_at n k ≡ 1 → ⊥) × (r < most → bit_at n r ≡ 1)
unfolding count_trailing_zeros
lowest_bit n r most fits few is =
    elim (cases_eq n 0) [
      | inl none ↦
          let whole : r ≡ most = is ∙ ap (λ m. min most (trailing_zeros w64 m)) none ∙ omega (arith, few) in
          (λ k lt one. omega (arith, sym one ∙ ap (λ m. bit_at m k) none ∙ bit_at-zero k), λ lt. absurd (omega arith))
      | inr some ↦
          let t = bit_at-trailing_zeros w64 n (omega arith) fits in (
            λ k lt one. omega (arith, t.2 k (omega (arith, is)), one),
            λ lt. let same : r ≡ trailing_zeros w64 n = omega (arith, is, lt) in ap (λ k. bit_at n k) same ∙ t.1,
          )
    ]

-- a bit that is set where a slot is not held
pub unmet_from_bit : (n k : ℕ) (met : Bool) → eqb (bit_at n k) 1 ≡ not met → bit_at n k ≡ 1 → met ≡ false
unmet_from_bit n k true tells one = absurd (true≢false (sym (eq-eqb (bit_at n k) 1 one) ∙ tells))
unmet_from_bit n k false tells one = refl

pub met_from_bit : (n k : ℕ) (met : Bool) → eqb (bit_at n k) 1 ≡ not met → (bit_at n k ≡ 1 → ⊥) → met ≡ true
met_from_bit n k true tells zero = refl
met_from_bit n k false tells zero = absurd (zero (eqb-true (bit_at n k) 1 tells))

-- what holds in the cycles before one, and in some cycles from it, holds before the last of them
pub met_until : (M : ℕ → Bool) (time passed cycles : ℕ) → ((sooner : ℕ) → sooner < passed → M (time + sooner) ≡ true)
    → ((cycle : ℕ) → cycle < cycles → M (time + passed + cycle) ≡ true) → (sooner : ℕ) → sooner < passed + cycles → M (time + sooner) ≡ true
met_until M time passed cycles before within sooner lt =
    elim (cases_lt sooner passed) [
      | inl early ↦ before sooner early
      | inr late ↦
          let whole : time + passed + (sooner - passed) ≡ time + sooner = omega arith in
          subst (λ t. M t ≡ true) whole (within (sooner - passed) (omega arith))
    ]

-- whether rows meet a slot that is held tells whether an operation can be issued by them
module _ (ii : ℕ) (operations : OperationAlternatives) (placed : Placements) (held : ℕ → ℕ → Bool) (some : 0 < ii) (o : Occupies ii 64 operations placed held) (op alternative : ℕ)
    (there : alternative < length (alternatives_of operations op)) (covered : All (λ r. r.unit < 64) (rows_of operations op alternative)) (sound : collides ii (rows_of operations op alternative) ≡ false) where
  pub free_from_met : (time : ℕ) → meets_held ii held (rows_of operations op alternative) time ≡ false → IsFree ii operations placed op time alternative
  free_from_met time unmet =
      let met = meets_held ii held (rows_of operations op alternative) time in
      (free_from_unmet ii operations placed 64 held some o op alternative time met there covered sound refl).0 (ap not unmet)

  pub taken_from_met : (time : ℕ) → meets_held ii held (rows_of operations op alternative) time ≡ true → IsFree ii operations placed op time alternative → ⊥
  taken_from_met time is f =
      let met = meets_held ii held (rows_of operations op alternative) time in
      let free : not met ≡ true = (free_from_unmet ii operations placed 64 held some o op alternative time met there covered sound refl).1 f in
      true≢false (sym free ∙ ap not is)
