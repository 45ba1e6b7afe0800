-- What stands in a place: nothing that lands there disturbs an instance that lives.
use Rattle.std.proofs.Common.{◌≡◌, ◌⊎◌, ℕ, ◌+◌, ◌-◌, ◌*◌, ◌<◌, ◌≤◌, length, Some, ℤ, pos, ◌+ℤ◌, ◌-ℤ◌, refl, sym, ap, ◌∙◌, inl, inr, arith}
use Rattle.std.specs.Prelude.{slice_get, ◌*ℤ◌, ◌≤ℤ◌, ◌<ℤ◌}
use Rattle.std.proofs.lemmas.Int.{ints}
use Rattle.registers.specs.declared.value.Read.{Read}
use Rattle.registers.proofs.Whole.{cases-int, times-more}
use Rattle.instances.specs.Runs.{Place, RunData, IsRun, IsOpening, StandsIn, destination, landing, place_of, reading_cycle, source, value_of}
use Rattle.instances.specs.Promises.{EndsHoldLast, RegistersHoldInstances}
use Rattle.instances.proofs.Turned.{destination-is, source-is}
use Rattle.instances.proofs.Lives.{life, life-there, times-back, read-within, carried-far, begins-by_landing, begins-by_interval, lasts-to_read, lasts-to_end, lands-by_end, lives-at_landing, value-there}

-- an instance that lands in the place of another one, and no later than that one lives, is that one or has landed before it begins
pub before-or_same : (run : RunData) → IsRun run → (v w : ℕ) (i : ℤ) (l : ℕ) → v < length run.values → w < length run.values
    → place_of run v i ≡ place_of run w (pos l) → pos (landing run w l) ≤ℤ (pos (life run v).last +ℤ (i *ℤ pos run.ii))
    → ((v ≡ w) × (i ≡ pos l)) ⊎ (pos (landing run w l) <ℤ (pos (life run v).first +ℤ (i *ℤ pos run.ii)))
before-or_same run is v w i l in_v in_w same late =
    elim (cases-int (pos (life run v).first +ℤ (i *ℤ pos run.ii)) (pos (landing run w l))) [
      | inl met ↦ inl (is.apart v w i (pos l) (record {
        one = life run v;
        is_one = life-there run v in_v;
        other = life run w;
        is_other = life-there run w in_w;
        same_place = same;
        cycle = pos (landing run w l);
        one_lives = record { begun = met; lasts = late };
        other_lives = lives-at_landing run is w l in_w;
      }))
      | inr before ↦ inr before
    ]

-- so an instance of the run that has landed stands in its place as long as it lives
pub stands-while_live : (run : RunData) (trip : ℕ) → IsRun run → (place : Place) (cycle v k : ℕ) → v < length run.values → k < trip → place_of run v (pos k) ≡ place
    → landing run v k ≤ cycle
    → ((w l : ℕ) → w < length run.values → l < trip → landing run w l ≤ cycle → landing run w l ≤ (life run v).last + run.ii * k)
    → StandsIn run trip place cycle v k
stands-while_live run trip is place cycle v k in_v within same landed lives = record {
  there = in_v;
  within = within;
  here = destination-is run is.homes v k ∙ same;
  landed = landed;
  last = λ w l in_w in_trip there early.
      let c : k * run.ii ≡ run.ii * k = omega arith in
      let f : (pos k *ℤ pos run.ii) ≡ pos (k * run.ii) = refl in
      let late = lives w l in_w in_trip early in
      let b = begins-by_landing run is v in
      elim (before-or_same run is v w (pos k) l in_v in_w (same ∙ sym there ∙ destination-is run is.homes w l) (omega (arith, ints))) [
        | inl met ↦ inl (sym met.0, let z = met.1 in omega (arith, ints))
        | inr before ↦ inr (omega (arith, ints))
      ];
}

-- where a read is made, the instance that it wants lives
module _ (run : RunData) (is : IsRun run) (n : ℕ) (r : Read) (there : slice_get run.reads n ≡ Some r) where
  lives-at_read : (i : ℕ) → pos (reading_cycle run r i) ≤ℤ (pos (life run r.value).last +ℤ ((pos i -ℤ pos r.distance) *ℤ pos run.ii))
  lives-at_read i =
      let l = lasts-to_read run is n r there in
      let t = times-back i r.distance run.ii in
      omega (arith, ints)

  pub read-lands : (trip i : ℕ) → i < trip → r.distance ≤ i → StandsIn run trip (source run r i) (reading_cycle run r i) r.value (i - r.distance)
  read-lands trip i within le =
      let in_v = read-within run is n r there in
      let back : (pos i -ℤ pos r.distance) ≡ pos (i - r.distance) = omega (arith, ints) in
      let t = is.in_time n r (value_of run r.value) there (value-there run r.value in_v) in
      let l = lasts-to_read run is n r there in
      let m : run.ii * i ≡ run.ii * r.distance + run.ii * (i - r.distance) = times-more run.ii r.distance i le in
      stands-while_live run trip is (source run r i) (reading_cycle run r i) r.value (i - r.distance) in_v (omega arith)
      (sym (source-is run is.homes r i ∙ ap (place_of run r.value) back)) (omega arith) (λ w k in_w in_trip early. omega arith)

  pub read-opens : (trip i : ℕ) → i < r.distance → IsOpening run trip (source run r i) (reading_cycle run r i)
  read-opens trip i lt = λ w k in_w in_trip here early.
      let in_v = read-within run is n r there in
      let far = carried-far run is n r there in
      let b = begins-by_interval run is r.value (omega arith) in
      let l = lives-at_read i in
      let t = times-back i r.distance run.ii in
      let m : run.ii * r.distance ≡ run.ii * i + run.ii * (r.distance - i) = times-more run.ii i r.distance (omega arith) in
      let one : run.ii * (r.distance - i) ≡ run.ii * 1 + run.ii * (r.distance - i - 1) = times-more run.ii 1 (r.distance - i) (omega arith) in
      elim (before-or_same run is r.value w (pos i -ℤ pos r.distance) k in_v in_w
      (sym (source-is run is.homes r i) ∙ sym here ∙ destination-is run is.homes w k) (omega (arith, ints))) [
        | inl met ↦ let z = met.1 in omega (arith, ints)
        | inr before ↦ omega (arith, ints)
      ]

pub registers-hold_instances : RegistersHoldInstances
registers-hold_instances run trip is n i r there within = (read-lands run is n r there trip i within, read-opens run is n r there trip i)

pub ends-hold_last : EndsHoldLast
ends-hold_last run trip is v cycle in_v out = (
  λ some late.
      let b = lands-by_end run is v in_v in
      let e = lasts-to_end run is v out in
      stands-while_live run trip is (destination run v (trip - 1)) cycle v (trip - 1) in_v (omega arith) (sym (destination-is run is.homes v (trip - 1))) (omega arith)
      (λ w l in_w in_trip early.
      let c = lands-by_end run is w in_w in
      let m : run.ii * (trip - 1) ≡ run.ii * l + run.ii * (trip - 1 - l) = times-more run.ii l (trip - 1) (omega arith) in
      omega arith),
  λ none w l in_w in_trip there early. omega arith,
)
