-- The places of initial values.
use Rattle.std.proofs.Common.{◌≡◌, ℕ, ◌+◌, ◌-◌, ◌*◌, ◌<◌, ◌≤◌, length, ℤ, pos, ◌-ℤ◌, sym, ap, ◌∙◌, inl, inr, arith}
use Rattle.std.proofs.lemmas.Int.{ints}
use Rattle.registers.specs.declared.value.Read.{Read}
use Rattle.registers.specs.Lifetimes.{IsLiveIn}
use Rattle.registers.proofs.Whole.{times-more}
use Rattle.instances.specs.Runs.{RunData, IsRun, carried_by, place_of, preloaded, source}
use Rattle.instances.specs.Promises.{OpeningsAreApart}
use Rattle.instances.proofs.Turned.{source-is, preloaded-is}
use Rattle.instances.proofs.Lives.{life, life-there, times-back, carried-far, begins-by_landing, begins-by_interval, lands-by_end, lasts-when_carried}

-- a cycle by which all initial values are there: the first one, or where the end is before the interval, so much earlier
abbrev opening_cycle : RunData → ℤ
opening_cycle run = pos run.end -ℤ pos (run.ii + (run.end - run.ii))

lives-at_opening : (run : RunData) → IsRun run → (v m : ℕ) → v < length run.values → 1 ≤ m → m ≤ carried_by run v
    → IsLiveIn run.ii (life run v) (pos 0 -ℤ pos m) (opening_cycle run)
lives-at_opening run is v m within some le =
    let a = begins-by_landing run is v in
    let b = begins-by_interval run is v (omega arith) in
    let c = lands-by_end run is v within in
    let t = times-back 0 m run.ii in
    let z : run.ii * 0 ≡ 0 = omega arith in
    let more : run.ii * m ≡ run.ii * 1 + run.ii * (m - 1) = times-more run.ii 1 m some in
    elim (lasts-when_carried run is v m some le) [
      | inl long ↦ record { begun = omega (arith, ints); lasts = omega (arith, ints) }
      | inr end ↦
          let one : m ≡ 1 = end.0 in
          let same : run.ii * m ≡ run.ii * 1 = ap (λ n. run.ii * n) one in
          let to_end = end.1 in
          record { begun = omega (arith, ints); lasts = omega (arith, ints) }
    ]

pub openings-one : (run : RunData) → IsRun run → (v w m n : ℕ) → v < length run.values → w < length run.values
    → 1 ≤ m → m ≤ carried_by run v → 1 ≤ n → n ≤ carried_by run w → preloaded run v m ≡ preloaded run w n → (v ≡ w) × (m ≡ n)
openings-one run is v w m n in_v in_w m1 mc n1 nc same =
    let r = is.apart v w (pos 0 -ℤ pos m) (pos 0 -ℤ pos n) (record {
      one = life run v;
      is_one = life-there run v in_v;
      other = life run w;
      is_other = life-there run w in_w;
      same_place = sym (preloaded-is run is.homes v m) ∙ same ∙ preloaded-is run is.homes w n;
      cycle = opening_cycle run;
      one_lives = lives-at_opening run is v m in_v m1 mc;
      other_lives = lives-at_opening run is w n in_w n1 nc;
    }) in
    (r.0, let z = r.1 in omega (arith, ints))

pub opening-read : (run : RunData) → IsRun run → (r : Read) (i : ℕ) → i < r.distance → source run r i ≡ preloaded run r.value (r.distance - i)
opening-read run is r i lt =
    let z : (pos i -ℤ pos r.distance) ≡ (pos 0 -ℤ pos (r.distance - i)) = omega (arith, ints) in
    source-is run is.homes r i ∙ ap (place_of run r.value) z ∙ sym (preloaded-is run is.homes r.value (r.distance - i))

pub openings-are_apart : OpeningsAreApart
openings-are_apart run is = (
  openings-one run is,
  λ n i r there lt. let far = carried-far run is n r there in (opening-read run is r i lt, omega arith, omega arith),
)
