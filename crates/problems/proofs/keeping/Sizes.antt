-- The values of a problem and their reads are of the sizes that registers are allotted for.
use Rattle.std.proofs.Common.{◌≡◌, ℕ, ◌*◌, ◌<◌, ◌≤◌, List, length, arith}
use Rattle.std.specs.List.{All}
use Rattle.std.proofs.lemmas.List.{length-map}
use Rattle.std.proofs.lemmas.List.Elements.{All-map}
use Rattle.registers.specs.declared.value.Read.{Read}
use Rattle.registers.specs.declared.value.Value.{Value as PlainValue}
use Rattle.registers.specs.Values.{AreValues, IsValue as IsPlainValue}
use Rattle.problems.specs.declared.draft.Value.{Value}
use Rattle.problems.specs.Drafts.{maker_of, plain_values}
use Rattle.problems.specs.Problems.{ProblemData, IsProblem}

pub values-values : (p : ProblemData) (ii : ℕ) (times : List ℕ) → IsProblem p → 1 ≤ ii → ii ≤ 16384 → length times ≡ length p.draft.operations.items
    → All (λ time. time < 64 * ii) times → AreValues ii times (plain_values p.draft) p.draft.reads.items
values-values p ii times is some few same issued =
    let plain : Value → PlainValue = λ v. record { maker = v.maker; lands = v.lands; out = v.out } in
    let values : List Value = p.draft.values.items in
    let sound = is.is_well_formed in
    let operations_few = sound.counts.operations_few in
    let values_few = sound.counts.values_few in
    let size : length (plain_values p.draft) ≡ length values = length-map values plain in
    record {
      some = some;
      few = few;
      operations = omega arith;
      issued = issued;
      size = omega arith;
      each_value = All-map (IsPlainValue (length times)) plain values (λ k d lt.
          let value = sound.values k d lt in
          let below = value.maker in
          record { maker = omega arith; lands = value.lands });
      each_read = λ k d lt.
          let reading = sound.reads k d lt in
          let one = reading.value in
          let other = reading.reader in
          record { value = omega arith; reader = omega arith; distance = reading.distance; offset = reading.offset };
    }

pub reads-forward : (p : ProblemData) → IsProblem p → All (λ (r : Read). r.distance ≡ 0 → maker_of p.draft r.value < r.reader) p.draft.reads.items
reads-forward p is k d lt = (is.is_well_formed.reads k d lt).forward
