-- How many iterations values are carried on, read by read, of all values at once.
use Rattle.std.proofs.Common.{◌≡◌, ℕ, ◌+◌, ◌<◌, ◌≤◌, max, Bool, true, false, cond, List, length, get_or, map, take, sym, ap, ◌∙◌, inl, inr, arith, slice_index, slice_set, subst}
use Rattle.std.proofs.lemmas.Bool.{cases_eq}
use Rattle.std.proofs.lemmas.Grind.{get_or-set_at}
use Rattle.std.proofs.lemmas.List.{get_or-map, get_or-set_other, length-map, length-set}
use Rattle.problems.specs.declared.draft.Value.{Value}
use Rattle.registers.specs.declared.value.Read.{Read}
use Rattle.registers.specs.declared.value.Value.{Value as PlainValue}
use Rattle.registers.specs.Values.{reads_of}
use Rattle.solutions.specs.Solutions.{IsLawfulSolution, SolutionData}
use Rattle.solution_text.specs.inner.Carried.{AreCarried, IsRaised, out_of}
use Rattle.solution_text.proofs.Carrying.{farthest, few-in, of_other-more, of_value-more}

pub raised-more : (reads : List Read) (old now : List ℕ) (i x : ℕ) (d : Read) → i < length reads → (get_or reads i d).value < length old
    → x ≡ max (get_or reads i d).distance (slice_index now (get_or reads i d).value)
    → IsRaised (take i reads) old now → IsRaised (take (i + 1) reads) old (slice_set now (get_or reads i d).value x)
raised-more reads old now i x d within there most was =
    let v : ℕ = (get_or reads i d).value in
    let each : length now ≡ length old = was.each in
    record {
      each = length-set now v x ∙ each;
      raised = λ value lt. elim (cases_eq value v) [
        | inl same ↦ of_value-more reads i value (slice_index now value) (slice_index (slice_set now v x) value) (slice_index old value) d within (was.raised value lt) (sym same)
            (get_or-set_at now v value x 0 same (omega (arith, each)) ∙ most ∙ ap (λ n. max (get_or reads i d).distance (slice_index now n)) (sym same))
        | inr other ↦ of_other-more reads i value (slice_index now value) (slice_index (slice_set now v x) value) (slice_index old value) d within (was.raised value lt) (λ e. other (sym e))
            (get_or-set_other now v value x 0 other)
      ];
    }

one-at-most : (b : Bool) → cond b 1 0 ≤ 1
one-at-most true = omega arith
one-at-most false = omega arith

pub carried-all : (s : SolutionData) (outs iterations : List ℕ) → IsLawfulSolution s → outs ≡ map out_of s.problem.draft.values.items
    → IsRaised s.problem.draft.reads.items outs iterations → AreCarried s iterations
carried-all s outs iterations is filled raised =
    let values : List Value = s.problem.draft.values.items in
    let reads : List Read = s.problem.draft.reads.items in
    let none : Value = record { maker = 0; lands = 0; out = false; file = 0 } in
    let plain : Value → PlainValue = λ (v : Value). record { maker = v.maker; lands = v.lands; out = v.out } in
    let outs_each : length outs ≡ length values = ap length filled ∙ length-map values out_of in
    let each : length iterations ≡ length outs = raised.each in
    let out_is : (value : ℕ) → value < length iterations → slice_index outs value ≡ out_of (get_or values value none)
    = λ value lt. ap (λ ns. slice_index ns value) filled ∙ get_or-map out_of values value none 0 (omega arith) in
    record {
      each = each ∙ outs_each;
      carried = λ value lt.
          raised.raised value (omega arith)
          ∙ ap (λ n. max (farthest (reads_of reads value)) n)
          (out_is value lt ∙ ap (λ (v : PlainValue). cond v.out 1 0) (sym (get_or-map plain values value none (record { maker = 0; lands = 0; out = false }) (omega arith))));
      few = λ value lt.
          let bound : farthest (reads_of reads value) ≤ 16 = few-in reads value (λ k d there. (is.is_problem.is_well_formed.reads k d there).distance) in
          let own : slice_index outs value ≤ 1 = subst (λ n. n ≤ 1) (sym (out_is value lt)) (one-at-most (get_or values value none).out) in
          let e = raised.raised value (omega arith) in
          omega (arith, e, bound, own);
    }
