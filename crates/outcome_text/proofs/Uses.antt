-- How often units are used by the choices of operations, and which are full.
use Rattle.std.proofs.Common.{◌≡◌, ℕ, ◌+◌, ◌<◌, List, ◌++◌, length, get_or, take, ap, sym, ◌∙◌, inl, inr, eq-eqb, arith, slice_index, slice_set}
use Rattle.std.specs.Prelude.{◌==◌}
use Rattle.std.proofs.lemmas.Bool.{cases_eq, ne_eqb}
use Rattle.std.proofs.lemmas.Grind.{get_or-set_at}
use Rattle.std.proofs.lemmas.List.{get_or-set_other, length-set}
use Rattle.std.proofs.lemmas.List.Sums.{count_by_more_no, count_by_more_yes}
use Rattle.machine_data.specs.declared.alternative.Row.{Row}
use Rattle.unit_bound.specs.Units.{chosen_rows, use_of}
use Rattle.unit_bound.proofs.Tally.{use_of-append}
use Rattle.resource_bound.specs.Choices.{rows_at}
use Rattle.resource_bound.proofs.Chosen.{rows-more}
use Rattle.outcome_text.specs.inner.Counts.{IsCounted}

-- the uses by one operation more
pub use-more : (operations : List (List (List Row))) (choices : List ℕ) (i unit uses more : ℕ) → i < length operations → i < length choices
    → uses ≡ use_of (chosen_rows (take i operations) choices) unit → more ≡ use_of (rows_at operations choices i) unit
    → uses + more ≡ use_of (chosen_rows (take (i + 1) operations) choices) unit
use-more operations choices i unit uses more within there before here =
    let all : use_of (chosen_rows (take (i + 1) operations) choices) unit ≡ use_of (chosen_rows (take i operations) choices ++ rows_at operations choices i) unit
    = ap (λ rows. use_of rows unit) (rows-more operations choices i within there) in
    let both = use_of-append (chosen_rows (take i operations) choices) (rows_at operations choices i) unit in
    omega (arith, all, both, before, here)

-- one row more is counted
pub counted-more : (rows : List Row) (old now : List ℕ) (i u x : ℕ) (d : Row) → i < length rows → u ≡ (get_or rows i d).unit → u < length old → x ≡ slice_index now u + 1
    → IsCounted (take i rows) old now → IsCounted (take (i + 1) rows) old (slice_set now u x)
counted-more rows old now i u x d within is there more was =
    let each : length now ≡ length old = was.each in
    record {
      each = length-set now u x ∙ each;
      counted = λ unit lt. elim (cases_eq unit u) [
        | inl same ↦
            let set : slice_index (slice_set now u x) unit ≡ x = get_or-set_at now u unit x 0 same (omega arith) in
            let yes : use_of (take (i + 1) rows) unit ≡ use_of (take i rows) unit + 1
            = count_by_more_yes (λ (r : Row). r.unit == unit) rows i d within (eq-eqb (get_or rows i d).unit unit (sym is ∙ sym same)) in
            let before : slice_index now unit ≡ slice_index old unit + use_of (take i rows) unit = was.counted unit lt in
            let here : slice_index now u ≡ slice_index now unit = ap (λ k. slice_index now k) (sym same) in
            omega (arith, set, yes, before, here, more)
        | inr other ↦
            let set : slice_index (slice_set now u x) unit ≡ slice_index now unit = get_or-set_other now u unit x 0 other in
            let no : use_of (take (i + 1) rows) unit ≡ use_of (take i rows) unit
            = count_by_more_no (λ (r : Row). r.unit == unit) rows i d within (ne_eqb (get_or rows i d).unit unit (λ e. other (sym (is ∙ e)))) in
            let before : slice_index now unit ≡ slice_index old unit + use_of (take i rows) unit = was.counted unit lt in
            omega (arith, set, no, before)
      ];
    }
