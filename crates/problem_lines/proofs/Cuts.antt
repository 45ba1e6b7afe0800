-- Words whose bytes may stand in a name, at a cut.
use Rattle.std.proofs.Common.{◌≡◌, ℕ, zero, suc, ◌<◌, ◌≤◌, Bool, true, false, List, length, get_or, take, refl, sym, ◌∙◌, ap, add-one, arith}
use Rattle.std.specs.Prelude.{◌&&◌}
use Rattle.std.specs.List.{list_all}
use Rattle.std.proofs.lemmas.List.Folds.{list_all_more}
use Rattle.std.proofs.lemmas.Bool.Decides.{nat_tests}
use Rattle.loop_lines.specs.Words.{stops_word}
use Rattle.problem_lines.specs.Names.{is_printable}

-- a byte of a name ends no word
pub printable_goes_on : (c : ℕ) → is_printable c ≡ true → stops_word c ≡ false
printable_goes_on c h = grind (arith, nat_tests)

named_all-more : (text : List ℕ) (n : ℕ) → n ≤ length text → ((k : ℕ) → k < n → is_printable (get_or text k 0) ≡ true) → list_all is_printable (take n text) ≡ true
named_all-more text zero few named = refl
named_all-more text (suc n) few named =
    ap (λ m. list_all is_printable (take m text)) (sym (add-one n))
    ∙ list_all_more is_printable text n 0 (omega arith)
    ∙ ap (λ b. b && is_printable (get_or text n 0)) (named_all-more text n (omega arith) (λ k lt. named k (omega arith)))
    ∙ named n (omega arith)

-- bytes that may all stand in a name
pub named_all : (text : List ℕ) (n : ℕ) → n ≤ length text → ((k : ℕ) → k < n → is_printable (get_or text k 0) ≡ true) → true ≡ list_all is_printable (take n text)
named_all text n few named = sym (named_all-more text n few named)

pub named_goes_on : (text : List ℕ) (n : ℕ) → ((k : ℕ) → k < n → is_printable (get_or text k 0) ≡ true) → (k : ℕ) → k < n → stops_word (get_or text k 0) ≡ false
named_goes_on text n named k lt = printable_goes_on (get_or text k 0) (named k lt)

pub both_kept : (before here after : Bool) → after ≡ (before && here) → here ≡ true → after ≡ before
both_kept true here after e h = e ∙ h
both_kept false here after e h = e

pub both_false : (before here after : Bool) → after ≡ (before && here) → here ≡ false → after ≡ false
both_false true here after e h = e ∙ h
both_false false here after e h = e
