-- Lines of a text, followed by others.
use Rattle.std.proofs.Common.{◌≡◌, ◌∙◌, ℕ, ◌==◌, Bool, true, false, if◌then◌else◌, List, [], ◌∷◌, ◌++◌, map, refl, sym, ap, inl, inr}
use Rattle.std.proofs.lemmas.List.{map-append}
use Rattle.loop_lines.specs.Forms.{line_form}
use Rattle.loop_lines.specs.Words.{lines_of, onto_first, words_of}
use Rattle.loop_reader.specs.Meaning.{forms_of}
use Rattle.workers.specs.Apart.{EndsLine}

-- the lines of a text that ends its last line: there is one, and what follows has its own lines
pub record AreEnded (text : List ℕ) : Type 0 where
  pub first : List ℕ
  pub more : List (List ℕ)
  pub some : lines_of text ≡ first ∷ more
  pub others : (other : List ℕ) → lines_of (text ++ other) ≡ lines_of text ++ lines_of other

ended-more : (c : ℕ) (text : List ℕ) → AreEnded text → AreEnded (c ∷ text)
ended-more c text h =
    let by_case : (b : Bool) → (c == 10) ≡ b → AreEnded (c ∷ text) = λ b.
    elim b as (λ b. (c == 10) ≡ b → AreEnded (c ∷ text)) [
      | true ↦ λ e. record {
        first = [];
        more = lines_of text;
        some = ap (λ t. if t then [] ∷ lines_of text else onto_first c (lines_of text)) e;
        others = λ other. ap (λ t. if t then [] ∷ lines_of (text ++ other) else onto_first c (lines_of (text ++ other))) e ∙ ap (λ ls. [] ∷ ls) (h.others other)
            ∙ sym (ap (λ t. (if t then [] ∷ lines_of text else onto_first c (lines_of text)) ++ lines_of other) e);
      }
      | false ↦ λ e. record {
        first = c ∷ h.first;
        more = h.more;
        some = ap (λ t. if t then [] ∷ lines_of text else onto_first c (lines_of text)) e ∙ ap (onto_first c) h.some;
        others = λ other. ap (λ t. if t then [] ∷ lines_of (text ++ other) else onto_first c (lines_of (text ++ other))) e ∙ ap (onto_first c) (h.others other)
            ∙ ap (λ ls. onto_first c (ls ++ lines_of other)) h.some ∙ sym (ap (λ ls. onto_first c ls ++ lines_of other) h.some)
            ∙ sym (ap (λ t. (if t then [] ∷ lines_of text else onto_first c (lines_of text)) ++ lines_of other) e);
      }
    ] in
    by_case (c == 10) refl

ended : (front : List ℕ) → AreEnded (front ++ 10 ∷ [])
ended [] = record { first = []; more = []; some = refl; others = λ other. refl }
ended (c ∷ front) = ended-more c (front ++ 10 ∷ []) (ended front)

lines-then : (text other : List ℕ) → EndsLine text → lines_of (text ++ other) ≡ lines_of text ++ lines_of other
lines-then text other (inl e) = ap (λ t. lines_of (t ++ other)) e ∙ sym (ap (λ t. lines_of t ++ lines_of other) e)
lines-then text other (inr h) = ap (λ t. lines_of (t ++ other)) h.1 ∙ (ended h.0).others other ∙ sym (ap (λ t. lines_of t ++ lines_of other) h.1)

-- the forms of the lines of a text that ends its last line, and of what follows
pub forms-then : (text other : List ℕ) → EndsLine text → forms_of (text ++ other) ≡ forms_of text ++ forms_of other
forms-then text other h =
    ap (map (λ (line : List ℕ). line_form (words_of line))) (lines-then text other h) ∙ map-append (λ (line : List ℕ). line_form (words_of line)) (lines_of text) (lines_of other)
