-- The answers of a document, with a comma before each.
use Rattle.std.proofs.Common.{◌≡◌, ◌∙◌, ℕ, ◌+◌, ◌-◌, Bool, List, [], ◌∷◌, ◌++◌, length, drop, refl, sym, ap, ap₂, append_assoc, arith}
use Rattle.std.specs.Prelude.{codes, cond, IfOk, Result, Ok, Err}
use Rattle.std.specs.List.{AllZip, flat_map, join_by}
use Rattle.std.proofs.lemmas.List.Sums.{sum_by-cons}
use Rattle.settings.specs.declared.format.Format.TheVariants.{Json}
use Rattle.settings.specs.Settings.{SettingsData}
use Rattle.problem_tables.specs.Data.{FileData, ProblemData as TextProblem}
use Rattle.writing.specs.Words.{told}
use Rattle.problem_printouts.specs.Solving.{IsAnswer, IsSolveDocument}
use Rattle.problem_printouts.specs.Told.{Answer, failed_in, met_in, texts_of}
use Rattle.problem_printouts.specs.declared.answers.Answers.{Answers}
use Rattle.problem_printouts.specs.inner.Listed.{IsAfterComma}
use Rattle.problem_printouts.specs.inner.Sofar.{AreAnswered, IsOneMore}
use Rattle.problem_printouts.proofs.Answered.{met-one, met-or-failed, zip-long}

-- one more answer, with a comma before it
pub after-comma : (is_answer : Answer → Type 0) (old text new : List ℕ) (met : Bool) → text ≡ old ++ codes "," → IsOneMore is_answer text new met
    → IsOneMore (IsAfterComma is_answer) old new met
after-comma is_answer old text new met comma one = record {
  answer = record { text = codes "," ++ one.answer.text; met = one.answer.met };
  is = record { answer = one.answer; is = one.is; is_text = refl; same_met = refl };
  is_text = one.is_text ∙ ap (λ t. t ++ one.answer.text) comma ∙ append_assoc old (codes ",") one.answer.text;
  same_met = one.same_met;
}

-- the answers without their commas
record AreBare (is_answer : TextProblem → Answer → Type 0) (problems : List TextProblem) (listed : List Answer) : Type 0 where
  pub list : List Answer
  pub each : AllZip is_answer problems list
  pub is_text : texts_of listed ≡ flat_map (λ (a : Answer). codes "," ++ a.text) list
  pub same_met : met_in listed ≡ met_in list

bare-of : (is_answer : TextProblem → Answer → Type 0) (problems : List TextProblem) (listed : List Answer)
    → AllZip (λ (problem : TextProblem) (answer : Answer). IsAfterComma (is_answer problem) answer) problems listed → AreBare is_answer problems listed
bare-of is_answer [] [] all = record { list = []; each = tt; is_text = refl; same_met = refl }
bare-of is_answer [] (a ∷ listed) all = absurd all
bare-of is_answer (p ∷ problems) [] all = absurd all
bare-of is_answer (p ∷ problems) (a ∷ listed) all =
    let one : IsAfterComma (is_answer p) a = all.0 in
    let rest : AreBare is_answer problems listed = bare-of is_answer problems listed all.1 in
    record {
      list = one.answer ∷ rest.list;
      each = (one.is, rest.each);
      is_text = ap₂ (λ (s t : List ℕ). s ++ t) one.is_text rest.is_text;
      same_met = sum_by-cons met-one a listed ∙ ap₂ (λ (m n : ℕ). m + n) (ap (λ (b : Bool). cond b 1 0) one.same_met) rest.same_met
          ∙ sym (sum_by-cons met-one one.answer rest.list);
    }

-- without the first comma they are joined
joined : (list : List Answer) → drop 1 (flat_map (λ (a : Answer). codes "," ++ a.text) list) ≡ join_by (λ (a : Answer). a.text) (codes ",") list
joined [] = refl
joined (a ∷ list) = refl

-- the text of a document, by the counts and the list
abbrev pub around : ℕ → ℕ → List ℕ → List ℕ
around failed met list =
    ((told (codes "{\"failed\":") failed ++ told (codes ",\"met\":") met) ++ codes ",\"problems\":[") ++ (list ++ codes "],\"version\":1}\n")

-- the document of all answers, if memory is enough for it
pub document-ok : {E : Type 0} (file : FileData) (settings : SettingsData) (list : List ℕ) (all met : ℕ)
    → AreAnswered (λ (problem : TextProblem) (answer : Answer). IsAfterComma (IsAnswer file settings Json problem) answer) file.problems [] list met → all ≡ length file.problems
    → (r : Result Answers E) → IfOk r (λ a. a.text.items ≡ around (all - met) met (drop 1 list)) → IfOk r (λ a. a.met ≡ met) → IfOk r (λ a. a.failed ≡ all - met)
    → IfOk r (IsSolveDocument file settings)
document-ok file settings list all met so is_all (Ok a) is_text is_met is_failed =
    let bare : AreBare (IsAnswer file settings Json) file.problems so.answers = bare-of (IsAnswer file settings Json) file.problems so.answers so.each in
    let met_of : met ≡ met_in bare.list = so.same_met ∙ bare.same_met in
    let both = met-or-failed bare.list in
    let long = zip-long (IsAnswer file settings Json) file.problems bare.list bare.each in
    let failed : all - met ≡ failed_in bare.list = omega (arith, met_of, both, long, is_all) in
    let rest : drop 1 list ≡ join_by (λ (a : Answer). a.text) (codes ",") bare.list = ap (drop 1) (so.is_text ∙ bare.is_text) ∙ joined bare.list in
    record {
      list = bare.list;
      each = bare.each;
      is_text = is_text ∙ ap (λ n. around n met (drop 1 list)) failed ∙ ap (λ n. around (failed_in bare.list) n (drop 1 list)) met_of
          ∙ ap (around (failed_in bare.list) (met_in bare.list)) rest;
      same_met = is_met ∙ met_of;
      same_failed = is_failed ∙ failed;
    }
document-ok file settings list all met so is_all (Err e) is_text is_met is_failed = tt

-- a text that is pushed piece by piece
pub built : (start one two three four five a b c d e : List ℕ) → start ≡ [] → one ≡ start ++ a → two ≡ one ++ b → three ≡ two ++ c → four ≡ three ++ d
    → five ≡ four ++ e → five ≡ ((a ++ b) ++ c) ++ (d ++ e)
built start one two three four five a b c d e none p q r s t =
    t ∙ ap (λ x. x ++ e) (s ∙ ap (λ x. x ++ d) (r ∙ ap (λ x. x ++ c) (q ∙ ap (λ x. x ++ b) (p ∙ ap (λ x. x ++ a) none)))) ∙ append_assoc ((a ++ b) ++ c) d e
