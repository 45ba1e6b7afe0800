-- Answers, one after another.
use Rattle.std.proofs.Common.{◌≡◌, ◌∙◌, ℕ, suc, ◌+◌, ◌-◌, ◌<◌, ◌≤◌, Bool, true, false, not, List, [], ◌∷◌, ◌++◌, length, take, refl, sym, ap, subst, arith, append-nil}
use Rattle.std.specs.Prelude.{codes, cond, if◌then◌else◌, IfOk, Result, Ok, Err}
use Rattle.std.specs.List.{AllZip}
use Rattle.std.proofs.lemmas.List.{take_all, take_more, flat_map_more, length-take}
use Rattle.std.proofs.lemmas.List.Sums.{sum_by-cons}
use Rattle.writing.specs.Words.{last_line, told as words_told}
use Rattle.problem_printouts.specs.Graphing.{count_line}
use Rattle.problem_tables.specs.Data.{ProblemData as TextProblem}
use Rattle.problem_reader.specs.Files.{nothing}
use Rattle.std.specs.List.{slice_index_or}
use Rattle.problem_printouts.specs.Told.{Answer, TellsEach, counts_after, failed_in, met_in, texts_of}
use Rattle.problem_printouts.specs.declared.answers.Answers.{Answers}
use Rattle.problem_printouts.specs.inner.Sofar.{AreAnswered, IsOneMore}

-- pairs

zip-push : {A B : Type 0} (R : A → B → Type 0) (xs : List A) (ys : List B) (x : A) (y : B) → AllZip R xs ys → R x y → AllZip R (xs ++ x ∷ []) (ys ++ y ∷ [])
zip-push R [] [] x y all r = (r, tt)
zip-push R [] (b ∷ ys) x y all r = absurd all
zip-push R (a ∷ xs) [] x y all r = absurd all
zip-push R (a ∷ xs) (b ∷ ys) x y all r = (all.0, zip-push R xs ys x y all.1 r)

pub zip-long : {A B : Type 0} (R : A → B → Type 0) (xs : List A) (ys : List B) → AllZip R xs ys → length ys ≡ length xs
zip-long R [] [] all = refl
zip-long R [] (b ∷ ys) all = absurd all
zip-long R (a ∷ xs) [] all = absurd all
zip-long R (a ∷ xs) (b ∷ ys) all = ap suc (zip-long R xs ys all.1)

-- counts

abbrev pub met-one : Answer → ℕ
met-one answer = cond answer.met 1 0

abbrev failed-one : Answer → ℕ
failed-one answer = cond (not answer.met) 1 0

met-push : (answers : List Answer) (answer : Answer) → met_in (answers ++ answer ∷ []) ≡ met_in answers + (if answer.met then 1 else 0)
met-push [] answer = sum_by-cons met-one answer [] ∙ omega arith
met-push (first ∷ answers) answer =
    let here = sum_by-cons met-one first (answers ++ answer ∷ []) in
    let more = met-push answers answer in
    let all = sum_by-cons met-one first answers in
    omega (arith, here, more, all)

either : (b : Bool) → cond b 1 0 + cond (not b) 1 0 ≡ 1
either true = refl
either false = refl

pub met-or-failed : (answers : List Answer) → met_in answers + failed_in answers ≡ length answers
met-or-failed [] = refl
met-or-failed (answer ∷ answers) =
    let met = sum_by-cons met-one answer answers in
    let failed = sum_by-cons failed-one answer answers in
    let one = either answer.met in
    let more = met-or-failed answers in
    omega (arith, met, failed, one, more)

module _ (is_answer : TextProblem → Answer → Type 0) (problems : List TextProblem) (old : List ℕ) where
  -- the first `number` problems are answered
  abbrev pub IsSofar : ℕ → List ℕ → ℕ → Type 0
  IsSofar number text met = AreAnswered is_answer (take number problems) old text met

  pub answered-none : IsSofar 0 old 0
  answered-none = record { answers = []; each = tt; is_text = sym (append-nil old); same_met = refl }

  pub answered-more : (text more : List ℕ) (number met : ℕ) (is_met : Bool) → number < length problems → IsSofar number text met
      → IsOneMore (is_answer (slice_index_or problems number nothing)) text more is_met → IsSofar (number + 1) more (met + (if is_met then 1 else 0))
  answered-more text more number met is_met low so one = record {
    answers = so.answers ++ one.answer ∷ [];
    each = subst (λ l. AllZip is_answer l (so.answers ++ one.answer ∷ [])) (sym (take_more problems number nothing low))
        (zip-push is_answer (take number problems) so.answers (slice_index_or problems number nothing) one.answer so.each one.is);
    is_text = one.is_text ∙ ap (λ t. t ++ one.answer.text) so.is_text ∙ flat_map_more (λ (a : Answer). a.text) old so.answers one.answer;
    same_met = ap (λ n. n + (if is_met then 1 else 0)) so.same_met ∙ ap (λ b. met_in so.answers + (if b then 1 else 0)) one.same_met ∙ sym (met-push so.answers one.answer);
  }

  -- at most `number` of them are met
  pub answered-few : (text : List ℕ) (number met : ℕ) → number ≤ length problems → IsSofar number text met → met ≤ number
  answered-few text number met low so =
      let is = so.same_met in
      let both = met-or-failed so.answers in
      let long = zip-long is_answer (take number problems) so.answers so.each in
      let size = length-take number problems in
      omega (arith, is, both, long, size, low)

  -- all problems
  pub all-answered : (text : List ℕ) (number met : ℕ) → length problems ≤ number → IsSofar number text met → AreAnswered is_answer problems old text met
  all-answered text number met high so = subst (λ l. AreAnswered is_answer l old text met) (take_all number problems high) so

-- all are met at most
pub few-met : (is_answer : TextProblem → Answer → Type 0) (problems : List TextProblem) (old text : List ℕ) (met : ℕ) → AreAnswered is_answer problems old text met → met ≤ length problems
few-met is_answer problems old text met so =
    let is = so.same_met in
    let both = met-or-failed so.answers in
    let long = zip-long is_answer problems so.answers so.each in
    omega (arith, is, both, long)

-- what is told of all problems
pub told-all : (last : List Answer → List ℕ) (is_answer : TextProblem → Answer → Type 0) (problems : List TextProblem) (text end : List ℕ) (all met : ℕ) (told : Answers) (so : AreAnswered is_answer problems [] text met)
    → all ≡ length problems → end ≡ last so.answers → told.text.items ≡ text ++ end → told.met ≡ met → told.failed ≡ all - met → TellsEach last is_answer problems told
told-all last is_answer problems text end all met told so is_all is_end is_text is_met is_failed =
    let answers = so.answers in
    let is = so.same_met in
    let both = met-or-failed answers in
    let long = zip-long is_answer problems answers so.each in
    let many : all ≡ length answers = is_all ∙ sym long in
    let failed : all - met ≡ failed_in answers = omega (arith, is, both, many) in
    record {
      answers = answers;
      each = so.each;
      are_told = record {
        is_text = is_text ∙ ap (λ t. t ++ end) so.is_text ∙ ap (λ e. texts_of answers ++ e) is_end;
        same_met = is_met ∙ is;
        same_failed = is_failed ∙ failed;
      };
    }

-- the last line of counts
counts-end : (words : List ℕ) (is_answer : TextProblem → Answer → Type 0) (problems : List TextProblem) (text : List ℕ) (all met : ℕ) (so : AreAnswered is_answer problems [] text met) → all ≡ length problems
    → last_line words all met (all - met) ≡ counts_after words so.answers
counts-end words is_answer problems text all met so is_all =
    let answers = so.answers in
    let is = so.same_met in
    let both = met-or-failed answers in
    let long = zip-long is_answer problems answers so.each in
    let many : all ≡ length answers = is_all ∙ sym long in
    let failed : all - met ≡ failed_in answers = omega (arith, is, both, many) in
    ap (λ n. last_line words n met (all - met)) many ∙ ap (λ n. last_line words (length answers) n (all - met)) is ∙ ap (λ n. last_line words (length answers) (met_in answers) n) failed

-- .. if memory is enough for it
pub told-ok : {E : Type 0} (words : List ℕ) (is_answer : TextProblem → Answer → Type 0) (problems : List TextProblem) (text : List ℕ) (all met : ℕ) → AreAnswered is_answer problems [] text met → all ≡ length problems
    → (r : Result Answers E) → IfOk r (λ told. told.text.items ≡ text ++ last_line words all met (all - met)) → IfOk r (λ told. told.met ≡ met) → IfOk r (λ told. told.failed ≡ all - met)
    → IfOk r (TellsEach (counts_after words) is_answer problems)
told-ok words is_answer problems text all met so is_all (Ok told) is_text is_met is_failed =
    told-all (counts_after words) is_answer problems text (last_line words all met (all - met)) all met told so is_all (counts-end words is_answer problems text all met so is_all) is_text is_met is_failed
told-ok words is_answer problems text all met so is_all (Err e) is_text is_met is_failed = tt

-- .. with how many there are
pub counted-ok : {E : Type 0} (is_answer : TextProblem → Answer → Type 0) (problems : List TextProblem) (text : List ℕ) (all met : ℕ) → AreAnswered is_answer problems [] text met → all ≡ length problems
    → (r : Result Answers E) → IfOk r (λ told. told.text.items ≡ text ++ (words_told (codes "problems ") all ++ codes "\n")) → IfOk r (λ told. told.met ≡ met) → IfOk r (λ told. told.failed ≡ all - met)
    → IfOk r (TellsEach count_line is_answer problems)
counted-ok is_answer problems text all met so is_all (Ok told) is_text is_met is_failed =
    let many : all ≡ length so.answers = is_all ∙ sym (zip-long is_answer problems so.answers so.each) in
    told-all count_line is_answer problems text (words_told (codes "problems ") all ++ codes "\n") all met told so is_all (ap (λ n. words_told (codes "problems ") n ++ codes "\n") many) is_text is_met is_failed
counted-ok is_answer problems text all met so is_all (Err e) is_text is_met is_failed = tt

-- what follows from what is said of an `Ok`
pub if-ok : {A E : Type 0} (r : Result A E) {P Q : A → Type 0} → IfOk r P → ((a : A) → P a → Q a) → IfOk r Q
if-ok (Ok a) p more = more a p
if-ok (Err e) p more = tt
