-- Answers to the problems of a file, one after another.
use Rattle.std.specs.Prelude.{◌≡◌, ℕ, not, Bool, List, ◌++◌, count_by, length}
use Rattle.std.specs.List.{AllZip, flat_map}
use Rattle.problem_tables.specs.Data.{ProblemData as TextProblem}
use Rattle.writing.specs.Words.{last_line}
use Rattle.problem_printouts.specs.declared.answers.Answers.{Answers}

-- what is told of a problem, and whether it is met
pub record Answer : Type 0 where
  pub text : List ℕ
  pub met : Bool

abbrev pub texts_of : List Answer → List ℕ
texts_of answers = flat_map (λ (answer : Answer). answer.text) answers

abbrev pub met_in : List Answer → ℕ
met_in answers = count_by (λ (answer : Answer). answer.met) answers

abbrev pub failed_in : List Answer → ℕ
failed_in answers = count_by (λ (answer : Answer). not answer.met) answers

-- the last line, `P met A failed B` after some words
abbrev pub counts_after : List ℕ → List Answer → List ℕ
counts_after words answers = last_line words (length answers) (met_in answers) (failed_in answers)

-- the answers one after another, and what comes last
pub record AreTold (last : List Answer → List ℕ) (answers : List Answer) (told : Answers) : Type 0 where
  pub is_text : told.text.items ≡ texts_of answers ++ last answers
  pub same_met : told.met ≡ met_in answers
  pub same_failed : told.failed ≡ failed_in answers

-- an answer to each problem, in order, what comes last, and how many are met and how many have failed
pub record TellsEach (last : List Answer → List ℕ) (is_answer : TextProblem → Answer → Type 0) (problems : List TextProblem) (told : Answers) : Type 0 where
  pub answers : List Answer
  pub each : AllZip is_answer problems answers
  pub are_told : AreTold last answers told
