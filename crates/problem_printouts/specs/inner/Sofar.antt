-- The answers to the first problems of a file.
use Rattle.std.specs.Prelude.{◌≡◌, ℕ, Bool, List, ◌++◌}
use Rattle.std.specs.List.{AllZip}
use Rattle.problem_tables.specs.Data.{ProblemData as TextProblem}
use Rattle.problem_printouts.specs.Told.{Answer, met_in, texts_of}

-- the answers to these problems are after the old text, and `met` of them are met
pub record AreAnswered (is_answer : TextProblem → Answer → Type 0) (problems : List TextProblem) (old text : List ℕ) (met : ℕ) : Type 0 where
  pub answers : List Answer
  pub each : AllZip is_answer problems answers
  pub is_text : text ≡ old ++ texts_of answers
  pub same_met : met ≡ met_in answers

-- an answer is after the old text, with whether it is met
pub record IsOneMore (is_answer : Answer → Type 0) (old text : List ℕ) (met : Bool) : Type 0 where
  pub answer : Answer
  pub is : is_answer answer
  pub is_text : text ≡ old ++ answer.text
  pub same_met : met ≡ answer.met
