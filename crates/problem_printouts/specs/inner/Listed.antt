-- Answers with a comma before each.
use Rattle.std.specs.Prelude.{◌≡◌, codes, ◌++◌}
use Rattle.problem_printouts.specs.Told.{Answer}

-- an answer like that, after a comma
pub record IsAfterComma (is_answer : Answer → Type 0) (listed : Answer) : Type 0 where
  pub answer : Answer
  pub is : is_answer answer
  pub is_text : listed.text ≡ codes "," ++ answer.text
  pub same_met : listed.met ≡ answer.met
