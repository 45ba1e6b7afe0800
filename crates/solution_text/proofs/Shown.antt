-- How many copies there are of a value, by when it lives.
use Rattle.std.proofs.Common.{◌≡◌, ℕ, ◌<◌, arith, length, Some}
use Rattle.std.specs.Prelude.{slice_get}
use Rattle.std.proofs.lemmas.Option.{slice_get-get_or}
use Rattle.registers.specs.declared.lifetime.Lifetime.{Lifetime}
use Rattle.solutions.specs.Copies.{copies_of}
use Rattle.solutions.specs.Solutions.{SolutionData, lives_of_solution, schedule_of}
use Rattle.solutions.proofs.Lives.{length-lives}
use Rattle.solution_text.specs.Values.{life_of}

pub copies-is : (s : SolutionData) (value n : ℕ) → value < length s.problem.draft.values.items
    → ((life : Lifetime) → slice_get (lives_of_solution s) value ≡ Some life → n ≡ copies_of s.ii life) → n ≡ copies_of s.ii (life_of s value)
copies-is s value n there h =
    let long : length (lives_of_solution s) ≡ length s.problem.draft.values.items = length-lives s.problem.draft (schedule_of s) in
    h (life_of s value) (slice_get-get_or (lives_of_solution s) value (record { operation = 0; first = 0; last = 0 }) (omega arith))
