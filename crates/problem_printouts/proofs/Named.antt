-- Names and the map of their numbers.
use Rattle.std.proofs.Common.{◌≡◌, ℕ, ◌+◌, ◌<◌, ◌≤◌, false, if◌then◌else◌, List, [], ◌∷◌, ◌++◌, length, take, get_or, Some, None, sym, ◌∙◌, ap, arith}
use Rattle.std.proofs.lemmas.List.{get_or-map, length-map, length-take-le, take_more}
use Rattle.std.proofs.lemmas.List.Quantifiers.{position-Some}
use Rattle.std.proofs.lemmas.Map.Text.{btree_map_updates_str}
use Rattle.std.specs.Borrow.{Bor}
use Rattle.std.specs.BTreeMap.{BTreeMap, UpdatesBy}
use Rattle.std.specs.Cmp.Lexicographic.{slice_cmp}
use Rattle.std.specs.Option.{option_or, is_some}
use Rattle.std.specs.Ordering.{nat_cmp}
use Rattle.machine_data.specs.Opcodes.{same_word}
use Rattle.problem_tables.specs.Data.{FileData, ProblemData as TextProblem}
use Rattle.problem_reader.specs.Files.{nothing, problem_at}
use Rattle.solution_reader.specs.Data.{number_of_name}
use Rattle.solution_reader.proofs.Names.{added, none-known, number-push}
use Rattle.problem_printouts.specs.Judging.{problem_names}
use Rattle.problem_printouts.specs.inner.Known.{known_at, AreNumbers}

-- it is new
pub added-new : (old new : BTreeMap (Bor (List ℕ)) ℕ) (name : List ℕ) (number : ℕ) → is_some (known_at old name) ≡ false
    → UpdatesBy (λ (x y : Bor (List ℕ)). slice_cmp nat_cmp x.now y.now) (λ k. slice_cmp nat_cmp name k.now) old new (Some number)
    → (q : List ℕ) → known_at new q ≡ option_or (known_at old q) (if same_word q name then Some number else None)
added-new old new name number none updates = added (known_at old) (known_at new) name number (none-known (known_at old name) none) (btree_map_updates_str name old new _ updates)

-- the names of the first problems

pub numbers-more : (file : FileData) (old new : BTreeMap (Bor (List ℕ)) ℕ) (number : ℕ) (name : List ℕ) → number < length file.problems → name ≡ (problem_at file number).name
    → AreNumbers (take number (problem_names file)) old
    → ((q : List ℕ) → known_at new q ≡ option_or (known_at old q) (if same_word q name then Some number else None))
    → AreNumbers (take (number + 1) (problem_names file)) new
numbers-more file old new number name low is are known =
    let names = problem_names file in
    let low_name : number < length names = omega (arith, low, length-map file.problems (λ (p : TextProblem). p.name)) in
    let high_name : number ≤ length names = omega (arith, low_name) in
    let count : length (take number names) ≡ number = length-take-le number names high_name in
    let here : get_or names number [] ≡ name = get_or-map (λ (p : TextProblem). p.name) file.problems number nothing [] low ∙ sym is in
    let more : take (number + 1) names ≡ take number names ++ name ∷ [] = take_more names number [] low_name ∙ ap (λ n. take number names ++ n ∷ []) here in
    record {
      each = λ q.
          known q
          ∙ ap (λ o. option_or o (if same_word q name then Some number else None)) (are.each q)
          ∙ ap (λ n. option_or (number_of_name (take number names) q) (if same_word q name then Some n else None)) (sym count)
          ∙ sym (number-push (take number names) name q)
          ∙ ap (λ ns. number_of_name ns q) (sym more);
    }

pub numbers-none : (file : FileData) (numbers : BTreeMap (Bor (List ℕ)) ℕ) → ((q : List ℕ) → known_at numbers q ≡ None) → AreNumbers (take 0 (problem_names file)) numbers
numbers-none file numbers none = record { each = none }

-- a number that the map has is that of a problem
pub known-below : (file : FileData) (numbers : BTreeMap (Bor (List ℕ)) ℕ) (q : List ℕ) (number : ℕ) → AreNumbers (problem_names file) numbers → known_at numbers q ≡ Some number → number < length file.problems
known-below file numbers q number are is =
    let there = (position-Some (same_word q) (problem_names file) number [] (sym (are.each q) ∙ is)).0 in
    omega (arith, there, length-map file.problems (λ (p : TextProblem). p.name))
