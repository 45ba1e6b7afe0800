-- How many instances live at once.
use Rattle.std.proofs.Common.{◌≡◌, ℕ, ◌+◌, ◌<◌, ◌≤◌, max, true, false, List, [], ◌∷◌, ◌++◌, length, get_or, map, take, drop, Some, refl, sym, ap, ◌∙◌, arith}
use Rattle.std.specs.Prelude.{slice_get, slice_index}
use Rattle.std.specs.List.{All, range_with_len}
use Rattle.std.proofs.lemmas.List.{drop_more, length-map}
use Rattle.std.proofs.lemmas.List.Elements.{All-map}
use Rattle.std.proofs.lemmas.List.FromFn.{map-range_with_len_more}
use Rattle.problems.specs.declared.draft.Draft.{Draft}
use Rattle.problems.specs.declared.draft.File.{File}
use Rattle.problems.specs.declared.draft.Value.{Value}
use Rattle.problems.specs.Problems.{ProblemData}
use Rattle.registers.specs.declared.lifetime.Lifetime.{Lifetime}
use Rattle.registers.specs.Crowds.{crowd_in}
use Rattle.registers.specs.Residues.{IsLifeSpan}
use Rattle.registers.specs.Values.{greatest_of}
use Rattle.registers.proofs.allotted.Filled.{take-front}
use Rattle.solutions.specs.Copies.{copies_of, is_unallotted, max_live_of, unallotted_in}
use Rattle.solutions.specs.Files.{in_file}
use Rattle.solutions.specs.Solutions.{SolutionData, IsLawfulSolution, files_of, lives_of_solution, schedule_of}
use Rattle.solutions.proofs.Filing.{all_in_file}
use Rattle.solutions.proofs.Lives.{are-spans, length-files, length-lives}
use Rattle.solutions.proofs.Rightness.{at-place}

pub spans-of : (s : SolutionData) → IsLawfulSolution s → All IsLifeSpan (lives_of_solution s)
spans-of s is = are-spans s.problem (schedule_of s) (record { is_problem = is.is_problem; is_schedule = is.is_schedule; same = refl })

pub span-of : (s : SolutionData) (value : ℕ) (life : Lifetime) → IsLawfulSolution s → slice_get (lives_of_solution s) value ≡ Some life → IsLifeSpan life
span-of s value life is at = at-place IsLifeSpan (lives_of_solution s) value life (spans-of s is) at

greatest-push : (ns : List ℕ) (n : ℕ) → greatest_of (ns ++ n ∷ []) ≡ max (greatest_of ns) n
greatest-push [] n = omega arith
greatest-push (m ∷ ns) n = let r = greatest-push ns n in omega arith

pub greatest-more : (f : ℕ → ℕ) (n : ℕ) → greatest_of (map f (range_with_len 0 (n + 1))) ≡ max (greatest_of (map f (range_with_len 0 n))) (f n)
greatest-more f n = ap greatest_of (map-range_with_len_more f 0 n n (omega arith)) ∙ greatest-push (map f (range_with_len 0 n)) (f n)

drop-yes : (kinds : List File) (files : List ℕ) (lives : List Lifetime) (k : ℕ) (d : Lifetime) → k < length files → length lives ≡ length files
    → is_unallotted (slice_get kinds (slice_index files k)) ≡ true
    → unallotted_in kinds (drop k files) (drop k lives) ≡ get_or lives k d ∷ unallotted_in kinds (drop (k + 1) files) (drop (k + 1) lives)
drop-yes kinds files lives k d lt long hit =
    ap (λ fs. unallotted_in kinds fs (drop k lives)) (drop_more files k 0 lt)
    ∙ ap (λ (ls : List Lifetime). unallotted_in kinds (get_or files k 0 ∷ drop (k + 1) files) ls) (drop_more lives k d (omega arith))
    ∙ rw hit refl

drop-no : (kinds : List File) (files : List ℕ) (lives : List Lifetime) (k : ℕ) (d : Lifetime) → k < length files → length lives ≡ length files
    → is_unallotted (slice_get kinds (slice_index files k)) ≡ false
    → unallotted_in kinds (drop k files) (drop k lives) ≡ unallotted_in kinds (drop (k + 1) files) (drop (k + 1) lives)
drop-no kinds files lives k d lt long miss =
    ap (λ fs. unallotted_in kinds fs (drop k lives)) (drop_more files k 0 lt)
    ∙ ap (λ (ls : List Lifetime). unallotted_in kinds (get_or files k 0 ∷ drop (k + 1) files) ls) (drop_more lives k d (omega arith))
    ∙ rw miss refl

pub unroll-yes : (ii : ℕ) (kinds : List File) (files : List ℕ) (lives : List Lifetime) (k : ℕ) (d : Lifetime) (greatest all : ℕ) → k < length files → length lives ≡ length files
    → is_unallotted (slice_get kinds (slice_index files k)) ≡ true
    → max greatest (greatest_of (map (copies_of ii) (unallotted_in kinds (drop k files) (drop k lives)))) ≡ all
    → max (max greatest (copies_of ii (get_or lives k d))) (greatest_of (map (copies_of ii) (unallotted_in kinds (drop (k + 1) files) (drop (k + 1) lives)))) ≡ all
unroll-yes ii kinds files lives k d greatest all lt long hit before =
    let e = ap (λ (ls : List Lifetime). greatest_of (map (copies_of ii) ls)) (drop-yes kinds files lives k d lt long hit) in
    omega arith

pub unroll-no : (ii : ℕ) (kinds : List File) (files : List ℕ) (lives : List Lifetime) (k : ℕ) (d : Lifetime) (greatest all : ℕ) → k < length files → length lives ≡ length files
    → is_unallotted (slice_get kinds (slice_index files k)) ≡ false
    → max greatest (greatest_of (map (copies_of ii) (unallotted_in kinds (drop k files) (drop k lives)))) ≡ all
    → max greatest (greatest_of (map (copies_of ii) (unallotted_in kinds (drop (k + 1) files) (drop (k + 1) lives)))) ≡ all
unroll-no ii kinds files lives k d greatest all lt long miss before =
    ap (λ (ls : List Lifetime). max greatest (greatest_of (map (copies_of ii) ls))) (sym (drop-no kinds files lives k d lt long miss)) ∙ before

-- the file of each value, as it is read off

pub read-files : (problem : ProblemData) (draft : Draft) (read : ProblemData) (values : List Value) (files : List ℕ) → read ≡ problem → draft ≡ read.draft → values ≡ draft.values.items
    → files ≡ map (λ (v : Value). v.file) values → files ≡ files_of problem.draft
read-files problem draft read values files a b c d =
    d ∙ ap (map (λ (v : Value). v.file)) (c ∙ ap (λ (x : Draft). x.values.items) (b ∙ ap (λ (p : ProblemData). p.draft) a))

pub front-is : (files rest : List ℕ) (values : List Value) → files ≡ map (λ (v : Value). v.file) values → take (length values) (files ++ rest) ≡ files
front-is files rest values is = take-front files rest (length values) (sym (ap length is ∙ length-map values _))

pub as-many : (s : SolutionData) (files : List ℕ) (lives : List Lifetime) → files ≡ files_of s.problem.draft → lives ≡ lives_of_solution s → length lives ≡ length files
as-many s files lives a b = ap length b ∙ length-lives s.problem.draft (schedule_of s) ∙ sym (length-files s.problem.draft) ∙ ap length (sym a)

abbrev crowds : ℕ → List ℕ → ℕ → List Lifetime → ℕ
crowds ii files file lives = greatest_of (map (λ row. crowd_in ii row (in_file files file lives) (length (in_file files file lives))) (range_with_len 0 ii))

pub max_live-is : (s : SolutionData) (ii : ℕ) (files : List ℕ) (file : ℕ) (lives : List Lifetime) → ii ≡ s.ii → files ≡ files_of s.problem.draft → lives ≡ lives_of_solution s
    → greatest_of (map (λ row. crowd_in ii row (in_file files file lives) (length (in_file files file lives))) (range_with_len 0 ii)) ≡ max_live_of s file
max_live-is s ii files file lives a b c =
    ap (λ n. crowds n files file lives) a ∙ ap (λ fs. crowds s.ii fs file lives) b ∙ ap (λ (ls : List Lifetime). crowds s.ii (files_of s.problem.draft) file ls) c

pub few-lives : (s : SolutionData) (lives : List Lifetime) → IsLawfulSolution s → lives ≡ lives_of_solution s → length lives ≤ 256
few-lives s lives is a =
    let each : length lives ≡ length (files_of s.problem.draft) = as-many s (files_of s.problem.draft) lives refl a in
    let size = length-files s.problem.draft in
    let few = is.is_problem.is_well_formed.counts.values_few in
    omega (arith, each, size, few)

-- where all values are of the file
pub max_live-all : (s : SolutionData) (ii : ℕ) (file : ℕ) (lives : List Lifetime) → ii ≡ s.ii → lives ≡ lives_of_solution s → All (λ (v : Value). v.file ≡ file) s.problem.draft.values.items
    → greatest_of (map (λ row. crowd_in ii row lives (length lives)) (range_with_len 0 ii)) ≡ max_live_of s file
max_live-all s ii file lives a b all =
    let files = files_of s.problem.draft in
    let each : length lives ≡ length files = as-many s files lives refl b in
    let same : in_file files file lives ≡ lives = all_in_file files file lives each (All-map (λ other. other ≡ file) (λ (v : Value). v.file) s.problem.draft.values.items all) in
    ap (λ (ls : List Lifetime). greatest_of (map (λ row. crowd_in ii row ls (length ls)) (range_with_len 0 ii))) (sym same) ∙ max_live-is s ii files file lives a refl b
