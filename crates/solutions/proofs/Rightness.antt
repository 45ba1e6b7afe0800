-- What is found is lawful, and lawful solutions are runs.
use Rattle.std.proofs.Common.{◌≡◌, ℕ, ℤ, suc, zero, ◌<◌, ◌≤◌, List, [], ◌∷◌, length, get_or, map, zip, Option, Some, None, refl, sym, ap, ◌∙◌, subst, inl, inr, ◌⊎◌, arith}
use Rattle.std.specs.Prelude.{slice_get, slice_index}
use Rattle.std.specs.List.{All, slice_index_or}
use Rattle.std.proofs.lemmas.List.{length-map}
use Rattle.std.proofs.lemmas.Option.{get_or_from_slice_get, slice_get-get_or, slice_get_within}
use Rattle.instances.specs.Runs.{DoMeet, Home, Rotates, IsRun, home_of, place_in}
use Rattle.instances.specs.Runs as runs
use Rattle.problems.specs.declared.draft.Draft.{Draft}
use Rattle.problems.specs.declared.draft.File.{File}
use Rattle.problems.specs.declared.draft.File.TheVariants.{Rotating, Unallotted}
use Rattle.problems.specs.declared.draft.Value.{Value}
use Rattle.problems.specs.Drafts.{IsWellFormed, plain_values}
use Rattle.problems.specs.Problems.{ProblemData, IsProblem}
use Rattle.registers.specs.declared.lifetime.Lifetime.{Lifetime}
use Rattle.registers.specs.declared.value.Value.{Value as PlainValue}
use Rattle.registers.specs.Lifetimes.{IsLiveIn}
use Rattle.registers.specs.Physical.{physical}
use Rattle.registers.specs.Values.{greatest_of, landing_of}
use Rattle.registers.proofs.allotted.Least.{least-is_lawful}
use Rattle.solutions.specs.Files.{in_file, place_in as place}
use Rattle.solutions.specs.Outcomes.{Gives}
use Rattle.solutions.specs.Promises.{GivesIsLawful, LawfulSolutionsAreRuns}
use Rattle.solutions.specs.Runs.{home_in, run_of}
use Rattle.solutions.specs.Solutions.{SolutionData, IsLawfulSolution, IsNumberIn, IsRightNumber, end_of, files_of, lives_at, lives_of_solution, schedule_of}
use Rattle.solutions.proofs.Filing.{at_place, one_place}
use Rattle.solutions.proofs.Lives.{IsOf, are-in_time, are-values, length-files, length-lives}

pub gives-is_lawful : GivesIsLawful
gives-is_lawful problem ii s is g = record {
  is_problem = subst IsProblem (sym g.same_problem) is;
  is_schedule = g.is_placed.4;
  numbers = g.least.numbers;
  files = λ file registers rotating. least-is_lawful s.ii registers (in_file (files_of s.problem.draft) file (lives_of_solution s))
      (in_file (files_of s.problem.draft) file s.numbers) (g.least.files file registers rotating);
}

-- what holds of each element holds of the one at a place
pub at-place : {X : Type 0} (P : X → Type 0) (xs : List X) (k : ℕ) (x : X) → All P xs → slice_get xs k ≡ Some x → P x
at-place P [] k x all e = cc
at-place P (y ∷ xs) zero x all e = let same : y ≡ x = cc in subst P same (all 0 x (omega arith))
at-place P (y ∷ xs) (suc k) x all e = at-place P xs k x (λ i d lt. all (suc i) d (omega arith)) e

-- numbers

-- a value has a file
pub has-file : (draft : Draft) (value : ℕ) → IsWellFormed draft → value < length draft.values.items
    → (kind : File) × (slice_get draft.files.items (slice_index (files_of draft) value) ≡ Some kind)
has-file draft value is there = (get_or draft.files.items (slice_index (files_of draft) value) Unallotted, slice_get-get_or draft.files.items (slice_index (files_of draft) value) Unallotted below)
  where
    each : (values : List Value) (k n : ℕ) → k < length values → All (λ (v : Value). v.file < n) values → slice_index (map (λ (v : Value). v.file) values) k < n
    each [] k n lt all = absurd (omega arith)
    each (v ∷ values) zero n lt all = all 0 v (omega arith)
    each (v ∷ values) (suc k) n lt all = each values k n (omega arith) (λ i d h. all (suc i) d (omega arith))

    below : slice_index (files_of draft) value < length draft.files.items
    below = each draft.values.items value (length draft.files.items) there (λ i d h. (is.values i d h).file)

-- of lawful numbers each is right
pub right-number : (s : SolutionData) → IsLawfulSolution s → (value : ℕ) → value < length s.problem.draft.values.items → IsRightNumber s.problem.draft s.numbers value
right-number s is value there =
    let has = has-file s.problem.draft value is.is_problem.is_well_formed there in
    subst (λ (kind : Option File). IsNumberIn kind (slice_index s.numbers value)) (sym has.1) (of-kind has.0 has.1)
  where
    of-kind : (kind : File) → slice_get s.problem.draft.files.items (slice_index (files_of s.problem.draft) value) ≡ Some kind → IsNumberIn (Some kind) (slice_index s.numbers value)
    of-kind (Rotating registers) e =
        let file = slice_index (files_of s.problem.draft) value in
        let long : length s.numbers ≡ length (files_of s.problem.draft) = is.numbers.each ∙ sym (length-files s.problem.draft) in
        let l = length-files s.problem.draft in
        let at = at_place (files_of s.problem.draft) file value s.numbers long (omega arith) refl in
        at-place (λ number. number < registers) (in_file (files_of s.problem.draft) file s.numbers) _ (slice_index s.numbers value) (is.files file registers e).there
        (at ∙ slice_get-get_or s.numbers value 0 (omega arith))
    of-kind Unallotted e = is.numbers.zero value there e

-- homes

homes-length : (f : ℕ × ℕ → Home) (files numbers : List ℕ) → length numbers ≡ length files → length (map f (zip files numbers)) ≡ length files
homes-length f [] numbers long = refl
homes-length f (x ∷ files) [] long = absurd (omega arith)
homes-length f (x ∷ files) (n ∷ numbers) long = ap suc (homes-length f files numbers (omega arith))

home-at : (f : ℕ × ℕ → Home) (files numbers : List ℕ) (v : ℕ) (d : Home) → length numbers ≡ length files → v < length files
    → slice_index_or (map f (zip files numbers)) v d ≡ f (slice_index files v, slice_index numbers v)
home-at f [] numbers v d long lt = absurd (omega arith)
home-at f (x ∷ files) [] v d long lt = absurd (omega arith)
home-at f (x ∷ files) (n ∷ numbers) zero d long lt = refl
home-at f (x ∷ files) (n ∷ numbers) (suc v) d long lt = home-at f files numbers v d (omega arith) (omega arith)

-- a home that rotates is that of a rotating file
record IsRotating (kind : Option File) (file registers number own : ℕ) : Type 0 where
  pub is_kind : kind ≡ Some (Rotating registers)
  pub same_number : own ≡ number

rotates-back : (kind : Option File) (at own file registers number : ℕ) → home_in kind at own ≡ Rotates file registers number → IsRotating kind file registers number own
rotates-back None at own file registers number e = cc
rotates-back (Some Unallotted) at own file registers number e = cc
rotates-back (Some (Rotating r)) at own file registers number e =
    let same : r ≡ registers = cc in
    record { is_kind = ap (λ n. Some (Rotating n)) same; same_number = cc }

are-homes : (s : SolutionData) → IsLawfulSolution s → (v file registers number : ℕ) → slice_get (run_of s).homes v ≡ Some (Rotates file registers number) → number < registers
are-homes s is v file registers number e =
    let files = files_of s.problem.draft in
    let home = λ (p : ℕ × ℕ). home_in (slice_get s.problem.draft.files.items p.0) p.0 p.1 in
    let long : length s.numbers ≡ length files = is.numbers.each ∙ sym (length-files s.problem.draft) in
    let within : v < length (run_of s).homes = slice_get_within (run_of s).homes v (Rotates file registers number) e in
    let there : v < length files = subst (λ n. v < n) (homes-length home files s.numbers long) within in
    let l = length-files s.problem.draft in
    let same : home (slice_index files v, slice_index s.numbers v) ≡ Rotates file registers number
    = sym (home-at home files s.numbers v runs.Unallotted long there) ∙ get_or_from_slice_get (run_of s).homes v (Rotates file registers number) runs.Unallotted e in
    let back = rotates-back (slice_get s.problem.draft.files.items (slice_index files v)) (slice_index files v) (slice_index s.numbers v) file registers number same in
    let right : IsNumberIn (Some (Rotating registers)) (slice_index s.numbers v)
    = subst (λ (k : Option File). IsNumberIn k (slice_index s.numbers v)) back.is_kind (right-number s is v (omega arith)) in
    subst (λ n. n < registers) back.same_number right

-- landings

landing-below : (times : List ℕ) (values : List PlainValue) (n : ℕ) → greatest_of (map (landing_of times) values) ≤ n → All (λ (v : PlainValue). landing_of times v ≤ n) values
landing-below times [] n le k d lt = absurd (omega arith)
landing-below times (v ∷ values) n le zero d lt = omega arith
landing-below times (v ∷ values) n le (suc k) d lt = landing-below times values n (omega arith) k d (omega arith)

-- instances

record AreOne (v w : ℕ) (i j : ℤ) : Type 0 where
  pub value : v ≡ w
  pub iteration : i ≡ j

-- in a file two instances that meet are one
in-file : (s : SolutionData) → IsLawfulSolution s → (v w registers : ℕ) (i j cycle : ℤ) (one other : Lifetime)
    → v < length s.problem.draft.values.items → w < length s.problem.draft.values.items
    → slice_get s.problem.draft.files.items (slice_index (files_of s.problem.draft) v) ≡ Some (Rotating registers)
    → slice_index (files_of s.problem.draft) w ≡ slice_index (files_of s.problem.draft) v
    → slice_get (lives_of_solution s) v ≡ Some one → slice_get (lives_of_solution s) w ≡ Some other
    → physical registers (slice_index s.numbers v) i ≡ physical registers (slice_index s.numbers w) j
    → IsLiveIn s.ii one i cycle → IsLiveIn s.ii other j cycle → AreOne v w i j
in-file s is v w registers i j cycle one other vt wt rotating same is_one is_other meet one_lives other_lives =
    let draft = s.problem.draft in
    let files = files_of draft in
    let file = slice_index files v in
    let lf = length-files draft in
    let long : length s.numbers ≡ length files = is.numbers.each ∙ sym lf in
    let lives_long : length (lives_of_solution s) ≡ length files = length-lives draft (schedule_of s) ∙ sym lf in
    let vp = place files file v in
    let wp = place files file w in
    let vn : slice_index (in_file files file s.numbers) vp ≡ slice_index s.numbers v
    = get_or_from_slice_get (in_file files file s.numbers) vp (slice_index s.numbers v) 0 (at_place files file v s.numbers long (omega arith) refl ∙ slice_get-get_or s.numbers v 0 (omega arith)) in
    let wn : slice_index (in_file files file s.numbers) wp ≡ slice_index s.numbers w
    = get_or_from_slice_get (in_file files file s.numbers) wp (slice_index s.numbers w) 0 (at_place files file w s.numbers long (omega arith) same ∙ slice_get-get_or s.numbers w 0 (omega arith)) in
    let apart = (is.files file registers rotating).apart vp wp i j (record {
      one = one;
      is_one = at_place files file v (lives_of_solution s) lives_long (omega arith) refl ∙ is_one;
      other = other;
      is_other = at_place files file w (lives_of_solution s) lives_long (omega arith) same ∙ is_other;
      same_register = ap (λ n. physical registers n i) vn ∙ meet ∙ ap (λ n. physical registers n j) (sym wn);
      cycle = cycle;
      one_lives = one_lives;
      other_lives = other_lives;
    }) in
    record { value = one_place files file v w (omega arith) (omega arith) refl same apart.0; iteration = apart.1 }

-- what two instances in one place say of their files
record AreInOneFile (kind : Option File) (f g a b : ℕ) (i j : ℤ) : Type 0 where
  pub registers : ℕ
  pub is_kind : kind ≡ Some (Rotating registers)
  pub same_file : g ≡ f
  pub same_register : physical registers a i ≡ physical registers b j

same-place : (one other : Option File) (f g a b v w : ℕ) (i j : ℤ) → (g ≡ f → other ≡ one) → place_in (home_in one f a) v i ≡ place_in (home_in other g b) w j
    → AreInOneFile one f g a b i j ⊎ AreOne v w i j
same-place (Some (Rotating r)) (Some (Rotating q)) f g a b v w i j agree e =
    let file : g ≡ f = cc in
    let both : Some (Rotating q) ≡ Some (Rotating r) = agree file in
    let one : q ≡ r = cc in
    let register : physical r a i ≡ physical q b j = cc in
    inl (record { registers = r; is_kind = refl; same_file = file; same_register = register ∙ ap (λ n. physical n b j) one })
same-place (Some (Rotating r)) None f g a b v w i j agree e = cc
same-place (Some (Rotating r)) (Some Unallotted) f g a b v w i j agree e = cc
same-place None (Some (Rotating q)) f g a b v w i j agree e = cc
same-place (Some Unallotted) (Some (Rotating q)) f g a b v w i j agree e = cc
same-place None None f g a b v w i j agree e = inr (record { value = cc; iteration = cc })
same-place None (Some Unallotted) f g a b v w i j agree e = inr (record { value = cc; iteration = cc })
same-place (Some Unallotted) None f g a b v w i j agree e = inr (record { value = cc; iteration = cc })
same-place (Some Unallotted) (Some Unallotted) f g a b v w i j agree e = inr (record { value = cc; iteration = cc })

is-apart : (s : SolutionData) → IsLawfulSolution s → (v w : ℕ) (i j : ℤ) → DoMeet (run_of s) v i w j → (v ≡ w) × (i ≡ j)
unfolding lives_at
is-apart s is v w i j m =
    let draft = s.problem.draft in
    let files = files_of draft in
    let kinds = draft.files.items in
    let lf = length-files draft in
    let ll = length-lives draft (schedule_of s) in
    let vt : v < length (lives_of_solution s) = slice_get_within (lives_of_solution s) v m.one m.is_one in
    let wt : w < length (lives_of_solution s) = slice_get_within (lives_of_solution s) w m.other m.is_other in
    let long : length s.numbers ≡ length files = is.numbers.each ∙ sym lf in
    let home = λ (p : ℕ × ℕ). home_in (slice_get kinds p.0) p.0 p.1 in
    let vh : home_of (run_of s) v ≡ home (slice_index files v, slice_index s.numbers v) = home-at home files s.numbers v runs.Unallotted long (omega arith) in
    let wh : home_of (run_of s) w ≡ home (slice_index files w, slice_index s.numbers w) = home-at home files s.numbers w runs.Unallotted long (omega arith) in
    let e : place_in (home (slice_index files v, slice_index s.numbers v)) v i ≡ place_in (home (slice_index files w, slice_index s.numbers w)) w j
    = ap (λ (h : Home). place_in h v i) (sym vh) ∙ m.same_place ∙ ap (λ (h : Home). place_in h w j) wh in
    elim (same-place (slice_get kinds (slice_index files v)) (slice_get kinds (slice_index files w)) (slice_index files v) (slice_index files w) (slice_index s.numbers v) (slice_index s.numbers w)
    v w i j (λ same. ap (slice_get kinds) same) e) [
      | inl in_one ↦
          let r = in-file s is v w in_one.registers i j m.cycle m.one m.other (omega arith) (omega arith) in_one.is_kind in_one.same_file m.is_one m.is_other in_one.same_register m.one_lives m.other_lives in
          (r.value, r.iteration)
      | inr one ↦ (one.value, one.iteration)
    ]

pub lawful-is_run : LawfulSolutionsAreRuns
lawful-is_run s is =
    let of : IsOf s.problem (schedule_of s) = record { is_problem = is.is_problem; is_schedule = is.is_schedule; same = refl } in
    let home = λ (p : ℕ × ℕ). home_in (slice_get s.problem.draft.files.items p.0) p.0 p.1 in
    record {
      lists = are-values s.problem (schedule_of s) of;
      in_time = are-in_time s.problem (schedule_of s) of;
      each_home = homes-length home (files_of s.problem.draft) s.numbers (is.numbers.each ∙ sym (length-files s.problem.draft))
          ∙ length-files s.problem.draft ∙ sym (length-map s.problem.draft.values.items _);
      homes = are-homes s is;
      lasts = landing-below s.times (plain_values s.problem.draft) (end_of s) (omega arith);
      apart = is-apart s is;
    }

pub given-is_right : (p : ProblemData) (ii : ℕ) (s : SolutionData) → IsProblem p → Gives p ii s → IsLawfulSolution s × IsRun (run_of s)
given-is_right p ii s is g = let lawful = gives-is_lawful p ii s is g in (lawful, lawful-is_run s lawful)
