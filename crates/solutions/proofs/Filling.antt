-- Numbers that are written file by file.
use Rattle.std.proofs.Common.{◌≡◌, ◌≢◌, ◌⊎◌, ℕ, ◌+◌, ◌<◌, ◌≤◌, Bool, true, false, List, [], ◌∷◌, ◌++◌, length, take, get_or, Some, None, refl, sym, ap, ◌∙◌, subst, inl, inr, arith}
use Rattle.std.specs.Prelude.{◌==◌, count_by, slice_get, slice_index, Option, MatchOption, Result, Ok, Err, IfOk}
use Rattle.std.specs.List.{All}
use Rattle.std.proofs.lemmas.Bool.{cases_eq}
use Rattle.std.proofs.lemmas.List.{length-take, take_all}
use Rattle.std.proofs.lemmas.Option.{slice_get-get_or}
use Rattle.problems.specs.declared.draft.File.{File}
use Rattle.problems.specs.declared.draft.File.TheVariants.{Rotating, Unallotted}
use Rattle.registers.specs.declared.lifetime.Lifetime.{Lifetime}
use Rattle.registers.specs.Allotments.{AreLeast, HaveNone, IsLawfulAllotment}
use Rattle.registers.specs.Numberless.{HasNoneAt}
use Rattle.registers.proofs.allotted.Least.{place-within}
use Rattle.solutions.specs.Files.{in_file}
use Rattle.solutions.specs.inner.Filling.{AreFilled, IsFilled, IsFound, Lacks, LacksFirst}
use Rattle.solutions.proofs.Filing.{same_in_file, length-in_file, all_in_file, all_before, value-at}

-- the numbers of the first `end` files are the least ones
abbrev pub FilledBelow : ℕ → List File → List ℕ → List Lifetime → List ℕ → ℕ → Type 0
FilledBelow ii kinds files lives numbers end = (file : ℕ) (kind : File) → file < end → slice_get kinds file ≡ Some kind → IsFilled ii files lives numbers file kind

abbrev pub Zeros : List File → List ℕ → List ℕ → Type 0
Zeros kinds files numbers = (value : ℕ) → slice_get kinds (slice_index files value) ≡ Some Unallotted → slice_index numbers value ≡ 0

filled-same : (ii : ℕ) (files : List ℕ) (lives : List Lifetime) (numbers others : List ℕ) (file : ℕ) (kind : File) → in_file files file numbers ≡ in_file files file others
    → IsFilled ii files lives numbers file kind → IsFilled ii files lives others file kind
filled-same ii files lives numbers others file (Rotating registers) same is = subst (AreLeast ii registers (in_file files file lives)) same is
filled-same ii files lives numbers others file Unallotted same is = tt

-- one file more
pub filled-more : (ii : ℕ) (kinds : List File) (files : List ℕ) (lives : List Lifetime) (old new : List ℕ) (file : ℕ) (kind : File) → length old ≡ length files → length new ≡ length files
    → slice_get kinds file ≡ Some kind → ((value : ℕ) → slice_index files value ≢ file → slice_index new value ≡ slice_index old value)
    → IsFilled ii files lives new file kind → FilledBelow ii kinds files lives old file → FilledBelow ii kinds files lives new (file + 1)
filled-more ii kinds files lives old new file kind old_long new_long is others here before f other lt there = choose (cases_eq f file)
  where
    choose : (f ≡ file) ⊎ (f ≡ file → ⊥) → IsFilled ii files lives new f other
    choose (inl same) =
        let both : Some kind ≡ Some other = sym is ∙ ap (slice_get kinds) (sym same) ∙ there in
        let one : kind ≡ other = cc in
        subst (λ (k : File). IsFilled ii files lives new f k) one (subst (λ n. IsFilled ii files lives new n kind) (sym same) here)
    choose (inr apart) =
        filled-same ii files lives old new f other
        (same_in_file files f old new old_long new_long (λ k in_f. sym (others k (λ in_file. apart (sym in_f ∙ in_file)))))
        (before f other (omega arith) there)

pub zeros-more : (kinds : List File) (files old new : List ℕ) (file : ℕ) (kind : File) → slice_get kinds file ≡ Some kind
    → ((value : ℕ) → slice_index files value ≢ file → slice_index new value ≡ slice_index old value) → (kind ≡ Unallotted → new ≡ old)
    → Zeros kinds files old → Zeros kinds files new
zeros-more kinds files old new file kind is others same before value there = choose (cases_eq (slice_index files value) file)
  where
    choose : (slice_index files value ≡ file) ⊎ (slice_index files value ≡ file → ⊥) → slice_index new value ≡ 0
    choose (inl at) =
        let both : Some kind ≡ Some Unallotted = sym is ∙ ap (slice_get kinds) (sym at) ∙ there in
        let one : kind ≡ Unallotted = cc in
        ap (λ ns. slice_index ns value) (same one) ∙ before value there
    choose (inr apart) = others value apart ∙ before value there

pub are-filled : (ii : ℕ) (kinds : List File) (files : List ℕ) (lives : List Lifetime) (numbers : List ℕ) (end : ℕ) → length kinds ≤ end
    → FilledBelow ii kinds files lives numbers end → Zeros kinds files numbers → AreFilled ii kinds files lives numbers
are-filled ii kinds files lives numbers end all filled zeros = record {
  filled = λ file kind there. filled file kind (let l = place-within kinds kind file there in omega arith) there;
  zero = zeros;
}

pub lacks-first : (ii : ℕ) (kinds : List File) (files : List ℕ) (lives : List Lifetime) (numbers : List ℕ) (file value : ℕ) (kind : File) → slice_get kinds file ≡ Some kind
    → FilledBelow ii kinds files lives numbers file → Lacks ii files lives file value kind → LacksFirst ii kinds files lives file value
lacks-first ii kinds files lives numbers file value kind is filled lacks =
    record { kind = kind; is_kind = is; lacks = lacks; before = λ sooner other lt there. (numbers, filled sooner other lt there) }

-- the place of a value that has no number is that of one of the file's values
pub place-there : (ii registers : ℕ) (files : List ℕ) (file place : ℕ) (lives : List Lifetime) (numbers : List ℕ) → length lives ≡ length files
    → HasNoneAt ii registers (in_file files file lives) numbers place → place < count_by (λ other. other == file) files
place-there ii registers files file place lives numbers long none =
    let l = place-within (in_file files file lives) none.life place none.is_life in
    let c = length-in_file files file lives long in
    omega arith

-- where all values are of the file
pub filled-all : {E : Type 0} (ii registers : ℕ) (files : List ℕ) (lives : List Lifetime) (numbers : List ℕ) (file : ℕ) (result : Result (Option ℕ) E)
    → length lives ≡ length files → length numbers ≡ length files → All (λ other. other ≡ file) files
    → IfOk result (λ found. MatchOption found (AreLeast ii registers lives numbers) (HasNoneAt ii registers lives numbers))
    → IfOk result (λ found. MatchOption found (IsFilled ii files lives numbers file (Rotating registers)) (λ value. Lacks ii files lives file value (Rotating registers)))
filled-all ii registers files lives numbers file (Ok None) each_life each all least =
    subst (λ (ls : List Lifetime). AreLeast ii registers ls (in_file files file numbers)) (sym (all_in_file files file lives each_life all))
    (subst (AreLeast ii registers lives) (sym (all_in_file files file numbers each all)) least)
filled-all ii registers files lives numbers file (Ok (Some value)) each_life each all none =
    let within : value < length lives = place-within lives none.life value none.is_life in
    let there : value < length files = omega arith in
    record {
      there = there;
      is_file = all value 0 there;
      numbers = numbers;
      has_none = subst (HasNoneAt ii registers (in_file files file lives) numbers) (sym (all_before files file value (omega arith) all))
          (subst (λ (ls : List Lifetime). HasNoneAt ii registers ls numbers value) (sym (all_in_file files file lives each_life all)) none);
    }
filled-all ii registers files lives numbers file (Err error) each_life each all h = tt

-- where it is not told which value has no number

-- the value of a file that has none
pub left-out : (ii registers : ℕ) (files : List ℕ) (lives : List Lifetime) (file : ℕ) → length lives ≡ length files → HaveNone ii registers (in_file files file lives)
    → (value : ℕ) × Lacks ii files lives file value (Rotating registers)
left-out ii registers files lives file long none =
    let within : none.place < length (in_file files file lives) = place-within (in_file files file lives) none.life none.place none.is_life in
    let counted = length-in_file files file lives long in
    let at = value-at files file none.place (omega arith) in
    let each : length none.numbers ≤ none.place = (let e = none.least_before.each in let l = length-take none.place (in_file files file lives) in omega arith) in
    let all : none.numbers ≡ take none.place none.numbers = sym (take_all none.place none.numbers each) in
    let here : HasNoneAt ii registers (in_file files file lives) none.numbers none.place = record {
      life = none.life;
      is_life = none.is_life;
      least_before = subst (AreLeast ii registers (take none.place (in_file files file lives))) all none.least_before;
      none = λ number h. none.none number
          (subst (λ ns. IsLawfulAllotment ii registers (take none.place (in_file files file lives) ++ none.life ∷ []) (ns ++ number ∷ [])) (sym all) h);
    } in (
      at.value,
      record {
        there = at.there;
        is_file = at.is_file;
        numbers = none.numbers;
        has_none = subst (HasNoneAt ii registers (in_file files file lives) none.numbers) (sym at.is_place) here;
      },
    )

-- where all values are of the file
pub found-all : {E : Type 0} (ii registers : ℕ) (files : List ℕ) (lives : List Lifetime) (numbers : List ℕ) (file : ℕ) (result : Result Bool E)
    → length lives ≡ length files → length numbers ≡ length files → All (λ other. other ≡ file) files
    → (result ≡ Ok true → AreLeast ii registers lives numbers) → (result ≡ Ok false → HaveNone ii registers lives)
    → IfOk result (IsFound ii files lives numbers file (Rotating registers))
found-all ii registers files lives numbers file (Ok true) each_life each all least none =
    subst (λ (ls : List Lifetime). AreLeast ii registers ls (in_file files file numbers)) (sym (all_in_file files file lives each_life all))
    (subst (AreLeast ii registers lives) (sym (all_in_file files file numbers each all)) (least refl))
found-all ii registers files lives numbers file (Ok false) each_life each all least none =
    left-out ii registers files lives file each_life (subst (HaveNone ii registers) (sym (all_in_file files file lives each_life all)) (none refl))
found-all ii registers files lives numbers file (Err error) each_life each all least none = tt

pub lacks-some : (ii : ℕ) (kinds : List File) (files : List ℕ) (lives : List Lifetime) (numbers : List ℕ) (file : ℕ) (kind : File) → slice_get kinds file ≡ Some kind
    → FilledBelow ii kinds files lives numbers file → ((value : ℕ) × Lacks ii files lives file value kind)
    → (f : ℕ) × (value : ℕ) × LacksFirst ii kinds files lives f value
lacks-some ii kinds files lives numbers file kind is filled lacks = (file, lacks.0, lacks-first ii kinds files lives numbers file lacks.0 kind is filled lacks.1)

-- one file more, by what is written for it
pub record IsMore (ii : ℕ) (kinds : List File) (files : List ℕ) (lives : List Lifetime) (numbers : List ℕ) (end : ℕ) : Type 0 where
  pub filled : FilledBelow ii kinds files lives numbers end
  pub zeros : Zeros kinds files numbers

pub file-more : (ii : ℕ) (kinds : List File) (files : List ℕ) (lives : List Lifetime) (old new : List ℕ) (file : ℕ) (d : File) → (get_or kinds file d ≡ Unallotted → new ≡ old)
    → length old ≡ length files → length new ≡ length files → file < length kinds
    → ((value : ℕ) → slice_index files value ≢ file → slice_index new value ≡ slice_index old value)
    → IsFilled ii files lives new file (get_or kinds file d) → FilledBelow ii kinds files lives old file → Zeros kinds files old
    → IsMore ii kinds files lives new (file + 1)
file-more ii kinds files lives old new file d same old_long new_long lt others here filled zeros =
    let is = slice_get-get_or kinds file d lt in
    record {
      filled = filled-more ii kinds files lives old new file (get_or kinds file d) old_long new_long is others here filled;
      zeros = zeros-more kinds files old new file (get_or kinds file d) is others same zeros;
    }
