-- Where the values of a solution stand, by their files and numbers.
use Rattle.std.proofs.Common.{◌≡◌, ℕ, zero, suc, ◌+◌, ◌%◌, ◌<◌, ◌≤◌, List, [], ◌∷◌, length, get_or, map, zip, false, Option, Some, None, refl, sym, ap, ◌∙◌, subst, arith}
use Rattle.std.specs.Prelude.{slice_get, slice_index}
use Rattle.std.specs.List.{slice_index_or}
use Rattle.std.proofs.lemmas.List.{get_or-map}
use Rattle.std.proofs.lemmas.Option.{get_or_from_slice_get}
use Rattle.instances.specs.Runs.{Home, home_of, value_of}
use Rattle.instances.specs.Runs as runs
use Rattle.problems.specs.declared.draft.File.{File}
use Rattle.problems.specs.declared.draft.File.TheVariants.{Rotating, Unallotted}
use Rattle.problems.specs.declared.draft.Value.{Value}
use Rattle.problems.specs.declared.draft.Draft.{Draft}
use Rattle.problems.specs.Drafts.{IsFile}
use Rattle.registers.specs.declared.lifetime.Lifetime.{Lifetime}
use Rattle.registers.specs.declared.value.Value.{Value as PlainValue}
use Rattle.solutions.specs.Runs.{home_in, run_of}
use Rattle.solutions.specs.Solutions.{SolutionData, IsLawfulSolution, IsNumberIn, files_of, lives_of_solution}
use Rattle.solutions.proofs.Lives.{length-files}
use Rattle.solutions.proofs.Rightness.{at-place, has-file, right-number}
use Rattle.solution_text.specs.Registers.{register_after}
use Rattle.solution_text.specs.Values.{life_of}

home-at : (f : ℕ × ℕ → Home) (files numbers : List ℕ) (v : ℕ) (d : Home) → length numbers ≡ length files → v < length files
    → slice_index_or (map f (zip files numbers)) v d ≡ f (slice_index files v, slice_index numbers v)
home-at f [] numbers v d long lt = absurd (omega arith)
home-at f (x ∷ files) [] v d long lt = absurd (omega arith)
home-at f (x ∷ files) (n ∷ numbers) zero d long lt = refl
home-at f (x ∷ files) (n ∷ numbers) (suc v) d long lt = home-at f files numbers v d (omega arith) (omega arith)

-- the home of a value, by its file and its number
pub home-is : (s : SolutionData) (value : ℕ) → IsLawfulSolution s → value < length s.problem.draft.values.items
    → home_of (run_of s) value ≡ home_in (slice_get s.problem.draft.files.items (slice_index (files_of s.problem.draft) value)) (slice_index (files_of s.problem.draft) value) (slice_index s.numbers value)
home-is s value is there =
    let l = length-files s.problem.draft in
    let each = is.numbers.each in
    home-at (λ (p : ℕ × ℕ). home_in (slice_get s.problem.draft.files.items p.0) p.0 p.1) (files_of s.problem.draft) s.numbers value runs.Unallotted (omega arith) (omega arith)

-- the file of a value
pub file-is : (draft : List Value) (value : ℕ) (v : Value) → value < length draft → v ≡ get_or draft value v → slice_index (map (λ (v : Value). v.file) draft) value ≡ v.file
file-is values value v there e = get_or-map (λ (v : Value). v.file) values value v 0 there ∙ ap (λ (w : Value). w.file) (sym e)

-- the register of a value of a rotating file, and that of another one has none
pub rotating-is : (s : SolutionData) (value file registers above : ℕ) → IsLawfulSolution s → value < length s.problem.draft.values.items
    → slice_index (files_of s.problem.draft) value ≡ file → slice_get s.problem.draft.files.items file ≡ Some (Rotating registers)
    → Some (record { file = file; number = (slice_index s.numbers value + above) % registers }) ≡ register_after (home_of (run_of s) value) above
rotating-is s value file registers above is there e kind =
    let here : slice_get s.problem.draft.files.items (slice_index (files_of s.problem.draft) value) ≡ Some (Rotating registers)
    = ap (slice_get s.problem.draft.files.items) e ∙ kind in
    sym (ap (λ (h : Home). register_after h above) (home-is s value is there ∙ ap (λ (k : Option File). home_in k (slice_index (files_of s.problem.draft) value) (slice_index s.numbers value)) here
    ∙ ap (λ n. home_in (Some (Rotating registers)) n (slice_index s.numbers value)) e))

pub unallotted-is : (s : SolutionData) (value file above : ℕ) → IsLawfulSolution s → value < length s.problem.draft.values.items
    → slice_index (files_of s.problem.draft) value ≡ file → slice_get s.problem.draft.files.items file ≡ Some Unallotted
    → None ≡ register_after (home_of (run_of s) value) above
unallotted-is s value file above is there e kind =
    let here : slice_get s.problem.draft.files.items (slice_index (files_of s.problem.draft) value) ≡ Some Unallotted
    = ap (slice_get s.problem.draft.files.items) e ∙ kind in
    sym (ap (λ (h : Home). register_after h above) (home-is s value is there ∙ ap (λ (k : Option File). home_in k (slice_index (files_of s.problem.draft) value) (slice_index s.numbers value)) here))

-- the number of a value of a rotating file is that of one of its registers
pub number-below : (s : SolutionData) (value file registers : ℕ) → IsLawfulSolution s → value < length s.problem.draft.values.items
    → slice_index (files_of s.problem.draft) value ≡ file → slice_get s.problem.draft.files.items file ≡ Some (Rotating registers) → slice_index s.numbers value < registers
number-below s value file registers is there e kind =
    subst (λ (k : Option File). IsNumberIn k (slice_index s.numbers value)) (ap (slice_get s.problem.draft.files.items) e ∙ kind) (right-number s is value there)

-- when a value lives
pub life-is : (s : SolutionData) (value : ℕ) (life : Lifetime) → slice_get (lives_of_solution s) value ≡ Some life → life_of s value ≡ life
life-is s value life e = get_or_from_slice_get (lives_of_solution s) value life (record { operation = 0; first = 0; last = 0 }) e

-- a value as registers take it
pub value-is : (s : SolutionData) (value : ℕ) (v : Value) → value < length s.problem.draft.values.items → v ≡ get_or s.problem.draft.values.items value v
    → value_of (run_of s) value ≡ record { maker = v.maker; lands = v.lands; out = v.out }
value-is s value v there e =
    let f : Value → PlainValue = λ (w : Value). record { maker = w.maker; lands = w.lands; out = w.out } in
    get_or-map f s.problem.draft.values.items value v (record { maker = 0; lands = 0; out = false }) there ∙ ap f (sym e)

-- of the value at a place: its file, and of which kind that is
pub record IsKindOf (s : SolutionData) (value file : ℕ) (kind : File) : Type 0 where
  pub is_file : slice_index (files_of s.problem.draft) value ≡ file
  pub is_kind : slice_get s.problem.draft.files.items file ≡ Some kind

pub kind-at : (s : SolutionData) (draft : Draft) (value : ℕ) (v : Value) (kind : File) → IsLawfulSolution s → draft ≡ s.problem.draft
    → value < length s.problem.draft.values.items → v ≡ get_or draft.values.items value v → kind ≡ get_or draft.files.items v.file kind → IsKindOf s value v.file kind
kind-at s draft value v kind is same there is_value is_kind =
    let files : List File = s.problem.draft.files.items in
    let filed : slice_index (files_of s.problem.draft) value ≡ v.file
    = file-is s.problem.draft.values.items value v there (subst (λ (e : Draft). v ≡ get_or e.values.items value v) same is_value) in
    let has = has-file s.problem.draft value is.is_problem.is_well_formed there in
    let here : slice_get files v.file ≡ Some has.0 = ap (slice_get files) (sym filed) ∙ has.1 in
    let one : kind ≡ has.0
    = subst (λ (e : Draft). kind ≡ get_or e.files.items v.file kind) same is_kind ∙ get_or_from_slice_get files v.file has.0 kind here in
    record { is_file = filed; is_kind = here ∙ ap (λ (k : File). Some k) (sym one) }

-- a rotating file has at most 256 registers
pub registers-few : (s : SolutionData) (file registers : ℕ) → IsLawfulSolution s → slice_get s.problem.draft.files.items file ≡ Some (Rotating registers) → registers ≤ 256
registers-few s file registers is kind =
    let size : IsFile (Rotating registers) = at-place IsFile s.problem.draft.files.items file (Rotating registers) is.is_problem.is_well_formed.files kind in
    size.1
