-- The greatest copies of the values of unallotted files are the names that these need.
use Rattle.std.proofs.Common.{◌≡◌, ℕ, suc, zero, ◌<◌, ◌≤◌, Bool, true, false, List, [], ◌∷◌, length, map, filter, zip, Option, Some, None, refl, ap, inl, inr, arith}
use Rattle.std.specs.Prelude.{slice_get, slice_index}
use Rattle.std.proofs.lemmas.Bool.{cases_lt, false≢true}
use Rattle.problems.specs.declared.draft.File.{File}
use Rattle.problems.specs.declared.draft.File.TheVariants.{Rotating, Unallotted}
use Rattle.registers.specs.declared.lifetime.Lifetime.{Lifetime}
use Rattle.registers.specs.Values.{greatest_of}
use Rattle.solutions.specs.Copies.{copies_of, is_unallotted, unallotted_in, unroll_of}
use Rattle.solutions.specs.Names.{AreEnough, AreTooFew, LivesUnallotted}
use Rattle.solutions.specs.Promises.{LivesAreInOrder, UnrollIsEnough}
use Rattle.solutions.specs.Solutions.{SolutionData, IsLawfulSolution, files_of, lives_of_solution}
use Rattle.solutions.proofs.Copying.{as-many, span-of, spans-of}
use Rattle.solutions.proofs.Naming.{copies-are_enough}

-- lists: the lifetimes of the values whose file counts

abbrev counted : (ℕ → Bool) → List ℕ → List Lifetime → List Lifetime
counted counts files lives = map (λ (p : ℕ × Lifetime). p.1) (filter (λ (p : ℕ × Lifetime). counts p.0) (zip files lives))

at-most : (counts : ℕ → Bool) (f : Lifetime → ℕ) (files : List ℕ) (lives : List Lifetime) (value : ℕ) (life : Lifetime) → length lives ≡ length files
    → slice_get lives value ≡ Some life → counts (slice_index files value) ≡ true → f life ≤ greatest_of (map f (counted counts files lives))
at-most counts f [] [] value life long at is = cc
at-most counts f [] (l ∷ lives) value life long at is = absurd (omega arith)
at-most counts f (x ∷ files) [] value life long at is = cc
at-most counts f (x ∷ files) (l ∷ lives) zero life long at is = let same : l ≡ life = cc in rw is (let e = ap f same in omega arith)
at-most counts f (x ∷ files) (l ∷ lives) (suc k) life long at is =
    let rest = at-most counts f files lives k life (omega arith) at is in
    elim (counts x) as (λ b. counts x ≡ b → f life ≤ greatest_of (map f (counted counts (x ∷ files) (l ∷ lives)))) [
      | true ↦ λ h. rw h (omega arith)
      | false ↦ λ h. rw h rest
    ] refl

record HasMore (counts : ℕ → Bool) (f : Lifetime → ℕ) (files : List ℕ) (lives : List Lifetime) (n : ℕ) : Type 0 where
  value : ℕ
  life : Lifetime
  is_life : slice_get lives value ≡ Some life
  is_counted : counts (slice_index files value) ≡ true
  more : n < f life

some-more : (counts : ℕ → Bool) (f : Lifetime → ℕ) (files : List ℕ) (lives : List Lifetime) (n : ℕ) → n < greatest_of (map f (counted counts files lives)) → HasMore counts f files lives n
some-more counts f [] lives n lt = absurd (omega arith)
some-more counts f (x ∷ files) [] n lt = absurd (omega arith)
some-more counts f (x ∷ files) (l ∷ lives) n lt = here (some-more counts f files lives n) (counts x) refl
  where
    next : HasMore counts f files lives n → HasMore counts f (x ∷ files) (l ∷ lives) n
    next h = record { value = suc h.value; life = h.life; is_life = h.is_life; is_counted = h.is_counted; more = h.more }

    here : (n < greatest_of (map f (counted counts files lives)) → HasMore counts f files lives n) → (b : Bool) → counts x ≡ b → HasMore counts f (x ∷ files) (l ∷ lives) n
    here rest true h = elim (cases_lt n (f l)) [
      | inl more ↦ record { value = 0; life = l; is_life = refl; is_counted = h; more = more }
      | inr less ↦ next (rest (let g = rw h at lt in omega arith))
    ]
    here rest false h = next (rest (rw h at lt))

-- the values of unallotted files

is-unallotted : (kind : Option File) → is_unallotted kind ≡ true → kind ≡ Some Unallotted
is-unallotted None is = absurd (false≢true is)
is-unallotted (Some (Rotating registers)) is = absurd (false≢true is)
is-unallotted (Some Unallotted) is = refl

abbrev counts_in : SolutionData → ℕ → Bool
counts_in s file = is_unallotted (slice_get s.problem.draft.files.items file)

enough-for : (s : SolutionData) (times value : ℕ) (life : Lifetime) → IsLawfulSolution s → unroll_of s ≤ times → LivesUnallotted s value life → AreEnough s.ii life times
enough-for s times value life is le lives =
    let files = files_of s.problem.draft in
    let each : length (lives_of_solution s) ≡ length files = as-many s files (lives_of_solution s) refl refl in
    let copies : copies_of s.ii life ≤ greatest_of (map (copies_of s.ii) (unallotted_in s.problem.draft.files.items files (lives_of_solution s)))
    = at-most (counts_in s) (copies_of s.ii) files (lives_of_solution s) value life each lives.is_life (ap is_unallotted lives.unallotted) in
    (copies-are_enough s.ii times life is.is_schedule.ii_some (span-of s value life is lives.is_life).ordered).0 (omega arith)

too-few_for : (s : SolutionData) (times : ℕ) → IsLawfulSolution s → 1 ≤ times → times < unroll_of s
    → (value : ℕ) × (life : Lifetime) × LivesUnallotted s value life × AreTooFew s.ii life times
too-few_for s times is some lt =
    let h = some-more (counts_in s) (copies_of s.ii) (files_of s.problem.draft) (lives_of_solution s) times (omega arith) in (
      h.value,
      h.life,
      record { is_life = h.is_life; unallotted = is-unallotted _ h.is_counted },
      (copies-are_enough s.ii times h.life is.is_schedule.ii_some (span-of s h.value h.life is h.is_life).ordered).1 some h.more,
    )

pub lives-are_in_order : LivesAreInOrder
lives-are_in_order s is = (is.is_schedule.ii_some, λ k d lt. (spans-of s is k d lt).ordered)

pub unroll-is_enough : UnrollIsEnough
unroll-is_enough s times is = (omega arith, λ le value life lives. enough-for s times value life is le lives, λ some lt. too-few_for s times is some lt)
