-- A problem has one outcome.
use Rattle.std.proofs.Common.{◌≡◌, ℕ, suc, zero, ◌<◌, List, [], ◌∷◌, ◌++◌, length, take, Some, refl, sym, ap, ◌∙◌, subst, inl, inr, arith}
use Rattle.std.specs.Prelude.{slice_get, slice_index}
use Rattle.std.proofs.lemmas.Bool.{cases_order}
use Rattle.modulo.specs.declared.outcome.attempts.Failure.TheVariants as failure
use Rattle.modulo.specs.declared.outcome.attempts.Try.{Try}
use Rattle.modulo.specs.declared.outcome.attempts.Try.TheVariants as try
use Rattle.modulo.specs.Attempts.{AnswersAttempt}
use Rattle.schedules.specs.Problems.{budget_of}
use Rattle.schedules.specs.Schedules.{ScheduleData}
use Rattle.modulo.proofs.answers.OneAnswers.{one-answer}
use Rattle.problems.specs.declared.draft.Draft.{Draft}
use Rattle.problems.specs.declared.draft.File.{File}
use Rattle.problems.specs.declared.draft.File.TheVariants.{Rotating, Unallotted}
use Rattle.problems.specs.Drafts.{IsWellFormed}
use Rattle.problems.specs.Problems.{ProblemData, IsProblem}
use Rattle.registers.specs.declared.lifetime.Lifetime.{Lifetime}
use Rattle.registers.specs.Allotments.{AreLeast, IsLawfulAllotment}
use Rattle.registers.specs.Numberless.{HasNoneAt}
use Rattle.registers.proofs.allotted.Filled.{none-of}
use Rattle.registers.proofs.allotted.Least.{least-is_one, least-or_none, take-twice}
use Rattle.settings.proofs.Searches as search
use Rattle.solutions.specs.declared.solving.outcome.Cause.{Cause}
use Rattle.solutions.specs.declared.solving.outcome.Cause.TheVariants.{Table, Budget, Stages, Registers}
use Rattle.solutions.specs.declared.solving.outcome.Outcome.TheVariants.{Met, Failed}
use Rattle.solutions.specs.Files.{in_file, place_in}
use Rattle.solutions.specs.Outcomes.{FailsBy, Gives, IsPlacedAs, LacksRegister, first_of, last_of}
use Rattle.solutions.specs.Promises.{OneOutcome}
use Rattle.solutions.specs.Solutions.{SolutionData, AreNumbers, HasLeastNumbers, files_of, lives_at, schedule_of}
use Rattle.solutions.proofs.Filing.{at_place, one_place}
use Rattle.solutions.proofs.Lives.{length-files}
use Rattle.solutions.proofs.Rightness.{has-file}

-- schedules

same-schedule : (p : ProblemData) (ii : ℕ) (s t : ScheduleData) → IsProblem p → IsPlacedAs p ii s → IsPlacedAs p ii t → s ≡ t
same-schedule p ii s t is a b =
    let e = one-answer p.scheduling ii (budget_of p.scheduling) (try.Placed s) (try.Placed t) is.is_scheduling.is_problem a b in
    cc

-- numbers

same-list : (xs ys : List ℕ) → length xs ≡ length ys → ((k : ℕ) → k < length xs → slice_index xs k ≡ slice_index ys k) → xs ≡ ys
same-list [] [] long each = refl
same-list [] (y ∷ ys) long each = absurd (omega arith)
same-list (x ∷ xs) [] long each = absurd (omega arith)
same-list (x ∷ xs) (y ∷ ys) long each =
    ap (λ z. z ∷ xs) (each 0 (omega arith)) ∙ ap (λ zs. y ∷ zs) (same-list xs ys (omega arith) (λ k lt. each (suc k) (omega arith)))

same-index : (xs ys : List ℕ) (k : ℕ) → slice_get xs k ≡ slice_get ys k → slice_index xs k ≡ slice_index ys k
same-index [] [] k e = refl
same-index [] (y ∷ ys) zero e = cc
same-index [] (y ∷ ys) (suc k) e = same-index [] ys k e
same-index (x ∷ xs) [] zero e = cc
same-index (x ∷ xs) [] (suc k) e = same-index xs [] k e
same-index (x ∷ xs) (y ∷ ys) zero e = cc
same-index (x ∷ xs) (y ∷ ys) (suc k) e = same-index xs ys k e

-- the least numbers of the values of a draft, at a schedule
record AreLeastFor (draft : Draft) (schedule : ScheduleData) (numbers : List ℕ) : Type 0 where
  pub numbers_are : AreNumbers draft numbers
  pub files : (file registers : ℕ) → slice_get draft.files.items file ≡ Some (Rotating registers)
      → AreLeast schedule.ii registers (in_file (files_of draft) file (lives_at draft schedule)) (in_file (files_of draft) file numbers)

least-for : (s : SolutionData) → HasLeastNumbers s → AreLeastFor s.problem.draft (schedule_of s) s.numbers
least-for s h = record { numbers_are = h.numbers; files = h.files }

same-numbers : (draft : Draft) (schedule : ScheduleData) (ns ms : List ℕ) → IsWellFormed draft → AreLeastFor draft schedule ns → AreLeastFor draft schedule ms → ns ≡ ms
same-numbers draft schedule ns ms is a b = same-list ns ms (a.numbers_are.each ∙ sym b.numbers_are.each) each
  where
    lf : length (files_of draft) ≡ length draft.values.items
    lf = length-files draft

    of-kind : (k : ℕ) (kind : File) → k < length draft.values.items → slice_get draft.files.items (slice_index (files_of draft) k) ≡ Some kind → slice_index ns k ≡ slice_index ms k
    of-kind k (Rotating registers) there e =
        let files = files_of draft in
        let l = length-files draft in
        let file = slice_index files k in
        let lives = in_file files file (lives_at draft schedule) in
        let one : in_file files file ns ≡ in_file files file ms
        = least-is_one schedule.ii registers lives (in_file files file ns) (in_file files file ms) (a.files file registers e) (b.files file registers e) in
        let at : slice_get ns k ≡ slice_get ms k
        = sym (at_place files file k ns (a.numbers_are.each ∙ sym lf) (omega arith) refl) ∙ ap (λ xs. slice_get xs (place_in files file k)) one
        ∙ at_place files file k ms (b.numbers_are.each ∙ sym lf) (omega arith) refl in
        same-index ns ms k at
    of-kind k Unallotted there e = a.numbers_are.zero k there e ∙ sym (b.numbers_are.zero k there e)

    each : (k : ℕ) → k < length ns → slice_index ns k ≡ slice_index ms k
    each k lt =
        let l = a.numbers_are.each in
        let has = has-file draft k is (omega arith) in
        of-kind k has.0 (omega arith) has.1

-- an interval gives one solution

pub one-given : (p : ProblemData) (ii : ℕ) (s t : SolutionData) → IsProblem p → Gives p ii s → Gives p ii t → s ≡ t
one-given p ii s t is a b = λ i. record {
  problem = (a.same_problem ∙ sym b.same_problem) i;
  ii = (ap (λ (x : ScheduleData). x.ii) scheduled) i;
  times = (ap (λ (x : ScheduleData). x.times) scheduled) i;
  choices = (ap (λ (x : ScheduleData). x.choices) scheduled) i;
  numbers = numbered i;
}
  where
    scheduled : schedule_of s ≡ schedule_of t
    scheduled = same-schedule p ii (schedule_of s) (schedule_of t) is a.is_placed b.is_placed

    mine : AreLeastFor p.draft (schedule_of t) s.numbers
    mine = subst (λ (x : ScheduleData). AreLeastFor p.draft x s.numbers) scheduled
        (subst (λ (q : ProblemData). AreLeastFor q.draft (schedule_of s) s.numbers) a.same_problem (least-for s a.least))

    yours : AreLeastFor p.draft (schedule_of t) t.numbers
    yours = subst (λ (q : ProblemData). AreLeastFor q.draft (schedule_of t) t.numbers) b.same_problem (least-for t b.least)

    numbered : s.numbers ≡ t.numbers
    numbered = same-numbers p.draft (schedule_of t) s.numbers t.numbers is.is_well_formed mine yours

-- a solution leaves no cause

pub not-both : (p : ProblemData) (ii : ℕ) (s : SolutionData) (cause : Cause) → IsProblem p → Gives p ii s → FailsBy p ii cause → ⊥
not-both p ii s Table is a f = let e = one-answer p.scheduling ii (budget_of p.scheduling) (try.Placed (schedule_of s)) (try.Failed failure.Table) is.is_scheduling.is_problem a.is_placed f in cc
not-both p ii s Budget is a f = let e = one-answer p.scheduling ii (budget_of p.scheduling) (try.Placed (schedule_of s)) (try.Failed failure.Budget) is.is_scheduling.is_problem a.is_placed f in cc
not-both p ii s Stages is a f = let e = one-answer p.scheduling ii (budget_of p.scheduling) (try.Placed (schedule_of s)) (try.Failed failure.Stages) is.is_scheduling.is_problem a.is_placed f in cc
not-both p ii s (Registers file value) is a f = lacks
  where
    scheduled : schedule_of s ≡ f.schedule
    scheduled = same-schedule p ii (schedule_of s) f.schedule is a.is_placed f.is_placed

    mine : AreLeastFor p.draft f.schedule s.numbers
    mine = subst (λ (x : ScheduleData). AreLeastFor p.draft x s.numbers) scheduled
        (subst (λ (q : ProblemData). AreLeastFor q.draft (schedule_of s) s.numbers) a.same_problem (least-for s a.least))

    lacks : ⊥
    lacks =
        let h = f.has_none in
        let lives = in_file (files_of p.draft) file (lives_at p.draft f.schedule) in
        least-or_none f.schedule.ii h.registers lives (in_file (files_of p.draft) file s.numbers) (mine.files file h.registers h.is_rotating)
        (none-of f.schedule.ii h.registers lives h.numbers (place_in (files_of p.draft) file value) h.has_none)

-- causes

get-taken : {X : Type 0} (xs : List X) (n k : ℕ) (x : X) → k < n → slice_get xs k ≡ Some x → slice_get (take n xs) k ≡ Some x
get-taken [] n k x lt e = cc
get-taken (y ∷ xs) zero k x lt e = absurd (omega arith)
get-taken (y ∷ xs) (suc n) zero x lt e = e
get-taken (y ∷ xs) (suc n) (suc k) x lt e = get-taken xs n k x (omega arith) e

-- no place before another one has none too
no-sooner : (ii registers : ℕ) (lives : List Lifetime) (ns ms : List ℕ) (k n : ℕ) → HasNoneAt ii registers lives ns k → HasNoneAt ii registers lives ms n → k < n → ⊥
no-sooner ii registers lives ns ms k n a b lt =
    least-or_none ii registers (take n lives) (take n ms) b.least_before (record {
      place = k;
      life = a.life;
      is_life = get-taken lives n k a.life lt a.is_life;
      numbers = take k ns;
      least_before = subst (λ ls. AreLeast ii registers ls (take k ns)) (sym (take-twice lives k n (omega arith))) a.least_before;
      none = λ number. subst (λ (ls : List Lifetime). ¬ IsLawfulAllotment ii registers (ls ++ a.life ∷ []) (take k ns ++ number ∷ [])) (sym (take-twice lives k n (omega arith))) (a.none number);
    })

no-file-sooner : (p : ProblemData) (ii f v g w : ℕ) → IsProblem p → LacksRegister p ii f v → LacksRegister p ii g w → f < g → ⊥
no-file-sooner p ii f v g w is a b lt =
    let h = a.has_none in
    let scheduled = same-schedule p ii b.schedule a.schedule is b.is_placed a.is_placed in
    let lives = in_file (files_of p.draft) f (lives_at p.draft a.schedule) in
    let before = b.before f h.registers lt h.is_rotating in
    let least : AreLeast a.schedule.ii h.registers lives before.0
    = subst (λ (x : ScheduleData). AreLeast x.ii h.registers (in_file (files_of p.draft) f (lives_at p.draft x)) before.0) scheduled before.1 in
    least-or_none a.schedule.ii h.registers lives before.0 least (none-of a.schedule.ii h.registers lives h.numbers (place_in (files_of p.draft) f v) h.has_none)

same-value : (p : ProblemData) (ii f v w : ℕ) → IsProblem p → LacksRegister p ii f v → LacksRegister p ii f w → v ≡ w
same-value p ii f v w is a b =
    let h = a.has_none in
    let k = b.has_none in
    let files = files_of p.draft in
    let l = length-files p.draft in
    let scheduled = same-schedule p ii b.schedule a.schedule is b.is_placed a.is_placed in
    let both : Some (Rotating k.registers) ≡ Some (Rotating h.registers) = sym k.is_rotating ∙ h.is_rotating in
    let one : k.registers ≡ h.registers = cc in
    let lives = in_file files f (lives_at p.draft a.schedule) in
    let mine : HasNoneAt a.schedule.ii h.registers lives h.numbers (place_in files f v) = h.has_none in
    let yours : HasNoneAt a.schedule.ii h.registers lives k.numbers (place_in files f w)
    = subst (λ r. HasNoneAt a.schedule.ii r lives k.numbers (place_in files f w)) one
    (subst (λ (x : ScheduleData). HasNoneAt x.ii k.registers (in_file files f (lives_at p.draft x)) k.numbers (place_in files f w)) scheduled k.has_none) in
    let there = h.there in
    let other = k.there in
    let same : place_in files f v ≡ place_in files f w = elim (cases_order (place_in files f v) (place_in files f w)) [
      | inl e ↦ e
      | inr o ↦ elim o [
        | inl lt ↦ absurd (no-sooner a.schedule.ii h.registers lives h.numbers k.numbers (place_in files f v) (place_in files f w) mine yours lt)
        | inr gt ↦ absurd (no-sooner a.schedule.ii h.registers lives k.numbers h.numbers (place_in files f w) (place_in files f v) yours mine gt)
      ]
    ] in
    one_place files f v w (omega arith) (omega arith) h.is_file k.is_file same

one-register : (p : ProblemData) (ii f v g w : ℕ) → IsProblem p → LacksRegister p ii f v → LacksRegister p ii g w → Registers f v ≡ Registers g w
one-register p ii f v g w is a b = elim (cases_order f g) [
  | inl same ↦
      let value : v ≡ w = same-value p ii f v w is a (subst (λ n. LacksRegister p ii n w) (sym same) b) in
      ap (λ n. Registers n v) same ∙ ap (λ n. Registers g n) value
  | inr o ↦ elim o [
    | inl lt ↦ absurd (no-file-sooner p ii f v g w is a b lt)
    | inr gt ↦ absurd (no-file-sooner p ii g w f v is b a gt)
  ]
]

answers : (p : ProblemData) (ii : ℕ) (one other : Try) → IsProblem p → AnswersAttempt p.scheduling ii (budget_of p.scheduling) one → AnswersAttempt p.scheduling ii (budget_of p.scheduling) other → one ≡ other
answers p ii one other is a b = one-answer p.scheduling ii (budget_of p.scheduling) one other is.is_scheduling.is_problem a b

one-cause : (p : ProblemData) (ii : ℕ) (c d : Cause) → IsProblem p → FailsBy p ii c → FailsBy p ii d → c ≡ d
one-cause p ii Table Table is a b = refl
one-cause p ii Table Budget is a b = let e = answers p ii (try.Failed failure.Table) (try.Failed failure.Budget) is a b in cc
one-cause p ii Table Stages is a b = let e = answers p ii (try.Failed failure.Table) (try.Failed failure.Stages) is a b in cc
one-cause p ii Table (Registers f v) is a b = let e = answers p ii (try.Failed failure.Table) (try.Placed b.schedule) is a b.is_placed in cc
one-cause p ii Budget Table is a b = let e = answers p ii (try.Failed failure.Budget) (try.Failed failure.Table) is a b in cc
one-cause p ii Budget Budget is a b = refl
one-cause p ii Budget Stages is a b = let e = answers p ii (try.Failed failure.Budget) (try.Failed failure.Stages) is a b in cc
one-cause p ii Budget (Registers f v) is a b = let e = answers p ii (try.Failed failure.Budget) (try.Placed b.schedule) is a b.is_placed in cc
one-cause p ii Stages Table is a b = let e = answers p ii (try.Failed failure.Stages) (try.Failed failure.Table) is a b in cc
one-cause p ii Stages Budget is a b = let e = answers p ii (try.Failed failure.Stages) (try.Failed failure.Budget) is a b in cc
one-cause p ii Stages Stages is a b = refl
one-cause p ii Stages (Registers f v) is a b = let e = answers p ii (try.Failed failure.Stages) (try.Placed b.schedule) is a b.is_placed in cc
one-cause p ii (Registers f v) Table is a b = let e = answers p ii (try.Placed a.schedule) (try.Failed failure.Table) is a.is_placed b in cc
one-cause p ii (Registers f v) Budget is a b = let e = answers p ii (try.Placed a.schedule) (try.Failed failure.Budget) is a.is_placed b in cc
one-cause p ii (Registers f v) Stages is a b = let e = answers p ii (try.Placed a.schedule) (try.Failed failure.Stages) is a.is_placed b in cc
one-cause p ii (Registers f v) (Registers g w) is a b = one-register p ii f v g w is a b

-- all intervals

pub one-outcome : OneOutcome
one-outcome p (Met s) (Met t) is a b =
    search.one_least (Gives p) (λ ii (x : SolutionData). Met x) (first_of p) (last_of p) s.ii t.ii s t (λ ii x y from g h. one-given p ii x y is g h) a b
one-outcome p (Met s) (Failed c) is a b = absurd (search.not_both (Gives p) (FailsBy p) (first_of p) (last_of p) s.ii s c a b)
one-outcome p (Failed c) (Met s) is a b = absurd (search.not_both (Gives p) (FailsBy p) (first_of p) (last_of p) s.ii s c b a)
one-outcome p (Failed c) (Failed d) is a b = ap Failed (one-cause p (last_of p) c d is a.fails b.fails)
