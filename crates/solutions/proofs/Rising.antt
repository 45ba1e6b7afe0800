-- A problem's intervals in turn.
use Rattle.std.proofs.Common.{◌≡◌, ℕ, ◌+◌, ◌≤◌, sym, subst, arith}
use Rattle.settings.specs.Searches.{IsLeastGiven, IsNoneGiven}
use Rattle.settings.proofs.Searches as search
use Rattle.problems.specs.Problems.{ProblemData, IsProblem}
use Rattle.solutions.specs.declared.solving.outcome.Cause.{Cause}
use Rattle.solutions.specs.Outcomes.{FailsBy, Gives, first_of, last_of}
use Rattle.solutions.specs.Solutions.{SolutionData}
use Rattle.solutions.proofs.OneOutcomes.{not-both}

-- the first `above` intervals tried, none of which has a solution; the cause is that of the last
abbrev pub Risen : ProblemData → ℕ → Cause → Type 0
Risen p above last = search.Risen (Gives p) (FailsBy p) (first_of p) above last

pub risen_none : (p : ProblemData) (last : Cause) → Risen p 0 last
risen_none p last = search.risen_none (Gives p) (FailsBy p) (first_of p) last

pub risen_on : (p : ProblemData) (above first : ℕ) (last cause : Cause) → IsProblem p → first ≡ first_of p → Risen p above last → FailsBy p (first + above) cause → Risen p (above + 1) cause
risen_on p above first last cause is same r fails =
    let here : FailsBy p (first_of p + above) cause = subst (λ n. FailsBy p (n + above) cause) same fails in
    search.risen_on (Gives p) (FailsBy p) (first_of p) above last cause r (λ s g. not-both p (first_of p + above) s cause is g here) here

pub met_here : (p : ProblemData) (above first : ℕ) (last : Cause) (s : SolutionData) → Risen p above last → first ≡ first_of p → Gives p (first + above) s → above ≤ p.scheduling.ceiling
    → IsLeastGiven (Gives p) (first_of p) (last_of p) s.ii s
met_here p above first last s r same gives few =
    search.met_here (Gives p) (FailsBy p) (first_of p) p.scheduling.ceiling above s.ii last s r
    (subst (λ n. Gives p n s) (sym gives.same_interval) gives) few (let e = gives.same_interval in omega arith)

pub unmet_here : (p : ProblemData) (above : ℕ) (last : Cause) → Risen p above last → above ≡ p.scheduling.ceiling + 1
    → IsNoneGiven (Gives p) (FailsBy p) (first_of p) (last_of p) last
unmet_here p above last r at = search.unmet_here (Gives p) (FailsBy p) (first_of p) p.scheduling.ceiling above last r at
