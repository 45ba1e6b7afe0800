-- Intervals that are tried one after another.
use Rattle.std.proofs.Common.{◌≡◌, ℕ, ◌+◌, ◌≤◌, Bool, List, ◌++◌, refl, ap, subst, arith}
use Rattle.loop_schedules.specs.Problems.{ProblemData, IsProblem, mii_of}
use Rattle.loop_listings.specs.declared.choices.Choice.TheVariants as choice
use Rattle.loop_listings.specs.declared.causes.Cause.{Cause}
use Rattle.loop_listings.specs.Listings.{is_met}
use Rattle.candidates.proofs.Rising.{Risen, met_here, risen_on, unmet_here}
use Rattle.told_intervals.specs.declared.evidence.Met as evidence
use Rattle.told_intervals.specs.declared.evidence.Reason.{Reason}
use Rattle.told_intervals.specs.declared.evidence.Tried.{Tried}
use Rattle.told_intervals.specs.declared.evidence.Tried.TheVariants.{Met, Failed}
use Rattle.told_intervals.specs.Reasons.{FailsFor, IsMet, IsTried, reason_cause}
use Rattle.told_intervals.proofs.Evidenced.{tried-is_given}
use Rattle.scheduled_graphs.specs.Drawn.{IsDrawnBy}
use Rattle.scheduled_printouts.specs.Graphs.{DrawnData, IsDrawn}
use Rattle.scheduled_printouts.specs.inner.LastTried.{IsLastTried, gives_kernel}

-- an interval after those that give nothing gives a kernel
pub met-of : (p : ProblemData) (above ii : ℕ) (last : Cause) (met : evidence.Met) → Risen p above last → above ≤ p.ceiling → ii ≡ mii_of p + above → IsMet p ii met
    → IsLastTried p (Met met)
met-of p above ii last met r few at is =
    let here : IsMet p (mii_of p + above) met = subst (λ n. IsMet p n met) at is in
    (mii_of p + above, met_here p above (mii_of p) last met.kernel r (tried-is_given p (mii_of p + above) (Met met) here) few refl, here)

-- .. or gives none
pub failed-of : (p : ProblemData) (above ii : ℕ) (last : Cause) (reason : Reason) → IsProblem p → Risen p above last → ii ≡ mii_of p + above → FailsFor p ii reason
    → Risen p (above + 1) (reason_cause reason)
failed-of p above ii last reason is r at fails =
    let here : FailsFor p (mii_of p + above) reason = subst (λ n. FailsFor p n reason) at fails in
    risen_on p above last (reason_cause reason) is r here.fails

-- the last one
pub last-of : (p : ProblemData) (above ii : ℕ) (last : Cause) (tried : Tried) → IsProblem p → Risen p above last → above ≡ p.ceiling → ii ≡ mii_of p + above → IsTried p ii tried
    → IsLastTried p tried
last-of p above ii last (Met met) is r end at t = met-of p above ii last met r (omega arith) at t
last-of p above ii last (Failed reason) is r end at t = unmet_here p (above + 1) (reason_cause reason) (failed-of p above ii last reason is r at t) (ap (λ n. n + 1) end)

-- the graph by what the last interval came to is that of the choice
pub drawn-of : (p : ProblemData) (tried : Tried) (met : Bool) (old new : List ℕ) → IsLastTried p tried → met ≡ gives_kernel tried
    → ((part : List ℕ) × IsDrawnBy p tried part × (new ≡ old ++ part)) → (drawn : DrawnData) × IsDrawn p drawn × (met ≡ is_met drawn.choice) × (new ≡ old ++ drawn.text)
drawn-of p (Met met) m old new is same part =
    (record { choice = choice.Met is.0 met.kernel; text = part.0 }, record { is_choice = is.1; is_graph = (met.schedule, is.2.is_schedule, part.1) }, same, part.2)
drawn-of p (Failed reason) m old new is same part =
    (record { choice = choice.Failed (reason_cause reason); text = part.0 }, record { is_choice = is; is_graph = part.1 }, same, part.2)
