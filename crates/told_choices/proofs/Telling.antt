-- Intervals tried in turn, with why each gives no kernel.
use Rattle.std.proofs.Common.{◌≡◌, ℕ, ◌+◌, ◌-◌, ◌≤◌, List, length, Result, Ok, Err, Vec, Global, sym, ap, ◌∙◌, subst, arith}
use Rattle.std.specs.Prelude.{IfOk}
use Rattle.std.specs.List.{AllZip, range_with_len}
use Rattle.loop_schedules.specs.Problems.{ProblemData, IsProblem, mii_of}
use Rattle.figures.specs.declared.figures.Figures.{Figures}
use Rattle.figures.specs.Figures.{AreFigures}
use Rattle.loop_listings.specs.declared.causes.Cause.{Cause}
use Rattle.candidates.specs.Outcomes.{FailsBy}
use Rattle.candidates.proofs.Rising.{Risen, met_here, risen_none, risen_on, unmet_here}
use Rattle.told_intervals.specs.declared.evidence.Met.{Met}
use Rattle.told_intervals.specs.declared.evidence.Reason.{Reason}
use Rattle.told_intervals.specs.declared.evidence.Tried.TheVariants as tried
use Rattle.told_intervals.specs.Reasons.{FailsFor, IsMet, reason_cause}
use Rattle.told_intervals.proofs.Evidenced.{tried-is_given}
use Rattle.told_choices.specs.declared.chosen.Chosen.{Chosen}
use Rattle.told_choices.specs.declared.chosen.Chosen.TheVariants as chosen
use Rattle.told_choices.specs.declared.failures.Lack.{Lack}
use Rattle.told_choices.specs.declared.why.Why.{Why}
use Rattle.told_choices.specs.Told.{IsTold}
use Rattle.told_choices.specs.Whys.{FailsAs}
use Rattle.told_choices.specs.inner.Choosing.{IsChosenWith}
use Rattle.told_choices.specs.inner.Collected.{AreFailures, AreReasons}

-- the first `above` intervals were tried, none of which gives a kernel, with why it does not; the cause is that of the last
pub record AreTold (p : ProblemData) (above : ℕ) (last : Cause) (whys : List Why) (lack : Lack) : Type 0 where
  pub risen : Risen p above last
  pub are : AreFailures p whys lack
  pub many : length whys ≡ above

pub told-none : (p : ProblemData) (last : Cause) (whys : List Why) (lack : Lack) → AreFailures p whys lack → length whys ≡ 0 → AreTold p 0 last whys lack
told-none p last whys lack are none = record { risen = risen_none p last; are = are; many = none }

pub told-more : (p : ProblemData) (above : ℕ) (last cause : Cause) (reason : Reason) (whys more : List Why) (lack next : Lack) → IsProblem p → AreTold p above last whys lack
    → FailsFor p (mii_of p + above) reason → cause ≡ reason_cause reason → AreFailures p more next → length more ≡ length whys + 1 → AreTold p (above + 1) cause more next
told-more p above last cause reason whys more lack next is t fails by are long = record {
  risen = risen_on p above last cause is t.risen (subst (FailsBy p (mii_of p + above)) (sym by) fails.fails);
  are = are;
  many = long ∙ ap (λ n. n + 1) t.many;
}

pub all-of : (p : ProblemData) (above : ℕ) (last : Cause) (whys list : List Why) (lack : Lack) → AreTold p above last whys lack → AreReasons p (length whys) list → AreReasons p above list
all-of p above last whys list lack t all = subst (λ n. AreReasons p n list) t.many all

pub told-met : (p : ProblemData) (above mii : ℕ) (last : Cause) (reasons : Vec Why Global) (met : Met) (figures : Figures) → mii ≡ mii_of p
    → Risen p above last → AreReasons p above reasons.items → IsMet p (mii + above) met → AreFigures met.schedule figures → above ≤ p.ceiling
    → IsTold p (record { reasons = reasons; chosen = chosen.Met (mii + above) met figures })
told-met p above mii last reasons met figures same risen all is figured few = record {
  is_choice = met_here p above mii last met.kernel risen (tried-is_given p (mii + above) (tried.Met met) is) few same;
  has_evidence = record { is_met = is; are_figures = figured };
  are_reasons = subst (λ n. AllZip (FailsAs p) (range_with_len (mii_of p) n) reasons.items) (count mii (mii_of p) above same) all.each;
  tell_needs = all.tell_needs;
}
  where
    count : (m n above : ℕ) → m ≡ n → above ≡ (m + above) - n
    count m n above same = omega arith

pub told-unmet : (p : ProblemData) (above : ℕ) (last : Cause) (reasons : Vec Why Global) → Risen p above last → AreReasons p above reasons.items → above ≡ p.ceiling + 1
    → IsTold p (record { reasons = reasons; chosen = chosen.Failed last })
told-unmet p above last reasons risen all at = record {
  is_choice = unmet_here p above last risen at;
  has_evidence = unmet_here p above last risen at;
  are_reasons = subst (λ n. AllZip (FailsAs p) (range_with_len (mii_of p) n) reasons.items) at all.each;
  tell_needs = all.tell_needs;
}

pub handed-met : {E : Type 0} (p : ProblemData) (above mii : ℕ) (last : Cause) (whys : List Why) (lack : Lack) (reasons : Vec Why Global) (met : Met) (r : Result Chosen E) → mii ≡ mii_of p
    → AreTold p above last whys lack → IsMet p (mii + above) met → above ≤ p.ceiling
    → IfOk r (λ c. AreReasons p (length whys) reasons.items × IsChosenWith (mii + above) met c) → IfOk r (λ c. IsTold p (record { reasons = reasons; chosen = c }))
handed-met p above mii last whys lack reasons met (Ok c) same t is few has = subst (λ (k : Chosen). IsTold p (record { reasons = reasons; chosen = k })) (sym has.1.1)
    (told-met p above mii last reasons met has.1.0 same t.risen (all-of p above last whys reasons.items lack t has.0) is has.1.2 few)
handed-met p above mii last whys lack reasons met (Err e) same t is few has = has
