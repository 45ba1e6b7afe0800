-- The intervals that were tried, with why they give no kernel.
use Rattle.std.proofs.Common.{◌≡◌, ℕ, ◌+◌, ◌-◌, ◌≤◌, Bool, List, ◌++◌, get_or, sym, ap, ◌∙◌, subst}
use Rattle.std.specs.List.{All, AllZip, range_with_len}
use Rattle.std.proofs.lemmas.Option.{slice_get-get_or}
use Rattle.loop_schedules.specs.Problems.{ProblemData, mii_of}
use Rattle.loop_listings.specs.declared.choices.Choice.{Choice}
use Rattle.loop_listings.specs.declared.choices.Choice.TheVariants.{Met}
use Rattle.told_choices.specs.declared.why.Why.{Why}
use Rattle.candidates.specs.Choices.{IsChoice}
use Rattle.told_choices.specs.Whys.{FailsAs, IsWhy}
use Rattle.kernel.specs.declared.kernels.parts.Parts.{Parts}
use Rattle.told_choices.specs.declared.hold.Hold.{Hold}
use Rattle.told_choices.specs.Holds.{IsHold}
use Rattle.told_choices.specs.Least.{is_least_possible}
use Rattle.told_choices.specs.Told.{failures_of}
use Rattle.told_choices.proofs.Held.{reason-at}
use Rattle.reason_lines.specs.Least.{least_line}
use Rattle.explain.specs.Tries.{IsEnd, hold_line, kernel_line}

-- each reason is that of some interval
pub reasons-of : (p : ProblemData) (n : ℕ) (reasons : List Why) → AllZip (FailsAs p) (range_with_len (mii_of p) n) reasons
    → All (λ (reason : Why). (ii : ℕ) × IsWhy p ii reason) reasons
reasons-of p n reasons are = λ k d within. (
  mii_of p + k,
  (reason-at p n k reasons (get_or reasons k d) are (slice_get-get_or reasons k d within)).is,
)

-- the end of a choice that has a kernel
pub met-end : (p : ProblemData) (need : ℕ) (free : Bool) (choice : Choice) (ii : ℕ) (kernel parts : Parts) (reasons : List Why) (hold : Hold) (text : List ℕ)
    → choice ≡ Met ii kernel → parts ≡ kernel → IsChoice p choice → AllZip (FailsAs p) (range_with_len (mii_of p) (failures_of p choice)) reasons
    → ((n : ℕ) → mii_of p ≤ n → AllZip (FailsAs p) (range_with_len (mii_of p) (n - mii_of p)) reasons → IsHold p free n hold)
    → text ≡ (kernel_line ii parts.stages ++ hold_line hold) ++ least_line (is_least_possible p need ii) → IsEnd p need free choice text
met-end p need free choice ii kernel parts reasons hold text same kernel_is chosen are held e =
    let least = least_line (is_least_possible p need ii) in
    let is : IsChoice p (Met ii kernel) = subst (IsChoice p) same chosen in
    let before : AllZip (FailsAs p) (range_with_len (mii_of p) (ii - mii_of p)) reasons
    = subst (λ (c : Choice). AllZip (FailsAs p) (range_with_len (mii_of p) (failures_of p c)) reasons) same are in
    let told : text ≡ (kernel_line ii kernel.stages ++ hold_line hold) ++ least = e ∙ ap (λ (k : Parts). (kernel_line ii k.stages ++ hold_line hold) ++ least) kernel_is in
    subst (λ (c : Choice). IsEnd p need free c text) (sym same) (hold, held ii is.from_first before, told)
