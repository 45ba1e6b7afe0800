-- Listings from prepared loops.
use Rattle.std.proofs.Common.{◌≡◌, ℕ, List, [], ◌∷◌, ◌++◌, length, refl, sym, subst, arith}
use Rattle.std.specs.List.{All, AllZip}
use Rattle.std.proofs.lemmas.List.Elements.{All-nil, All-cons}
use Rattle.machine_data.specs.Machines.{MachineData}
use Rattle.loop_data.specs.Loops.{LoopData}
use Rattle.loop_schedules.specs.Problems.{ProblemData}
use Rattle.candidates.specs.Choices.{IsChoice}
use Rattle.loop_listings.specs.Listings.{ListingData}
use Rattle.candidates.specs.Promises.{IsRight, Lists}
use Rattle.loop_listings.specs.declared.choices.Choice.{Choice}
use Rattle.candidates.proofs.Promised.{listings-are_right}
use Rattle.candidates.specs.Files.{ArePrepared, ListsProblems}

-- there are as many prepared loops as loops, each with the ceiling
pub prepared_long : (m : MachineData) (ratio ceiling : ℕ) (ls : List LoopData) (ps : List ProblemData) → ArePrepared m ratio ceiling ls ps → length ps ≡ length ls
prepared_long m ratio ceiling [] [] h = refl
prepared_long m ratio ceiling [] (p ∷ ps) h = absurd h
prepared_long m ratio ceiling (l ∷ ls) [] h = absurd h
prepared_long m ratio ceiling (l ∷ ls) (p ∷ ps) h = let k = prepared_long m ratio ceiling ls ps h.1 in omega arith

pub prepared_ceilings : (m : MachineData) (ratio ceiling : ℕ) (ls : List LoopData) (ps : List ProblemData) → ArePrepared m ratio ceiling ls ps → All (λ (p : ProblemData). p.ceiling ≡ ceiling) ps
prepared_ceilings m ratio ceiling [] [] h = All-nil (λ (p : ProblemData). p.ceiling ≡ ceiling)
prepared_ceilings m ratio ceiling [] (p ∷ ps) h = absurd h
prepared_ceilings m ratio ceiling (l ∷ ls) [] h = absurd h
prepared_ceilings m ratio ceiling (l ∷ ls) (p ∷ ps) h = All-cons (λ (p : ProblemData). p.ceiling ≡ ceiling) p ps h.0.same_ceiling (prepared_ceilings m ratio ceiling ls ps h.1)

pub choices_long : (ps : List ProblemData) (cs : List Choice) → AllZip IsChoice ps cs → length cs ≡ length ps
choices_long [] [] h = refl
choices_long [] (c ∷ cs) h = absurd h
choices_long (p ∷ ps) [] h = absurd h
choices_long (p ∷ ps) (c ∷ cs) h = let k = choices_long ps cs h.1 in omega arith

-- the choice of one more loop
pub choices_more : (ps more : List ProblemData) (cs : List Choice) (p : ProblemData) (c : Choice) → AllZip IsChoice ps cs → IsChoice p c → more ≡ ps ++ p ∷ [] → AllZip IsChoice more (cs ++ c ∷ [])
choices_more ps more cs p c h is added = subst (λ (qs : List ProblemData). AllZip IsChoice qs (cs ++ c ∷ [])) (sym added) (go ps cs h)
  where
    go : (ps : List ProblemData) (cs : List Choice) → AllZip IsChoice ps cs → AllZip IsChoice (ps ++ p ∷ []) (cs ++ c ∷ [])
    go [] [] h = (is, tt)
    go [] (d ∷ cs) h = absurd h
    go (q ∷ ps) [] h = absurd h
    go (q ∷ ps) (d ∷ cs) h = (h.0, go ps cs h.1)

pub lists_of : (m : MachineData) (ratio ceiling : ℕ) (ls : List LoopData) (ps : List ProblemData) (listing : ListingData) → ArePrepared m ratio ceiling ls ps → ListsProblems ceiling ps listing → Lists m ls ratio ceiling listing
lists_of m ratio ceiling ls ps listing are is = record { problems = ps; each_problem = are; choices = is.choices; each_choice = is.each_choice; is_listing = is.is_listing }

pub right_of : (m : MachineData) (ratio ceiling : ℕ) (ls : List LoopData) (ps : List ProblemData) (listing : ListingData) → ArePrepared m ratio ceiling ls ps → ListsProblems ceiling ps listing → IsRight m ls listing
right_of m ratio ceiling ls ps listing are is = listings-are_right m ls ratio ceiling listing (lists_of m ratio ceiling ls ps listing are is)
