-- Loops by their names.
use Rattle.std.proofs.Common.{◌≡◌, String, List, [], ◌∷◌, length, true, false, refl}
use Rattle.std.specs.Prelude.{◌==◌}
use Rattle.std.specs.List.{filter}
use Rattle.loop_data.specs.Loops.{LoopData}
use Rattle.modsched.specs.Naming.{chosen, has_one_of}

-- where names are given, the loops that have one are chosen
pub chosen-some : {Z : Type 0} (names : List (String Z)) (loops : List LoopData) → false ≡ (length names == 0) → filter (has_one_of names) loops ≡ chosen names loops
chosen-some [] loops some = let bad : false ≡ true = some in absurd (cc)
chosen-some (name ∷ names) loops some = refl
