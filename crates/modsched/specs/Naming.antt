-- The loops of a text that have the names that were given.
use Rattle.std.specs.Prelude.{Bool, not, bytes_eq, string_bytes, String, List, [], ◌∷◌, Option, None, Result, Ok, Err}
use Rattle.std.specs.List.{filter, find, list_any}
use Rattle.reader_faults.specs.declared.loops.LoopFault.{LoopFault}
use Rattle.loop_data.specs.Loops.{LoopData}

-- a loop has this name
abbrev pub is_named : {Z : Type 0} → String Z → LoopData → Bool
is_named name loop = bytes_eq loop.name (string_bytes name)

-- .. one of these
abbrev pub has_one_of : {Z : Type 0} → List (String Z) → LoopData → Bool
has_one_of names loop = list_any (λ name. is_named name loop) names

-- the loops that have one, in the order of the text; all of them where no name is given
abbrev pub chosen : {Z : Type 0} → List (String Z) → List LoopData → List LoopData
chosen [] loops = loops
chosen (name ∷ names) loops = filter (has_one_of (name ∷ names)) loops

-- the first of these names that no loop has
abbrev pub first_unknown : {Z : Type 0} → List (String Z) → List LoopData → Option (String Z)
first_unknown names loops = find (λ name. not (list_any (is_named name) loops)) names

-- the same of what a text means, whose fault comes before
abbrev pub chosen_of : {Z : Type 0} → List (String Z) → Result (List LoopData) LoopFault → Result (List LoopData) LoopFault
chosen_of names (Ok loops) = Ok (chosen names loops)
chosen_of names (Err fault) = Err fault

abbrev pub unknown_in : {Z : Type 0} → List (String Z) → Result (List LoopData) LoopFault → Option (String Z)
unknown_in names (Ok loops) = first_unknown names loops
unknown_in names (Err fault) = None
