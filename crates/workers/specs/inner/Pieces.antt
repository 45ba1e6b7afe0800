-- The pieces of a text, and what is read of them.
use Rattle.std.specs.Prelude.{◌≡◌, ◌≢◌, ℕ, Bool, List, [], ◌∷◌, ◌++◌, Result, Ok, Err, Vec, is_some, map, IfOk}
use Rattle.std.specs.Borrow.{Bor}
use Rattle.std.specs.BTreeMap.{BTreeMap, get_by}
use Rattle.std.specs.Cmp.Lexicographic.{slice_cmp}
use Rattle.std.specs.Global.{Global}
use Rattle.std.specs.List.{All, AllPairs}
use Rattle.std.specs.Ordering.{nat_cmp}
use Rattle.loop_data.specs.Loops.{IsLoop, LoopData}
use Rattle.reader_faults.specs.declared.loops.LoopFault.{LoopFault}
use Rattle.loop_reader.specs.Meaning.{loops_in, seen}
use Rattle.reader_faults.specs.LoopFaults.{LoopsAnswer}
use Rattle.workers.specs.Apart.{EndsLine}

-- the pieces one after another are the text, and each of them that another follows ends its last line
abbrev pub IsCut : List ℕ → List (Bor (List ℕ)) → Type 0
IsCut text [] = text ≡ []
IsCut text (piece ∷ []) = text ≡ piece.now
IsCut text (piece ∷ next ∷ pieces) = EndsLine piece.now × ((rest : List ℕ) × (text ≡ piece.now ++ rest) × IsCut rest (next ∷ pieces))

-- what is read of a piece: what it means, in loops that are well formed
pub record IsRead (piece : Bor (List ℕ)) (read : Result (Vec LoopData Global) LoopFault) : Type 0 where
  pub exact : LoopsAnswer (seen read) (loops_in piece.now)
  pub well_formed : IfOk read (λ loops. All IsLoop loops.items)

-- no piece is at fault, and the loops are those of all pieces, in their order
abbrev pub AreJoined : List (Result (Vec LoopData Global) LoopFault) → List LoopData → Type 0
AreJoined [] loops = loops ≡ []
AreJoined (Ok part ∷ read) loops = (rest : List LoopData) × (loops ≡ part.items ++ rest) × AreJoined read rest
AreJoined (Err fault ∷ read) loops = ⊥

-- a piece is at fault
abbrev pub HasFault : List (Result (Vec LoopData Global) LoopFault) → Type 0
HasFault [] = ⊥
HasFault (Ok part ∷ read) = HasFault read
HasFault (Err fault ∷ read) = Unit {0}

abbrev pub names_of : List LoopData → List (List ℕ)
names_of loops = map (λ (x : LoopData). x.name) loops

-- no two of the names are one
abbrev pub NamesDiffer : List (List ℕ) → Type 0
NamesDiffer names = AllPairs (λ (x y : List ℕ). x ≢ y) names

-- a name is among those that are kept
abbrev pub has_name : BTreeMap (Bor (List ℕ)) (Unit {0}) → List ℕ → Bool
has_name names name = is_some (get_by (λ k. slice_cmp nat_cmp name k.now) names)
