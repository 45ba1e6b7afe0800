-- The loops of pieces, put together one piece after another.
use Rattle.std.proofs.Common.{◌≡◌, List, [], ◌∷◌, ◌++◌, length, Result, Ok, Err, Vec, Global, refl, sym, subst, arith, append_assoc}
use Rattle.std.proofs.lemmas.List.{append-nil}
use Rattle.loop_data.specs.Loops.{LoopData}
use Rattle.reader_faults.specs.declared.loops.LoopFault.{LoopFault}
use Rattle.workers.specs.inner.Pieces.{AreJoined, HasFault}

abbrev Read : Type 0
Read = Result (Vec LoopData Global) LoopFault

-- with the loops of what is left, those so far are the loops of all
abbrev pub JoinedSoFar : List Read → List LoopData → List Read → Type 0
JoinedSoFar all loops left = (rest : List LoopData) → AreJoined left rest → AreJoined all (loops ++ rest)

pub joined-none : (all : List Read) (loops : List LoopData) → loops ≡ [] → JoinedSoFar all loops all
joined-none all loops none rest h = subst (λ (ls : List LoopData). AreJoined all (ls ++ rest)) (sym none) h

-- the loops of one more piece
pub joined-more : (all before left : List Read) (loops after : List LoopData) (part : Vec LoopData Global) → JoinedSoFar all loops before → before ≡ Ok part ∷ left → after ≡ loops ++ part.items
    → JoinedSoFar all after left
joined-more all before left loops after part f at e rest k =
    subst (λ (ls : List LoopData). AreJoined all (ls ++ rest)) (sym e)
    (subst (AreJoined all) (sym (append_assoc loops part.items rest))
    (f (part.items ++ rest) (subst (λ (ps : List Read). AreJoined ps (part.items ++ rest)) (sym at) (rest, refl, k))))

-- a piece is at fault where one of those that are left is
abbrev pub FaultSoFar : List Read → List Read → Type 0
FaultSoFar all left = HasFault left → HasFault all

nil_of : (left : List Read) → length left ≡ 0 → left ≡ []
nil_of [] h = refl
nil_of (x ∷ xs) h = absurd (omega arith)

pub joined-all : (all left : List Read) (loops : List LoopData) → JoinedSoFar all loops left → length left ≡ 0 → AreJoined all loops
joined-all all left loops f none =
    subst (AreJoined all) (append-nil loops) (f [] (subst (λ (ps : List Read). AreJoined ps []) (sym (nil_of left none)) refl))

pub fault-more : (all before left : List Read) (part : Vec LoopData Global) → FaultSoFar all before → before ≡ Ok part ∷ left → FaultSoFar all left
fault-more all before left part f at h = f (subst HasFault (sym at) h)

pub fault-here : (all before left : List Read) (fault : LoopFault) → FaultSoFar all before → before ≡ Err fault ∷ left → HasFault all
fault-here all before left fault f at = f (subst HasFault (sym at) tt)
