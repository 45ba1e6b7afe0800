-- What is read of the pieces of a text is what the text means.
use Rattle.std.proofs.Common.{◌≡◌, ◌∙◌, ℕ, ◌+◌, ◌≤◌, List, [], ◌∷◌, ◌++◌, length, get_or, suc, zero, Result, Ok, Err, Vec, Global, refl, sym, ap, subst, arith, length-append}
use Rattle.std.specs.Borrow.{Bor}
use Rattle.std.specs.List.{All, AllZip}
use Rattle.std.proofs.lemmas.List.{append-nil, get_or-append-add, get_or_append_left, get_or_default, length-map, map-append}
use Rattle.std.proofs.lemmas.List.Elements.{All-append, All-nil}
use Rattle.loop_data.specs.Loops.{IsLoop, LoopData}
use Rattle.reader_faults.specs.declared.loops.LoopFault.{LoopFault}
use Rattle.loop_reader.specs.Meaning.{loops_in}
use Rattle.loop_reader.proofs.blocks.OpeningLines.{accepted}
use Rattle.workers.specs.Apart.{NamesAreApart}
use Rattle.workers.specs.inner.Pieces.{AreJoined, IsCut, IsRead, NamesDiffer, names_of}
use Rattle.workers.proofs.Apart.{read_apart}

abbrev Read : Type 0
Read = Result (Vec LoopData Global) LoopFault

abbrev name_of : LoopData → List ℕ
name_of loop = loop.name

name-at : (loops : List LoopData) (k : ℕ) (d : LoopData) → get_or (names_of loops) k d.name ≡ (get_or loops k d).name
name-at [] k d = refl
name-at (x ∷ xs) zero d = refl
name-at (x ∷ xs) (suc k) d = name-at xs k d

-- of loops whose names differ, the later ones have other names than the earlier ones
pub apart : (earlier later : List LoopData) → NamesDiffer (names_of (earlier ++ later)) → NamesAreApart earlier later
apart earlier later differ k d g i e h =
    let n = length earlier in
    let at : get_or (earlier ++ later) (n + k) d ≡ get_or later k d = get_or-append-add earlier later k d in
    let before : get_or (earlier ++ later) i d ≡ get_or earlier i e = get_or_append_left earlier later d i h ∙ get_or_default earlier i d e h in
    λ same.
    differ i (n + k) d.name (omega (arith, h)) (omega (arith, length-append earlier later, length-map (earlier ++ later) name_of, g))
    (name-at (earlier ++ later) i d ∙ ap name_of before ∙ same ∙ sym (name-at (earlier ++ later) (n + k) d ∙ ap name_of at))

-- of names that differ, so do the later ones
pub later_names : (earlier later : List (List ℕ)) → NamesDiffer (earlier ++ later) → NamesDiffer later
later_names earlier later differ i j d h g = λ same.
    differ (length earlier + i) (length earlier + j) d (omega (arith, h)) (omega (arith, length-append earlier later, g))
    (get_or-append-add earlier later i d ∙ same ∙ sym (get_or-append-add earlier later j d))

later_differ : (earlier later : List LoopData) → NamesDiffer (names_of (earlier ++ later)) → NamesDiffer (names_of later)
later_differ earlier later differ = later_names (names_of earlier) (names_of later) (subst NamesDiffer (map-append name_of earlier later) differ)

pub read_whole : (text : List ℕ) (pieces : List (Bor (List ℕ))) (read : List Read) (loops : List LoopData) → IsCut text pieces → AllZip IsRead pieces read → AreJoined read loops → NamesDiffer (names_of loops)
    → length loops ≤ 1024 → length text ≤ 1048576 → loops_in text ≡ Ok loops
read_whole text [] [] loops cut zip join differ few small = ap loops_in cut ∙ sym (accepted [] [] (omega arith) refl refl) ∙ ap Ok (sym join)
read_whole text [] (r ∷ rs) loops cut zip join differ few small = absurd zip
read_whole text (p ∷ ps) [] loops cut zip join differ few small = absurd zip
read_whole text (p ∷ ps) (Err fault ∷ rs) loops cut zip join differ few small = absurd join
read_whole text (p ∷ []) (Ok part ∷ []) loops cut zip join differ few small =
    ap loops_in cut ∙ sym zip.0.exact ∙ ap Ok (sym (join.1 ∙ ap (λ (ls : List LoopData). part.items ++ ls) join.2 ∙ append-nil part.items))
read_whole text (p ∷ []) (Ok part ∷ r ∷ rs) loops cut zip join differ few small = absurd zip.1
read_whole text (p ∷ q ∷ ps) (Ok part ∷ rs) loops cut zip join differ few small =
    let rest = cut.1.0 in
    let whole = cut.1.1 in
    let more = join.0 in
    let names = subst (λ (ls : List LoopData). NamesDiffer (names_of ls)) join.1 differ in
    let fit : length part.items + length more ≤ 1024 = omega (arith, ap length join.1, length-append part.items more, few) in
    let short : length (p.now ++ rest) ≤ 1048576 = subst (λ (t : List ℕ). length t ≤ 1048576) whole small in
    let others = read_whole rest (q ∷ ps) rs more cut.1.2 zip.1 join.2 (later_differ part.items more names) (omega (arith, fit)) (omega (arith, length-append p.now rest, short)) in
    ap loops_in whole ∙ read_apart p.now rest part.items more cut.0 (sym zip.0.exact) others (apart part.items more names) fit short ∙ ap Ok (sym join.1)

pub all_good : (pieces : List (Bor (List ℕ))) (read : List Read) (loops : List LoopData) → AllZip IsRead pieces read → AreJoined read loops → All IsLoop loops
all_good [] [] loops zip join = subst (All IsLoop) (sym join) (All-nil IsLoop)
all_good [] (r ∷ rs) loops zip join = absurd zip
all_good (p ∷ ps) [] loops zip join = absurd zip
all_good (p ∷ ps) (Err fault ∷ rs) loops zip join = absurd join
all_good (p ∷ ps) (Ok part ∷ rs) loops zip join = subst (All IsLoop) (sym join.1) (All-append IsLoop part.items join.0 zip.0.well_formed (all_good ps rs join.0 zip.1 join.2))
