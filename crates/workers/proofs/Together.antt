-- What workers make of the pieces of a text, put together, is what is told of the text.
use Rattle.std.proofs.Common.{◌≡◌, ◌∙◌, ℕ, ◌+◌, ◌≤◌, List, [], ◌∷◌, ◌++◌, length, map, Option, Some, None, Ok, refl, sym, ap, subst, arith, append_assoc, length-append}
use Rattle.std.specs.Borrow.{Bor}
use Rattle.std.specs.List.{AllZip, flat_map}
use Rattle.std.proofs.lemmas.List.{append-nil, length-map, map-append}
use Rattle.std.proofs.lemmas.List.Concat.{flat_map-append}
use Rattle.machine.specs.Machines.{MachineData}
use Rattle.machine.specs.Opcode.{Opcode}
use Rattle.loop_data.specs.Loops.{LoopData}
use Rattle.loop_reader.specs.Meaning.{loops_in}
use Rattle.loop_reader.proofs.blocks.OpeningLines.{accepted}
use Rattle.graph.specs.Units.{first_lacking, first_without_table, lacking_or}
use Rattle.loop_schedules.specs.Problems.{IsProblemOf, ProblemData}
use Rattle.candidates.specs.Files.{ArePrepared}
use Rattle.candidates.proofs.Listed.{prepared_long}
use Rattle.workers.specs.Told.{Group, IsPart, Teller, problems_of}
use Rattle.workers.specs.declared.pieces.Piece.{Piece}
use Rattle.workers.specs.inner.Made.{AreTogether, IsMadeOf, Tells, ToldOfText, names_in}
use Rattle.workers.specs.inner.Pieces.{IsCut, NamesDiffer, names_of}
use Rattle.workers.proofs.Apart.{read_apart}
use Rattle.workers.proofs.Whole.{apart, later_names}

-- two pairs of lists, the one after the other
zip_append : {A B : Type 0} (R : A → B → Type 0) (xs us : List A) (ys vs : List B) → AllZip R xs ys → AllZip R us vs → AllZip R (xs ++ us) (ys ++ vs)
zip_append R [] us [] vs h k = k
zip_append R [] us (y ∷ ys) vs h k = absurd h
zip_append R (x ∷ xs) us [] vs h k = absurd h
zip_append R (x ∷ xs) us (y ∷ ys) vs h k = (h.0, zip_append R xs us ys vs h.1 k)

lacks_none : (name : List ℕ) (missing : Option Opcode) (rest : Option (List ℕ × Opcode)) → lacking_or name missing rest ≡ None → (missing ≡ None) × (rest ≡ None)
lacks_none name None rest h = (refl, h)
lacks_none name (Some opcode) rest h = cc

none_lacks : (machine : MachineData) (xs ys : List LoopData) → first_lacking machine xs ≡ None → first_lacking machine ys ≡ None → first_lacking machine (xs ++ ys) ≡ None
none_lacks machine [] ys h k = k
none_lacks machine (x ∷ xs) ys h k =
    let s = lacks_none x.name (first_without_table machine x) (first_lacking machine xs) h in
    ap (λ m. lacking_or x.name m (first_lacking machine (xs ++ ys))) s.0 ∙ none_lacks machine xs ys s.1 k

-- prepared loops have the names of the loops
names_same : (machine : MachineData) (ratio ceiling : ℕ) (loops : List LoopData) (problems : List ProblemData) → ArePrepared machine ratio ceiling loops problems → names_in problems ≡ names_of loops
names_same machine ratio ceiling [] [] h = refl
names_same machine ratio ceiling [] (p ∷ ps) h = absurd h
names_same machine ratio ceiling (l ∷ ls) [] h = absurd h
names_same machine ratio ceiling (l ∷ ls) (p ∷ ps) h =
    ap (λ (x : LoopData). x.name ∷ names_in ps) h.0.same_loop ∙ ap (λ (ns : List (List ℕ)). l.name ∷ ns) (names_same machine ratio ceiling ls ps h.1)

-- the loops of a text, each prepared
record Gives (machine : MachineData) (ratio ceiling : ℕ) (text : List ℕ) (problems : List ProblemData) : Type 0 where
  loops : List LoopData
  means : loops_in text ≡ Ok loops
  lacking : first_lacking machine loops ≡ None
  prepared : ArePrepared machine ratio ceiling loops problems

-- .. of a text that two others make, the one after the other
both_give : (machine : MachineData) (ratio ceiling : ℕ) (text first rest : List ℕ) (ps qs : List ProblemData) → Gives machine ratio ceiling first ps → Gives machine ratio ceiling rest qs
    → text ≡ first ++ rest
    → ((earlier later : List LoopData) → loops_in first ≡ Ok earlier → loops_in rest ≡ Ok later → names_of (earlier ++ later) ≡ names_in (ps ++ qs) → length (earlier ++ later) ≡ length (ps ++ qs)
    → loops_in (first ++ rest) ≡ Ok (earlier ++ later)) → Gives machine ratio ceiling text (ps ++ qs)
both_give machine ratio ceiling text first rest ps qs g k whole means =
    let prepared : ArePrepared machine ratio ceiling (g.loops ++ k.loops) (ps ++ qs) =
    zip_append (λ loop problem. IsProblemOf machine loop ratio ceiling problem) g.loops k.loops ps qs g.prepared k.prepared in
    record {
      loops = g.loops ++ k.loops;
      means = ap loops_in whole ∙ means g.loops k.loops g.means k.means (sym (names_same machine ratio ceiling (g.loops ++ k.loops) (ps ++ qs) prepared))
          (sym (prepared_long machine ratio ceiling (g.loops ++ k.loops) (ps ++ qs) prepared));
      lacking = none_lacks machine g.loops k.loops g.lacking k.lacking;
      prepared = prepared;
    }

-- the names of later loops differ where those of all do
later_in : (ps qs : List ProblemData) → NamesDiffer (names_in (ps ++ qs)) → NamesDiffer (names_in qs)
later_in ps qs differ = later_names (names_in ps) (names_in qs) (subst NamesDiffer (map-append (λ (p : ProblemData). p.loop.name) ps qs) differ)

module _ {T F : Type 0} (g : Teller T F) (tell : F) (machine : MachineData) (ratio ceiling : ℕ) where
  abbrev AreTells : List (Bor (List ℕ)) → List (Piece T) → Type 0
  AreTells pieces tolds = AllZip (λ (piece : Bor (List ℕ)) (told : Piece T). Tells g tell machine ratio ceiling piece.now told) pieces tolds

  -- the loops of each piece, with the choice of each
  abbrev groups_of : (pieces : List (Bor (List ℕ))) (tolds : List (Piece T)) → AreTells pieces tolds → List Group
  groups_of [] [] zip = []
  groups_of [] (t ∷ ts) zip = absurd zip
  groups_of (p ∷ ps) [] zip = absurd zip
  groups_of (p ∷ ps) (t ∷ ts) zip = (zip.0.problems, zip.0.is.choices) ∷ groups_of ps ts zip.1

  parts_are : (pieces : List (Bor (List ℕ))) (tolds : List (Piece T)) (zip : AreTells pieces tolds) → AllZip (IsPart g tell ceiling) (groups_of pieces tolds zip) (map (λ (t : Piece T). t.part) tolds)
  parts_are [] [] zip = tt
  parts_are [] (t ∷ ts) zip = absurd zip
  parts_are (p ∷ ps) [] zip = absurd zip
  parts_are (p ∷ ps) (t ∷ ts) zip = (zip.0.is.part, parts_are ps ts zip.1)

  names_are : (pieces : List (Bor (List ℕ))) (tolds : List (Piece T)) (zip : AreTells pieces tolds)
      → names_in (problems_of (groups_of pieces tolds zip)) ≡ flat_map (λ (t : Piece T). t.names.items) tolds
  names_are [] [] zip = refl
  names_are [] (t ∷ ts) zip = absurd zip
  names_are (p ∷ ps) [] zip = absurd zip
  names_are (p ∷ ps) (t ∷ ts) zip =
      map-append (λ (x : ProblemData). x.loop.name) zip.0.problems (problems_of (groups_of ps ts zip.1))
      ∙ ap (λ (ns : List (List ℕ)). names_in zip.0.problems ++ ns) (names_are ps ts zip.1)
      ∙ ap (λ (ns : List (List ℕ)). ns ++ flat_map (λ (t : Piece T). t.names.items) ts) (sym zip.0.is.names)

  whole_gives : (text : List ℕ) (pieces : List (Bor (List ℕ))) (tolds : List (Piece T)) (zip : AreTells pieces tolds) → IsCut text pieces
      → NamesDiffer (names_in (problems_of (groups_of pieces tolds zip))) → length (problems_of (groups_of pieces tolds zip)) ≤ 1024 → length text ≤ 1048576
      → Gives machine ratio ceiling text (problems_of (groups_of pieces tolds zip))
  whole_gives text [] [] zip cut differ few small = record {
    loops = [];
    means = ap loops_in cut ∙ sym (accepted [] [] (omega arith) refl refl);
    lacking = refl;
    prepared = tt;
  }
  whole_gives text [] (t ∷ ts) zip cut differ few small = absurd zip
  whole_gives text (p ∷ ps) [] zip cut differ few small = absurd zip
  whole_gives text (p ∷ []) (t ∷ []) zip cut differ few small =
      subst (λ (x : List ℕ). Gives machine ratio ceiling x (zip.0.problems ++ [])) (sym cut)
      (subst (Gives machine ratio ceiling p.now) (sym (append-nil zip.0.problems))
      (record { loops = zip.0.loops; means = zip.0.means; lacking = zip.0.lacking; prepared = zip.0.prepared }))
  whole_gives text (p ∷ []) (t ∷ u ∷ ts) zip cut differ few small = absurd zip.1
  whole_gives text (p ∷ q ∷ ps) (t ∷ ts) zip cut differ few small =
      let rest = cut.1.0 in
      let whole = cut.1.1 in
      let own = zip.0.problems in
      let later = problems_of (groups_of (q ∷ ps) ts zip.1) in
      let short : length (p.now ++ rest) ≤ 1048576 = subst (λ (x : List ℕ). length x ≤ 1048576) whole small in
      let long : length own + length later ≤ 1024 = omega (arith, length-append own later, few) in
      let others = whole_gives rest (q ∷ ps) ts zip.1 cut.1.2 (later_in own later differ) (omega (arith, long)) (omega (arith, length-append p.now rest, short)) in
      both_give machine ratio ceiling text p.now rest own later (record { loops = zip.0.loops; means = zip.0.means; lacking = zip.0.lacking; prepared = zip.0.prepared }) others whole
      (λ earlier after h k names many.
      read_apart p.now rest earlier after cut.0 h k (apart earlier after (subst NamesDiffer (sym names) differ)) (omega (arith, length-append earlier after, many, few)) short)

  -- where something was made of each piece
  all_tell : (pieces : List (Bor (List ℕ))) (tolds : List (Piece T))
      → AllZip (λ (piece : Bor (List ℕ)) (one : Option (Piece T)). IsMadeOf g tell machine ratio ceiling piece.now one) pieces (map (λ (t : Piece T). Some t) tolds) → AreTells pieces tolds
  all_tell [] [] zip = tt
  all_tell [] (t ∷ ts) zip = absurd zip
  all_tell (p ∷ ps) [] zip = absurd zip
  all_tell (p ∷ ps) (t ∷ ts) zip = (zip.0, all_tell ps ts zip.1)

  pub told_of_all : (text : List ℕ) (pieces : List (Bor (List ℕ))) (made : List (Option (Piece T))) (names : List (List ℕ)) (parts : List T) → IsCut text pieces
      → AllZip (λ (piece : Bor (List ℕ)) (one : Option (Piece T)). IsMadeOf g tell machine ratio ceiling piece.now one) pieces made → AreTogether made names parts
      → length names ≤ 1024 → NamesDiffer names → length text ≤ 1048576 → ToldOfText g tell machine ratio ceiling text parts
  told_of_all text pieces made names parts cut zip all few differ small =
      let tells = all_tell pieces all.tolds
      (subst (λ (ms : List (Option (Piece T))). AllZip (λ (piece : Bor (List ℕ)) (one : Option (Piece T)). IsMadeOf g tell machine ratio ceiling piece.now one) pieces ms) all.all zip) in
      let groups = groups_of pieces all.tolds tells in
      let same : names_in (problems_of groups) ≡ names = names_are pieces all.tolds tells ∙ sym all.named in
      let many : length (problems_of groups) ≤ 1024 = omega (arith, length-map (problems_of groups) (λ (p : ProblemData). p.loop.name), ap length same, few) in
      let gives = whole_gives text pieces all.tolds tells cut (subst NamesDiffer (sym same) differ) many small in
      record {
        loops = gives.loops;
        means = gives.means;
        lacking = gives.lacking;
        apart = record {
          few = omega (arith, many, prepared_long machine ratio ceiling gives.loops (problems_of groups) gives.prepared);
          groups = groups;
          prepared = gives.prepared;
          told = subst (AllZip (IsPart g tell ceiling) groups) (sym all.told) (parts_are pieces all.tolds tells);
        };
      }

-- what was made of the first pieces, which is something of each: these are its names and its parts
pub record TogetherSoFar {T : Type 0} (all : List (Option (Piece T))) (names : List (List ℕ)) (parts : List T) (left : List (Option (Piece T))) : Type 0 where
  pub tolds : List (Piece T)
  pub made : all ≡ map (λ (t : Piece T). Some t) tolds ++ left
  pub named : names ≡ flat_map (λ (t : Piece T). t.names.items) tolds
  pub told : parts ≡ map (λ (t : Piece T). t.part) tolds

-- .. of one more piece
pub together-more : {T : Type 0} (all before left : List (Option (Piece T))) (names longer : List (List ℕ)) (parts more : List T) (one : Piece T)
    → TogetherSoFar all names parts before → before ≡ Some one ∷ left → longer ≡ names ++ one.names.items → more ≡ parts ++ one.part ∷ [] → TogetherSoFar all longer more left
together-more {T} all before left names longer parts more one f at added chosen = record {
  tolds = f.tolds ++ one ∷ [];
  made = f.made ∙ ap (λ (ms : List (Option (Piece T))). map (λ (t : Piece T). Some t) f.tolds ++ ms) at
      ∙ sym (append_assoc (map (λ (t : Piece T). Some t) f.tolds) (Some one ∷ []) left)
      ∙ ap (λ (ms : List (Option (Piece T))). ms ++ left) (sym (map-append (λ (t : Piece T). Some t) f.tolds (one ∷ [])));
  named = added ∙ ap (λ (ns : List (List ℕ)). ns ++ one.names.items) f.named
      ∙ ap (λ (ns : List (List ℕ)). flat_map (λ (t : Piece T). t.names.items) f.tolds ++ ns) (sym (append-nil one.names.items))
      ∙ sym (flat_map-append (λ (t : Piece T). t.names.items) f.tolds (one ∷ []));
  told = chosen ∙ ap (λ (ps : List T). ps ++ one.part ∷ []) f.told ∙ sym (map-append (λ (t : Piece T). t.part) f.tolds (one ∷ []));
}

nil_of : {T : Type 0} (left : List (Option (Piece T))) → length left ≡ 0 → left ≡ []
nil_of [] h = refl
nil_of (x ∷ xs) h = absurd (omega arith)

pub together-all : {T : Type 0} (all left : List (Option (Piece T))) (names : List (List ℕ)) (parts : List T) → TogetherSoFar all names parts left → length left ≡ 0 → AreTogether all names parts
together-all {T} all left names parts f none = record {
  tolds = f.tolds;
  all = f.made ∙ ap (λ (ms : List (Option (Piece T))). map (λ (t : Piece T). Some t) f.tolds ++ ms) (nil_of left none) ∙ append-nil (map (λ (t : Piece T). Some t) f.tolds);
  named = f.named;
  told = f.told;
}
