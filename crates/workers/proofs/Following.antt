-- Lines without a fault, followed by others.
use Rattle.std.proofs.Common.{◌≡◌, ◌∙◌, ℕ, ◌+◌, ◌≤◌, ◌<◌, Bool, true, false, ◌||◌, nat_le, List, [], ◌∷◌, ◌++◌, length, map, Option, Some, None, refl, sym, ap, ap₂, subst, arith, append_assoc, length-append}
use Rattle.std.specs.List.{list_any, AllByRecursion}
use Rattle.std.proofs.lemmas.Bool.Decides.{nat_tests}
use Rattle.std.proofs.lemmas.List.{append-nil, length_push}
use Rattle.std.proofs.lemmas.List.Folds.{list_any-append}
use Rattle.machine_data.specs.Opcodes.{same_word}
use Rattle.loop_data.specs.Loops.{LoopData}
use Rattle.loop_lines.specs.Forms.{Form, LoopLine, EndLine}
use Rattle.reader_faults.specs.declared.loops.LoopFault.{LoopFault}
use Rattle.reader_faults.specs.declared.loops.LoopFaultKind.TheVariants.{Limit, RepeatedName}
use Rattle.loop_reader.specs.Meaning.{Kinds, at_line, blocks_from, blocks_of, faults_of, inside_faults, is_long, line_faults, loop_of, opening_faults, outside_faults, when, whole, with_line}
use Rattle.loop_reader.proofs.blocks.OpeningLines.{name-of-loop}
use Rattle.loop_reader.proofs.faults.Giving.{none-front, when-false, or-false-left}

-- the names in the first lines of blocks
abbrev mutual
  pub names_outside : List (Option Form) → List (List ℕ)
  names_outside [] = []
  names_outside (Some (LoopLine name) ∷ lines) = name ∷ names_inside lines
  names_outside (_ ∷ lines) = names_outside lines

  pub names_inside : List (Option Form) → List (List ℕ)
  names_inside [] = []
  names_inside (Some EndLine ∷ lines) = names_outside lines
  names_inside (_ ∷ lines) = names_inside lines

-- lists that are empty

parts-none : (xs ys : List LoopFault) → xs ++ ys ≡ [] → (xs ≡ []) × (ys ≡ [])
parts-none [] ys h = (refl, h)
parts-none (x ∷ xs) ys h = cc

both-none : (xs ys : List LoopFault) → xs ≡ [] → ys ≡ [] → xs ++ ys ≡ []
both-none xs ys e f = ap₂ (λ (a b : List LoopFault). a ++ b) e f

kinds-none : (line : ℕ) (kinds : Kinds) → at_line line kinds ≡ [] → kinds ≡ []
kinds-none line [] h = refl
kinds-none line (k ∷ kinds) h = cc

elsewhere : (line other : ℕ) (kinds : Kinds) → at_line line kinds ≡ [] → at_line other kinds ≡ []
elsewhere line other kinds h = ap (at_line other) (kinds-none line kinds h)

-- a block's lines are those up to its `end`, whatever follows
whole-front : (line : ℕ) (names : List (List ℕ)) (before : List Form) (xs ys : List (Option Form)) → inside_faults line names before xs ≡ [] → whole before (xs ++ ys) ≡ whole before xs
whole-front line names before [] ys h = cc
whole-front line names before (None ∷ xs) ys h = whole-front (line + 1) names before xs ys h
whole-front line names before (Some EndLine ∷ xs) ys h = refl
whole-front line names before (Some form ∷ xs) ys h =
    whole-front (line + 1) names (with_line before form) xs ys
    (parts-none (at_line line (line_faults before (whole before (Some form ∷ xs)) form)) (inside_faults (line + 1) names (with_line before form) xs) h).1

-- lines without a fault, and others that have none after their names
mutual
  pub front-outside : (line : ℕ) (names : List (List ℕ)) (xs ys : List (Option Form)) → outside_faults line names xs ≡ []
      → ((other : ℕ) → outside_faults other (names ++ names_outside xs) ys ≡ []) → outside_faults line names (xs ++ ys) ≡ []
  front-outside line names [] ys h after = subst (λ (ns : List (List ℕ)). outside_faults line ns ys ≡ []) (append-nil names) (after line)
  front-outside line names (None ∷ xs) ys h after = front-outside (line + 1) names xs ys h after
  front-outside line names (Some (LoopLine name) ∷ xs) ys h after =
      let opened = names ++ name ∷ [] in
      let s = parts-none (at_line line (opening_faults names name)) (inside_faults (line + 1) opened [] xs) h in
      both-none (at_line line (opening_faults names name)) (inside_faults (line + 1) opened [] (xs ++ ys)) s.0
      (front-inside (line + 1) opened [] xs ys s.1
      (λ other. subst (λ (ns : List (List ℕ)). outside_faults other ns ys ≡ []) (sym (append_assoc names (name ∷ []) (names_inside xs))) (after other)))
  front-outside line names (Some form ∷ xs) ys h after = cc

  pub front-inside : (line : ℕ) (names : List (List ℕ)) (before : List Form) (xs ys : List (Option Form)) → inside_faults line names before xs ≡ []
      → ((other : ℕ) → outside_faults other (names ++ names_inside xs) ys ≡ []) → inside_faults line names before (xs ++ ys) ≡ []
  front-inside line names before [] ys h after = cc
  front-inside line names before (None ∷ xs) ys h after = front-inside (line + 1) names before xs ys h after
  front-inside line names before (Some EndLine ∷ xs) ys h after =
      let s = parts-none (at_line line (faults_of before before EndLine)) (outside_faults (line + 1) names xs) h in
      both-none (at_line line (faults_of before before EndLine)) (outside_faults (line + 1) names (xs ++ ys)) s.0 (front-outside (line + 1) names xs ys s.1 after)
  front-inside line names before (Some form ∷ xs) ys h after =
      let s = parts-none (at_line line (line_faults before (whole before (Some form ∷ xs)) form)) (inside_faults (line + 1) names (with_line before form) xs) h in
      both-none (at_line line (line_faults before (whole before (Some form ∷ (xs ++ ys))) form)) (inside_faults (line + 1) names (with_line before form) (xs ++ ys))
      (ap (λ (block : List Form). at_line line (line_faults before block form)) (whole-front line names before (Some form ∷ xs) ys h) ∙ s.0)
      (front-inside (line + 1) names (with_line before form) xs ys s.1 after)

-- .. and their blocks
mutual
  pub blocks-front : (line : ℕ) (names : List (List ℕ)) (xs ys : List (Option Form)) → outside_faults line names xs ≡ [] → blocks_of (xs ++ ys) ≡ blocks_of xs ++ blocks_of ys
  blocks-front line names [] ys h = refl
  blocks-front line names (None ∷ xs) ys h = blocks-front (line + 1) names xs ys h
  blocks-front line names (Some (LoopLine name) ∷ xs) ys h =
      blocks-inside (line + 1) (names ++ name ∷ []) name [] xs ys
      (parts-none (at_line line (opening_faults names name)) (inside_faults (line + 1) (names ++ name ∷ []) [] xs) h).1
  blocks-front line names (Some form ∷ xs) ys h = cc

  blocks-inside : (line : ℕ) (names : List (List ℕ)) (name : List ℕ) (before : List Form) (xs ys : List (Option Form)) → inside_faults line names before xs ≡ []
      → blocks_from name before (xs ++ ys) ≡ blocks_from name before xs ++ blocks_of ys
  blocks-inside line names name before [] ys h = cc
  blocks-inside line names name before (None ∷ xs) ys h = blocks-inside (line + 1) names name before xs ys h
  blocks-inside line names name before (Some EndLine ∷ xs) ys h =
      ap (λ (bs : List (List ℕ × List Form)). (name, before) ∷ bs)
      (blocks-front (line + 1) names xs ys (parts-none (at_line line (faults_of before before EndLine)) (outside_faults (line + 1) names xs) h).1)
  blocks-inside line names name before (Some form ∷ xs) ys h =
      blocks-inside (line + 1) names name (with_line before form) xs ys
      (parts-none (at_line line (line_faults before (whole before (Some form ∷ xs)) form)) (inside_faults (line + 1) names (with_line before form) xs) h).1

-- the names in the first lines are those of the blocks
mutual
  names-of-blocks : (lines : List (Option Form)) → map (λ (b : List ℕ × List Form). b.0) (blocks_of lines) ≡ names_outside lines
  names-of-blocks [] = refl
  names-of-blocks (None ∷ lines) = names-of-blocks lines
  names-of-blocks (Some (LoopLine name) ∷ lines) = names-from name [] lines
  names-of-blocks (Some form ∷ lines) = names-of-blocks lines

  names-from : (name : List ℕ) (before : List Form) (lines : List (Option Form)) → map (λ (b : List ℕ × List Form). b.0) (blocks_from name before lines) ≡ name ∷ names_inside lines
  names-from name before [] = refl
  names-from name before (None ∷ lines) = names-from name before lines
  names-from name before (Some EndLine ∷ lines) = ap (λ (ns : List (List ℕ)). name ∷ ns) (names-of-blocks lines)
  names-from name before (Some form ∷ lines) = names-from name (with_line before form) lines

names-of-loops : (blocks : List (List ℕ × List Form)) → map (λ (x : LoopData). x.name) (map loop_of blocks) ≡ map (λ (b : List ℕ × List Form). b.0) blocks
names-of-loops [] = refl
names-of-loops (b ∷ blocks) = ap₂ (λ (n : List ℕ) (ns : List (List ℕ)). n ∷ ns) (name-of-loop b.0 b.1) (names-of-loops blocks)

-- .. and those of the loops
pub names-opened : (lines : List (Option Form)) (loops : List LoopData) → map loop_of (blocks_of lines) ≡ loops → names_outside lines ≡ map (λ (x : LoopData). x.name) loops
names-opened lines loops h = sym (names-of-blocks lines) ∙ sym (names-of-loops (blocks_of lines)) ∙ ap (map (λ (x : LoopData). x.name)) h

-- none of the names is one of the earlier ones
abbrev pub AreOther : List (List ℕ) → List (List ℕ) → Type 0
AreOther earlier names = AllByRecursion (λ (name : List ℕ). list_any (same_word name) earlier ≡ false) names

below-limit : (n : ℕ) → n < 1024 → nat_le 1024 n ≡ false
below-limit n h = grind (arith, nat_tests)

no-fault : (a b c : Bool) → a ≡ false → b ≡ false → c ≡ false → when (a || b) Limit ++ when c RepeatedName ≡ []
no-fault true b c e f g = cc
no-fault false true c e f g = cc
no-fault false false true e f g = cc
no-fault false false false e f g = refl

opening-after : (own earlier : List (List ℕ)) (name : List ℕ) → opening_faults own name ≡ [] → list_any (same_word name) earlier ≡ false → length (earlier ++ own) < 1024 → opening_faults (earlier ++ own) name ≡ []
opening-after own earlier name h free few =
    let a = none-front (when (is_long name || nat_le 1024 (length own)) Limit) (when (list_any (same_word name) own) RepeatedName) h in
    no-fault (is_long name) (nat_le 1024 (length (earlier ++ own))) (list_any (same_word name) (earlier ++ own))
    (or-false-left (is_long name) (nat_le 1024 (length own)) (when-false (is_long name || nat_le 1024 (length own)) Limit a.0))
    (below-limit (length (earlier ++ own)) few)
    (list_any-append (same_word name) earlier own ∙ ap₂ (λ (p q : Bool). p || q) free (when-false (list_any (same_word name) own) RepeatedName a.1))

-- lines without a fault have none after other names, whatever their numbers are
mutual
  pub after-outside : (line other : ℕ) (own earlier : List (List ℕ)) (ys : List (Option Form)) → outside_faults line own ys ≡ [] → AreOther earlier (names_outside ys)
      → length earlier + (length own + length (names_outside ys)) ≤ 1024 → outside_faults other (earlier ++ own) ys ≡ []
  after-outside line other own earlier [] h free few = refl
  after-outside line other own earlier (None ∷ ys) h free few = after-outside (line + 1) (other + 1) own earlier ys h free few
  after-outside line other own earlier (Some (LoopLine name) ∷ ys) h free few =
      let opened = own ++ name ∷ [] in
      let s = parts-none (at_line line (opening_faults own name)) (inside_faults (line + 1) opened [] ys) h in
      let fits : length (earlier ++ own) < 1024 = omega (arith, length-append earlier own, few) in
      let still : length earlier + (length opened + length (names_inside ys)) ≤ 1024 = omega (arith, length_push own name, few) in
      both-none (at_line other (opening_faults (earlier ++ own) name)) (inside_faults (other + 1) ((earlier ++ own) ++ name ∷ []) [] ys)
      (ap (at_line other) (opening-after own earlier name (kinds-none line (opening_faults own name) s.0) free.0 fits))
      (subst (λ (ns : List (List ℕ)). inside_faults (other + 1) ns [] ys ≡ []) (sym (append_assoc earlier own (name ∷ [])))
      (after-inside (line + 1) (other + 1) opened earlier [] ys s.1 free.1 still))
  after-outside line other own earlier (Some form ∷ ys) h free few = cc

  after-inside : (line other : ℕ) (own earlier : List (List ℕ)) (before : List Form) (ys : List (Option Form)) → inside_faults line own before ys ≡ [] → AreOther earlier (names_inside ys)
      → length earlier + (length own + length (names_inside ys)) ≤ 1024 → inside_faults other (earlier ++ own) before ys ≡ []
  after-inside line other own earlier before [] h free few = cc
  after-inside line other own earlier before (None ∷ ys) h free few = after-inside (line + 1) (other + 1) own earlier before ys h free few
  after-inside line other own earlier before (Some EndLine ∷ ys) h free few =
      let s = parts-none (at_line line (faults_of before before EndLine)) (outside_faults (line + 1) own ys) h in
      both-none (at_line other (faults_of before before EndLine)) (outside_faults (other + 1) (earlier ++ own) ys)
      (elsewhere line other (faults_of before before EndLine) s.0) (after-outside (line + 1) (other + 1) own earlier ys s.1 free few)
  after-inside line other own earlier before (Some form ∷ ys) h free few =
      let block = whole before (Some form ∷ ys) in
      let s = parts-none (at_line line (line_faults before block form)) (inside_faults (line + 1) own (with_line before form) ys) h in
      both-none (at_line other (line_faults before block form)) (inside_faults (other + 1) (earlier ++ own) (with_line before form) ys)
      (elsewhere line other (line_faults before block form) s.0) (after-inside (line + 1) (other + 1) own earlier (with_line before form) ys s.1 free few)
