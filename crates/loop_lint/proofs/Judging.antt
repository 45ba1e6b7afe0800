-- The faults of each form of line, by its parts.
use Rattle.std.proofs.Common.{◌≡◌, ℕ, ◌+◌, ◌||◌, Bool, true, false, not, cond, List, [], ◌∷◌, ◌++◌, length, Option, Some, None, option_map, refl, sym, ◌∙◌, ap, unwrap_or, is_some, is_none, leb, ltb, get_or, lit≤, ℤ}
use Rattle.std.specs.List.{list_any}
use Rattle.std.specs.Option.{option_or}
use Rattle.loop_lines.specs.Forms.{Form, ArrayLine, InitLine, StatementLine, OutLine, EndLine, Subscript, Use, StatementForm}
use Rattle.loop_reader.specs.Meaning.{any_name, declared, has_init, has_statement, how_many, is_array, is_early, is_init, is_long, is_out_of, is_outside, is_statement, is_uncovered, is_unknown, is_unknown_place, is_value, is_wide, is_wide_place, when}
use Rattle.loop_lines.specs.Near.{IsNear}
use Rattle.reader_faults.specs.declared.loops.LoopFaultKind.TheVariants.{Limit}
use Rattle.loop_reader.proofs.lookups.Declared.{option_or-none}
use Rattle.loop_lint.specs.Parts.{AName, APlace, AUse, Part, first_part, is_early_part, is_over, is_repeated, is_uncovered_part, is_unknown_part, name_part, parts_of, place_part, place_word, use_parts, use_word, word_of_fault}
use Rattle.machine_data.specs.declared.opcode.Opcode.{Opcode}
use Rattle.loop_lint.specs.declared.block.Table.{Table}
use Rattle.loop_lint.specs.declared.tell.Found.{Found}
use Rattle.loop_lint.specs.inner.Founds.{AreFound}
use Rattle.loop_reader.specs.Declarations.{declared_seen}
use Rattle.loop_lint.specs.inner.Tables.{flag_of, known_at, IsTable}
use Rattle.loop_lint.proofs.Founds.{all_told, any_place, first-append, fitting, fitting_count, five_kinds, kinds_two, kinds_three, kinds_four, kinds_five, some_name, some_place, some_uses, some-or, word_when}
use Rattle.loop_lint.proofs.Tables.{declared_there}

-- the word of the first part, where it has the fault
head-word : (b : Bool) (w : ℕ) (rest : Option ℕ) → word_when b w ≡ word_when b (unwrap_or (cond b (Some w) rest) 0)
head-word true w rest = refl
head-word false w rest = refl

over-init : (a o b : Bool) → option_or (word_when a 1) (option_or (word_when o 1) (word_when b 3)) ≡ word_when ((a || o) || b) (unwrap_or (cond (a || o) (Some 1) (cond b (Some 3) None)) 0)
over-init true o b = refl
over-init false true b = refl
over-init false false true = refl
over-init false false false = refl

kinds_one : (a : Bool) → when a Limit ≡ five_kinds a false false false false
kinds_one true = refl
kinds_one false = refl

pub found_array : (lines block : List Form) (words : List (List ℕ)) (name : List ℕ) (cells : List (Option ℤ)) (table : Table) (found : Found) → IsTable lines table
    → found.limit ≡ word_when (((is_long name || list_any is_none cells) || ltb 1024 (length cells)) || leb 32 table.arrays) (unwrap_or (first_part is_over (parts_of words (ArrayLine name cells))) 0)
    → found.repeated ≡ word_when (is_some (known_at table.names name).declared) 1 → found.unknown ≡ None → found.early ≡ None → found.missing ≡ None
    → AreFound lines block words (ArrayLine name cells) found
found_array lines block words name cells table found is l r u e m = record {
  same = λ line ws hint.
      let wide = (is_long name || list_any is_none cells) || ltb 1024 (length cells) in
      all_told line ws hint (word_of_fault lines block words (ArrayLine name cells)) found _ (wide || leb 32 (how_many is_array lines)) (is_some (declared lines name)) false false false
      (kinds_two _ _)
      (l ∙ ap (λ n. word_when (wide || leb 32 n) (unwrap_or (first_part is_over (parts_of words (ArrayLine name cells))) 0)) is.arrays)
      (r ∙ ap (λ b. word_when b 1) (declared_there lines table name is) ∙ head-word (is_some (declared lines name)) 1 _)
      u e m;
}

value-there : (lines : List Form) (table : Table) (name : List ℕ) → IsTable lines table → not (is_value (option_map declared_seen (known_at table.names name).declared)) ≡ not (is_value (declared lines name))
value-there lines table name is = ap (λ d. not (is_value d)) (is.declares name)

pub found_init : (lines block : List Form) (words : List (List ℕ)) (name : List ℕ) (number : Option ℕ) (value : Option ℤ) (before table : Table) (found : Found) → IsTable lines before → IsTable block table → IsNear number
    → found.limit ≡ option_or (word_when (is_long name) 1) (option_or (word_when (is_outside number) 1) (word_when (is_none value) 3))
    → found.repeated ≡ word_when (flag_of (known_at before.names name).inits number) 1
    → found.unknown ≡ word_when (not (is_value (option_map declared_seen (known_at table.names name).declared))) 1
    → found.early ≡ None → found.missing ≡ None
    → AreFound lines block words (InitLine name number value) found
found_init lines block words name number value before table found is whole near l r u e m = record {
  same = λ line ws hint.
      all_told line ws hint (word_of_fault lines block words (InitLine name number value)) found _ ((is_long name || is_outside number) || is_none value) (list_any (is_init name number) lines) (not (is_value (declared block name))) false false
      (kinds_three _ _ _)
      (l ∙ over-init (is_long name) (is_outside number) (is_none value))
      (r ∙ ap (λ b. word_when b 1) (is.gives name number near) ∙ head-word (list_any (is_init name number) lines) 1 _)
      (u ∙ ap (λ b. word_when b 1) (value-there block table name whole) ∙ head-word (not (is_value (declared block name))) 1 _)
      e m;
}

pub found_out : (lines block : List Form) (words : List (List ℕ)) (name : List ℕ) (before table : Table) (found : Found) → IsTable lines before → IsTable block table
    → found.limit ≡ word_when (is_long name) 1
    → found.repeated ≡ word_when (known_at before.names name).out 1
    → found.unknown ≡ word_when (not (is_value (option_map declared_seen (known_at table.names name).declared))) 1
    → found.early ≡ None
    → found.missing ≡ word_when (not (get_or (known_at table.names name).inits 1 false)) 1
    → AreFound lines block words (OutLine name) found
found_out lines block words name before table found is whole l r u e m = record {
  same = λ line ws hint.
      let given : get_or (known_at table.names name).inits 1 false ≡ has_init block name 1 = whole.gives name (Some 1) (lit≤ tt) in
      all_told line ws hint (word_of_fault lines block words (OutLine name)) found _ (is_long name) (list_any (is_out_of name) lines) (not (is_value (declared block name))) false (not (has_init block name 1))
      (kinds_four _ _ _ _)
      (l ∙ head-word (is_long name) 1 _)
      (r ∙ ap (λ b. word_when b 1) (is.lives name) ∙ head-word (list_any (is_out_of name) lines) 1 _)
      (u ∙ ap (λ b. word_when b 1) (value-there block table name whole) ∙ head-word (not (is_value (declared block name))) 1 _)
      e
      (m ∙ ap (λ b. word_when (not b) 1) given ∙ head-word (not (has_init block name 1)) 1 _);
}

pub found_end : (lines block : List Form) (words : List (List ℕ)) (table : Table) (found : Found) → IsTable lines table
    → found.limit ≡ word_when (not table.statement) 0 → found.repeated ≡ None → found.unknown ≡ None → found.early ≡ None → found.missing ≡ None
    → AreFound lines block words EndLine found
found_end lines block words table found is l r u e m = record {
  same = λ line ws hint.
      all_told line ws hint (word_of_fault lines block words EndLine) found _ (not (has_statement lines)) false false false false (kinds_one _)
      (l ∙ ap (λ b. word_when (not b) 0) is.statement) r u e m;
}

-- statements

wide-place : (place : Option Subscript) → any_place (λ p. is_over (APlace p)) place ≡ is_wide_place place
wide-place None = refl
wide-place (Some p) = refl

unknown-place : (block : List Form) (place : Option Subscript) → any_place (λ p. is_unknown_part block (APlace p)) place ≡ is_unknown_place block place
unknown-place block None = refl
unknown-place block (Some p) = refl

-- the first part of a statement that passes a test
first-statement : (test : Part → Bool) (words : List (List ℕ)) (s : StatementForm) (name place uses : Option ℕ)
    → name ≡ first_part test (name_part s.name) → place ≡ first_part test (place_part (place_word s.opcode) s.place) → uses ≡ first_part test (use_parts s.opcode 0 s.uses)
    → first_part test (parts_of words (StatementLine s)) ≡ option_or name (option_or place uses)
first-statement test words s name place uses n p u =
    let names = name_part s.name in
    let places = place_part (place_word s.opcode) s.place in
    let reads = use_parts s.opcode 0 s.uses in
    first-append test names (places ++ reads) ∙ ap (option_or (first_part test names)) (first-append test places reads)
    ∙ ap (λ o. option_or o (option_or (first_part test places) (first_part test reads))) (sym n)
    ∙ ap (λ o. option_or name (option_or o (first_part test reads))) (sym p)
    ∙ ap (λ o. option_or name (option_or place o)) (sym u)

some-statement : (test : Part → Bool) (words : List (List ℕ)) (s : StatementForm)
    → is_some (first_part test (parts_of words (StatementLine s))) ≡ (any_name (λ n. test (AName n)) s.name || (any_place (λ p. test (APlace p)) s.place || list_any (λ u. test (AUse u)) s.uses))
some-statement test words s =
    let names = first_part test (name_part s.name) in
    let places = first_part test (place_part (place_word s.opcode) s.place) in
    let reads = first_part test (use_parts s.opcode 0 s.uses) in
    ap is_some (first-statement test words s names places reads refl refl refl)
    ∙ some-or names (option_or places reads) ∙ ap (λ b. is_some names || b) (some-or places reads)
    ∙ ap (λ b. b || (is_some places || is_some reads)) (some_name test s.name)
    ∙ ap (λ b. any_name (λ n. test (AName n)) s.name || (b || is_some reads)) (some_place test (place_word s.opcode) s.place)
    ∙ ap (λ b. any_name (λ n. test (AName n)) s.name || (any_place (λ p. test (APlace p)) s.place || b)) (some_uses test s.opcode 0 s.uses)

or-assoc : (a b c : Bool) → (a || (b || c)) ≡ ((a || b) || c)
or-assoc true b c = refl
or-assoc false b c = refl

or-no : (a : Bool) → (a || false) ≡ a
or-no true = refl
or-no false = refl

none-name : (name : Option (List ℕ)) → any_name (λ n. false) name ≡ false
none-name None = refl
none-name (Some n) = refl

none-place : (place : Option Subscript) → any_place (λ p. false) place ≡ false
none-place None = refl
none-place (Some p) = refl

none-uses : (us : List Use) → list_any (λ u. false) us ≡ false
none-uses [] = refl
none-uses (u ∷ us) = none-uses us

none-if : (b : Bool) (word : ℕ) (rest : Option ℕ) → b ≡ false → cond b (Some word) rest ≡ rest
none-if b word rest h = ap (λ t. cond t (Some word) rest) h

none-named : (test : Part → Bool) → ((q : List ℕ) → test (AName q) ≡ false) → (name : Option (List ℕ)) → None ≡ first_part test (name_part name)
none-named test h None = refl
none-named test h (Some name) = sym (none-if (test (AName name)) 0 None (h name))

none-there : (test : Part → Bool) → ((p : Subscript) → test (APlace p) ≡ false) → (word : ℕ) (place : Option Subscript) → None ≡ first_part test (place_part word place)
none-there test h word None = refl
none-there test h word (Some place) = sym (none-if (test (APlace place)) word None (h place))

none-used : (test : Part → Bool) → ((u : Use) → test (AUse u) ≡ false) → (opcode : Opcode) (number : ℕ) (us : List Use) → None ≡ first_part test (use_parts opcode number us)
none-used test h opcode number [] = refl
none-used test h opcode number (u ∷ us) = none-used test h opcode (number + 1) us ∙ sym (none-if (test (AUse u)) (use_word opcode number) (first_part test (use_parts opcode (number + 1) us)) (h u))

pub found_statement : (lines block : List Form) (words : List (List ℕ)) (s : StatementForm) (table : Table) (found : Found) → IsTable lines table
    → found.limit ≡ option_or (first_part is_over (parts_of words (StatementLine s))) (word_when (leb 128 table.statements) 0)
    → found.repeated ≡ first_part (is_repeated lines) (parts_of words (StatementLine s))
    → found.unknown ≡ first_part (is_unknown_part block) (parts_of words (StatementLine s))
    → found.early ≡ first_part (is_early_part block (how_many is_statement lines)) (parts_of words (StatementLine s))
    → found.missing ≡ first_part (is_uncovered_part block) (parts_of words (StatementLine s))
    → AreFound lines block words (StatementLine s) found
found_statement lines block words s table found is l r u e m = record {
  same = λ line ws hint.
      let first = λ (test : Part → Bool). first_part test (parts_of words (StatementLine s)) in
      let wide = (any_name is_long s.name || is_wide_place s.place) || list_any is_wide s.uses in
      let repeated = any_name (λ n. is_some (declared lines n)) s.name in
      let unknown = is_unknown_place block s.place || list_any (is_unknown block) s.uses in
      let early = list_any (is_early block (how_many is_statement lines)) s.uses in
      let missing = list_any (is_uncovered block) s.uses in
      let is-wide : is_some (first is_over) ≡ wide
      = some-statement is_over words s ∙ ap (λ b. any_name is_long s.name || (b || list_any is_wide s.uses)) (wide-place s.place) ∙ or-assoc (any_name is_long s.name) (is_wide_place s.place) (list_any is_wide s.uses) in
      let is-repeated : is_some (first (is_repeated lines)) ≡ repeated
      = some-statement (is_repeated lines) words s ∙ ap (λ b. repeated || (b || list_any (λ v. false) s.uses)) (none-place s.place) ∙ ap (λ b. repeated || b) (none-uses s.uses) ∙ or-no repeated in
      let is-unknown : is_some (first (is_unknown_part block)) ≡ unknown
      = some-statement (is_unknown_part block) words s ∙ ap (λ b. b || (any_place (λ p. is_unknown_part block (APlace p)) s.place || list_any (is_unknown block) s.uses)) (none-name s.name)
      ∙ ap (λ b. b || list_any (is_unknown block) s.uses) (unknown-place block s.place) in
      let is-early : is_some (first (is_early_part block (how_many is_statement lines))) ≡ early
      = some-statement (is_early_part block (how_many is_statement lines)) words s ∙ ap (λ b. b || (any_place (λ p. false) s.place || early)) (none-name s.name) ∙ ap (λ b. b || early) (none-place s.place) in
      let is-missing : is_some (first (is_uncovered_part block)) ≡ missing
      = some-statement (is_uncovered_part block) words s ∙ ap (λ b. b || (any_place (λ p. false) s.place || missing)) (none-name s.name) ∙ ap (λ b. b || missing) (none-place s.place) in
      all_told line ws hint (word_of_fault lines block words (StatementLine s)) found _ (wide || leb 128 (how_many is_statement lines)) repeated unknown early missing
      (kinds_five _ _ _ _ _)
      (l ∙ fitting_count (first is_over) wide (leb 128 table.statements) is-wide ∙ ap (λ n. word_when (wide || leb 128 n) (unwrap_or (first is_over) 0)) is.statements)
      (r ∙ fitting (first (is_repeated lines)) repeated is-repeated)
      (u ∙ fitting (first (is_unknown_part block)) unknown is-unknown)
      (e ∙ fitting (first (is_early_part block (how_many is_statement lines))) early is-early)
      (m ∙ fitting (first (is_uncovered_part block)) missing is-missing);
}

-- by its name, its place and its uses
pub found_by_parts : (lines block : List Form) (words : List (List ℕ)) (s : StatementForm) (table : Table) (found : Found) (name place uses repeated place-unknown unknown early missing : Option ℕ) → IsTable lines table
    → name ≡ first_part is_over (name_part s.name) → place ≡ first_part is_over (place_part (place_word s.opcode) s.place) → uses ≡ first_part is_over (use_parts s.opcode 0 s.uses)
    → repeated ≡ first_part (is_repeated lines) (name_part s.name)
    → place-unknown ≡ first_part (is_unknown_part block) (place_part (place_word s.opcode) s.place) → unknown ≡ first_part (is_unknown_part block) (use_parts s.opcode 0 s.uses)
    → early ≡ first_part (is_early_part block table.statements) (use_parts s.opcode 0 s.uses) → missing ≡ first_part (is_uncovered_part block) (use_parts s.opcode 0 s.uses)
    → found.limit ≡ option_or (option_or name (option_or place uses)) (word_when (leb 128 table.statements) 0) → found.repeated ≡ repeated → found.unknown ≡ option_or place-unknown unknown
    → found.early ≡ early → found.missing ≡ missing
    → AreFound lines block words (StatementLine s) found
found_by_parts lines block words s table found name place uses repeated place-unknown unknown early missing is n p u r pu uu ue um l fr fu fe fm =
    found_statement lines block words s table found is
    (l ∙ ap (λ o. option_or o (word_when (leb 128 table.statements) 0)) (sym (first-statement is_over words s name place uses n p u)))
    (fr ∙ sym (option_or-none repeated) ∙ sym (first-statement (is_repeated lines) words s repeated None None r (none-there (is_repeated lines) (λ q. refl) (place_word s.opcode) s.place) (none-used (is_repeated lines) (λ q. refl) s.opcode 0 s.uses)))
    (fu ∙ sym (first-statement (is_unknown_part block) words s None place-unknown unknown (none-named (is_unknown_part block) (λ q. refl) s.name) pu uu))
    (fe ∙ ue ∙ ap (λ k. first_part (is_early_part block k) (use_parts s.opcode 0 s.uses)) is.statements
    ∙ sym (first-statement (is_early_part block (how_many is_statement lines)) words s None None _ (none-named (is_early_part block (how_many is_statement lines)) (λ q. refl) s.name) (none-there (is_early_part block (how_many is_statement lines)) (λ q. refl) (place_word s.opcode) s.place) refl))
    (fm ∙ um ∙ sym (first-statement (is_uncovered_part block) words s None None _ (none-named (is_uncovered_part block) (λ q. refl) s.name) (none-there (is_uncovered_part block) (λ q. refl) (place_word s.opcode) s.place) refl))
