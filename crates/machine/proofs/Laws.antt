-- A machine text without a fault describes a machine.
use Rattle.std.proofs.Common.{◌≡◌, ◌≢◌, ℕ, ◌<◌, ◌≤◌, Bool, true, false, not, ltb, List, [], ◌∷◌, ◌++◌, length, get_or, map, Option, Some, None, option_map, pos, negsuc, refl, sym, ◌∙◌, inl, inr, arith, eq-eqb, lt-ltb, subst, Ordering, Less, Equal, Greater, nat_cmp}
use Rattle.std.specs.List.{All, AllPairs, list_any, flat_map, position_or_len}
use Rattle.std.specs.Ordering.{match_ordering}
use Rattle.std.specs.Cmp.Lexicographic.{slice_cmp}
use Rattle.std.proofs.lemmas.Bool.{false≢true, and_parts, not-true, ltb-false, cases_lt}
use Rattle.std.proofs.lemmas.List.{append-nil, append_assoc, length-map}
use Rattle.std.proofs.lemmas.List.Elements.{All-nil, All-cons, All-push, All-weaker}
use Rattle.std.proofs.lemmas.List.Folds.{list_any_at}
use Rattle.std.proofs.lemmas.List.Quantifiers.{all_pairs_push}
use Rattle.std.proofs.lemmas.Slice.Eq.{bytes_eq-Decides}
use Rattle.toml.specs.Data.{Data, string, integer, float, boolean, datetime, array, table, Members, no_members, member, get_member}
use Rattle.machine_data.specs.declared.alternative.Row.{Row}
use Rattle.machine_data.specs.declared.opcode.Opcode.{Opcode}
use Rattle.machine_data.specs.declared.opcode.Opcode.TheVariants.{Load, Store, Add, Sub, Mul, And, Or, Xor, Min, Max, Lt, Sel, Mov}
use Rattle.machine_data.specs.Alternative.{IsAlternative, AreAlternatives}
use Rattle.machine_data.specs.Machines.{OperationData, IsOperation, UsesUnits, IsUnitName, IsMachine, table_of}
use Rattle.machine_data.specs.Opcodes.{same_word, word_of}
use Rattle.machine.specs.MachineText.{within, text_of, unit_faults, faults_in_turn, faults_of_units, names_of, data_of, faults_of_number, number_in, words_in, row_of, row_in, same_row, faults_of_words, row_faults, alternative_faults, rows_of, faults_of_alternatives, alternatives_of, table_faults, operation_of, entries_of, entry_faults, faults_of_tables, keys_in, tables_of}
use Rattle.machine.proofs.checks.Faults.{none-parts, unless-passed}
use Rattle.machine.proofs.texts.Words.{any-not_found}

-- limits

pub at_least : (low high n : ℕ) → within low high n ≡ true → low ≤ n
at_least low high n h = ltb-false n low (not-true _ ((and_parts (not (ltb n low)) (not (ltb high n)) h).0))

pub at_most : (low high n : ℕ) → within low high n ≡ true → n ≤ high
at_most low high n h = ltb-false high n (not-true _ ((and_parts (not (ltb n low)) (not (ltb high n)) h).1))

not-true' : (b : Bool) → not b ≡ true → b ≡ false
not-true' true h = absurd (false≢true h)
not-true' false h = refl

-- what is none of these differs from each
differs : {A : Type 0} (same : A → A → Bool) → ((x : A) → same x x ≡ true) → (xs : List A) (y : A) → list_any (λ x. same x y) xs ≡ false → (k : ℕ) (d : A) → k < length xs → get_or xs k d ≢ y
differs {A} same itself xs y none k d h = λ e.
    let P : A → Type 0 = λ x. same x y ≡ true in
    false≢true (sym none ∙ list_any_at (λ x. same x y) xs k d h (subst P (sym e) (itself y)))

-- rows

record AreRows (units : ℕ) (rows : List Row) : Type 0 where
  known : All (λ r. r.unit < units) rows
  offsets : All (λ r. r.offset < 64) rows
  different : AllPairs (λ r s. r ≢ s) rows

same_row-itself : (r : Row) → same_row r r ≡ true
same_row-itself r = rw (eq-eqb r.unit r.unit refl, eq-eqb r.offset r.offset refl)

module _ (path : List ℕ) (units : List (List ℕ)) where
  known-unit : (unit : List ℕ) (offset : ℕ) → list_any (same_word unit) units ≡ true → (row_of units (Some (unit, offset))).unit < length units
  known-unit unit offset h = elim (cases_lt (position_or_len (same_word unit) units) (length units)) [
    | inl below ↦ rw (lt-ltb _ _ below) below
    | inr above ↦ absurd (false≢true (sym (any-not_found (same_word unit) units above) ∙ h))
  ]

  words-law : (before : List Row) (words : Option (List ℕ × ℕ)) → faults_of_words path units before words ≡ [] → ((row_of units words).unit < length units) × ((row_of units words).offset < 64) × (list_any (λ other. same_row other (row_of units words)) before ≡ false)
  words-law before None h = cc
  words-law before (Some words) h =
      let (front, last) = none-parts _ _ h in
      let (first, middle) = none-parts _ _ front in
      let small = at_most 0 63 words.1 (unless-passed _ _ first) in
      (known-unit words.0 words.1 (unless-passed _ _ middle), omega (arith, small), not-true' _ (unless-passed _ _ last))

  rows-push : (before : List Row) (d : Data) → row_faults path units before d ≡ [] → AreRows (length units) before → AreRows (length units) (before ++ row_in units d ∷ [])
  unfolding row_faults
  rows-push before d h rows =
      let law = words-law before (words_in d) h in
      record {
        known = All-push (λ r. r.unit < length units) before (row_in units d) rows.known law.0;
        offsets = All-push (λ r. r.offset < 64) before (row_in units d) rows.offsets law.1;
        different = all_pairs_push (λ r s. r ≢ s) before (row_in units d) rows.different (differs same_row same_row-itself before (row_in units d) law.2);
      }

  rows-law : (before : List Row) (ds : List Data) → faults_in_turn (row_faults path units) (row_in units) before ds ≡ [] → AreRows (length units) before → AreRows (length units) (before ++ map (row_in units) ds)
  rows-law before [] h rows = rw (append-nil before) rows
  rows-law before (d ∷ ds) h rows =
      let (here, rest) = none-parts (row_faults path units before d) _ h in
      let all = rows-law (before ++ row_in units d ∷ []) ds rest (rows-push before d here rows) in
      rw append_assoc at all

  no-rows : AreRows (length units) []
  no-rows = record {
    known = All-nil (λ r. r.unit < length units);
    offsets = All-nil (λ r. r.offset < 64);
    different = λ i j d h k. absurd (omega (arith, k));
  }

  module _ (few : length units ≤ 64) where
    pub alternative-law : (d : Data) → alternative_faults path units d ≡ [] → IsAlternative (rows_of units d) × All (λ r. r.unit < length units) (rows_of units d)
    unfolding alternative_faults
    alternative-law (array values) h =
        let (count, each) = none-parts _ _ h in
        let counted = unless-passed _ _ count in
        let rows = rows-law [] (data_of values) each no-rows in
        let lower = at_least 1 16 (length (data_of values)) counted in
        let upper = at_most 1 16 (length (data_of values)) counted in (
          record {
            some = rw (length-map (data_of values) (row_in units)) (omega (arith, lower));
            few = rw (length-map (data_of values) (row_in units)) upper;
            units = All-weaker (λ r. r.unit < length units) (λ r. r.unit < 64) (λ r k. omega (arith, k, few)) _ rows.known;
            offsets = rows.offsets;
            different = rows.different;
          },
          rows.known,
        )
    alternative-law (string s) h = cc
    alternative-law (integer y) h = cc
    alternative-law (float x) h = cc
    alternative-law (boolean b) h = cc
    alternative-law (datetime t) h = cc
    alternative-law (table ns) h = cc

    each-alternative : (ds : List Data) → flat_map (alternative_faults path units) ds ≡ [] → All IsAlternative (map (rows_of units) ds) × All (λ rows. All (λ r. r.unit < length units) rows) (map (rows_of units) ds)
    each-alternative [] h = (All-nil IsAlternative, All-nil (λ rows. All (λ r. r.unit < length units) rows))
    each-alternative (d ∷ ds) h =
        let (here, rest) = none-parts (alternative_faults path units d) _ h in
        let law = alternative-law d here in
        let all = each-alternative ds rest in
        (All-cons IsAlternative _ _ law.0 all.0, All-cons (λ rows. All (λ r. r.unit < length units) rows) _ _ law.1 all.1)

    pub alternatives-law : (found : Option Data) → faults_of_alternatives path units found ≡ [] → AreAlternatives (alternatives_of units found) × All (λ rows. All (λ r. r.unit < length units) rows) (alternatives_of units found)
    unfolding faults_of_alternatives
    alternatives-law None h = cc
    alternatives-law (Some (array values)) h =
        let (count, each) = none-parts _ _ h in
        let counted = unless-passed _ _ count in
        let law = each-alternative (data_of values) each in
        let lower = at_least 1 8 (length (data_of values)) counted in
        let upper = at_most 1 8 (length (data_of values)) counted in (
          record {
            some = rw (length-map (data_of values) (rows_of units)) (omega (arith, lower));
            few = rw (length-map (data_of values) (rows_of units)) (omega (arith, upper));
            each = law.0;
          },
          law.1,
        )
    alternatives-law (Some (string s)) h = cc
    alternatives-law (Some (integer y)) h = cc
    alternatives-law (Some (float x)) h = cc
    alternatives-law (Some (boolean b)) h = cc
    alternatives-law (Some (datetime t)) h = cc
    alternatives-law (Some (table ns)) h = cc

    pub alternatives-count : (found : Option Data) → faults_of_alternatives path units found ≡ [] → length (alternatives_of units found) ≤ 8
    unfolding faults_of_alternatives
    alternatives-count None h = cc
    alternatives-count (Some (array values)) h =
        let (count, each) = none-parts _ _ h in
        rw (length-map (data_of values) (rows_of units)) (at_most 1 8 (length (data_of values)) (unless-passed _ _ count))
    alternatives-count (Some (string s)) h = cc
    alternatives-count (Some (integer y)) h = cc
    alternatives-count (Some (float x)) h = cc
    alternatives-count (Some (boolean b)) h = cc
    alternatives-count (Some (datetime t)) h = cc
    alternatives-count (Some (table ns)) h = cc

-- numbers

pub number-law : (path limit : List ℕ) (high : ℕ) (found : Option Data) → faults_of_number path limit 1 high found ≡ [] → (0 < number_in found) × (number_in found ≤ high)
unfolding faults_of_number
number-law path limit high None h = cc
number-law path limit high (Some (integer (pos n))) h =
    let counted = unless-passed _ _ h in
    let lower = at_least 1 high n counted in
    (omega (arith, lower), at_most 1 high n counted)
number-law path limit high (Some (integer (negsuc n))) h = cc
number-law path limit high (Some (string s)) h = cc
number-law path limit high (Some (float x)) h = cc
number-law path limit high (Some (boolean b)) h = cc
number-law path limit high (Some (datetime t)) h = cc
number-law path limit high (Some (array es)) h = cc
number-law path limit high (Some (table ns)) h = cc

-- tables

module _ (units : List (List ℕ)) (few : length units ≤ 64) where
  table-law : (opcode : List ℕ) (d : Data) → table_faults units opcode d ≡ [] → IsOperation (operation_of units d) × UsesUnits (length units) (operation_of units d)
  unfolding table_faults
  table-law opcode (table keys) h =
      let (front, last) = none-parts _ _ h in
      let (first, middle) = none-parts _ _ front in
      let latency = number-law _ _ 64 _ middle in
      let law = alternatives-law _ units few _ last in
      (record { latency_some = latency.0; latency_few = latency.1; alternatives = law.0; alternatives_few = alternatives-count _ units few _ last }, law.1)
  table-law opcode (string s) h = cc
  table-law opcode (integer y) h = cc
  table-law opcode (float x) h = cc
  table-law opcode (boolean b) h = cc
  table-law opcode (datetime t) h = cc
  table-law opcode (array es) h = cc

  -- a table that is found at a key has no fault, under some opcode's name
  found-law : (word : List ℕ) (keys : Members) (d : Data) → get_member word keys ≡ Some d → flat_map (entry_faults units) (entries_of keys) ≡ [] → (opcode : List ℕ) × (table_faults units opcode d ≡ [])
  unfolding entry_faults
  found-law word no_members d h none = cc
  found-law word (member k e rest) d h none =
      let (here, more) = none-parts (entry_faults units (k, e)) _ none in
      at (slice_cmp nat_cmp word k) h here (λ g. found-law word rest d g more)
    where
      at : (o : Ordering) → match_ordering o (get_member word rest) (Some e) (get_member word rest) ≡ Some d → entry_faults units (k, e) ≡ [] → (get_member word rest ≡ Some d → (opcode : List ℕ) × (table_faults units opcode d ≡ [])) → (opcode : List ℕ) × (table_faults units opcode d ≡ [])
      at Less h here next = next h
      at Equal h here next = (k, let e≡d : e ≡ d = cc in rw (← e≡d) (none-parts _ _ here).1)
      at Greater h here next = next h

  slot-law : (word : List ℕ) (keys : Members) (found : Option Data) → get_member word keys ≡ found → flat_map (entry_faults units) (entries_of keys) ≡ [] → (t : OperationData) → option_map (operation_of units) found ≡ Some t → IsOperation t × UsesUnits (length units) t
  slot-law word keys None h none t is = cc
  slot-law word keys (Some d) h none t is =
      let law = found-law word keys d h none in
      let same : operation_of units d ≡ t = cc in
      rw (← same) (table-law law.0 d law.1)

  tables-law : (found : Option Data) → faults_of_tables units found ≡ [] → flat_map (entry_faults units) (entries_of (keys_in found)) ≡ []
  unfolding faults_of_tables
  tables-law None h = cc
  tables-law (Some (table keys)) h = h
  tables-law (Some (string s)) h = cc
  tables-law (Some (integer y)) h = cc
  tables-law (Some (float x)) h = cc
  tables-law (Some (boolean b)) h = cc
  tables-law (Some (datetime t)) h = cc
  tables-law (Some (array es)) h = cc

-- units

pub record AreNames (names : List (List ℕ)) : Type 0 where
  pub named : All IsUnitName names
  pub different : AllPairs (λ a b. a ≢ b) names

names-push : (before : List (List ℕ)) (d : Data) → unit_faults before d ≡ [] → AreNames before → AreNames (before ++ text_of d ∷ [])
unfolding unit_faults
names-push before (string name) h names =
    let (form, fresh) = none-parts _ _ h in
    let formed = and_parts _ _ (unless-passed _ _ form) in
    let none = not-true' _ (unless-passed _ _ fresh) in
    record {
      named = All-push IsUnitName before name names.named (record { formed = formed.0; short = at_most 1 16 (length name) formed.1 });
      different = all_pairs_push (λ a b. a ≢ b) before name names.different (differs same_word (λ x. (bytes_eq-Decides x x).1 refl) before name none);
    }
names-push before (integer y) h names = cc
names-push before (float x) h names = cc
names-push before (boolean b) h names = cc
names-push before (datetime t) h names = cc
names-push before (array es) h names = cc
names-push before (table ns) h names = cc

names-law : (before : List (List ℕ)) (ds : List Data) → faults_in_turn unit_faults text_of before ds ≡ [] → AreNames before → AreNames (before ++ map text_of ds)
names-law before [] h names = rw (append-nil before) names
names-law before (d ∷ ds) h names =
    let (here, rest) = none-parts (unit_faults before d) _ h in
    let all = names-law (before ++ text_of d ∷ []) ds rest (names-push before d here names) in
    rw append_assoc at all

pub units-law : (found : Option Data) → faults_of_units found ≡ [] → (0 < length (names_of found)) × (length (names_of found) ≤ 64) × AreNames (names_of found)
unfolding faults_of_units
units-law None h = cc
units-law (Some (array units)) h =
    let (count, each) = none-parts _ _ h in
    let counted = unless-passed _ _ count in
    let lower = at_least 1 64 (length (data_of units)) counted in
    let upper = at_most 1 64 (length (data_of units)) counted in
    let names = names-law [] (data_of units) each (record { named = All-nil IsUnitName; different = λ i j d h k. absurd (omega (arith, k)) }) in
    (rw (length-map (data_of units) text_of) (omega (arith, lower)), rw (length-map (data_of units) text_of) upper, names)
units-law (Some (integer y)) h = cc
units-law (Some (string s)) h = cc
units-law (Some (float x)) h = cc
units-law (Some (boolean b)) h = cc
units-law (Some (datetime t)) h = cc
units-law (Some (table ns)) h = cc

-- machines

pub machine-law : (units registers ops : Option Data) (path limit : List ℕ) → faults_of_units units ≡ [] → faults_of_number path limit 1 256 registers ≡ [] → faults_of_tables (names_of units) ops ≡ []
    → IsMachine (record { units = names_of units; registers = number_in registers; tables = tables_of (names_of units) ops })
machine-law units registers ops path limit u r t =
    let named = units-law units u in
    let counted = number-law path limit 256 registers r in
    let each = tables-law (names_of units) named.1 ops t in
    let slot = λ (word : List ℕ). slot-law (names_of units) named.1 word (keys_in ops) _ refl each in
    record {
      units_some = named.0;
      units_few = named.1;
      units_named = named.2.named;
      units_different = named.2.different;
      registers_some = counted.0;
      registers_few = counted.1;
      opcodes = refl;
      tables = by slot;
    }
  where
    by : ((word : List ℕ) (table : OperationData) → option_map (operation_of (names_of units)) (get_member word (keys_in ops)) ≡ Some table → IsOperation table × UsesUnits (length (names_of units)) table)
        → (opcode : Opcode) (table : OperationData) → table_of (record { units = names_of units; registers = number_in registers; tables = tables_of (names_of units) ops }) opcode ≡ Some table → IsOperation table × UsesUnits (length (names_of units)) table
    by slot Load = slot (word_of Load)
    by slot Store = slot (word_of Store)
    by slot Add = slot (word_of Add)
    by slot Sub = slot (word_of Sub)
    by slot Mul = slot (word_of Mul)
    by slot And = slot (word_of And)
    by slot Or = slot (word_of Or)
    by slot Xor = slot (word_of Xor)
    by slot Min = slot (word_of Min)
    by slot Max = slot (word_of Max)
    by slot Lt = slot (word_of Lt)
    by slot Sel = slot (word_of Sel)
    by slot Mov = slot (word_of Mov)
