-- The tables of opcodes by their numbers, filled as the keys of `ops` are gone through in order.
use Rattle.std.proofs.Common.{◌≡◌, ◌≢◌, ℕ, zero, suc, ◌<◌, Bool, true, false, cond, List, [], ◌∷◌, ◌++◌, length, get_or, set, replicate, map, Option, Some, None, is_some, option_map, String, Global, string_bytes, Ordering, Less, Equal, Greater, nat_cmp, is_eq, refl, sym, ap, ◌∙◌, inl, inr, arith, length-set, get_or-set_same, get_or-set_other}
use Rattle.std.specs.List.{AllByRecursion, find, flat_map}
use Rattle.std.specs.List.Sorted.{IsStrictlySortedBy}
use Rattle.std.specs.Map.{keys_of}
use Rattle.std.specs.String.{string_cmp}
use Rattle.std.specs.Ordering.{match_ordering}
use Rattle.std.specs.Cmp.Lexicographic.{slice_cmp}
use Rattle.std.proofs.lemmas.Bool.{cases_Bool, false≢true}
use Rattle.std.proofs.lemmas.List.{get_or-replicate, ext_get_or, get_or-map}
use Rattle.std.proofs.lemmas.Map.Text.{is_eq-slice_cmp}
use Rattle.std.proofs.lemmas.Option.{same_Some}
use Rattle.std.proofs.lemmas.Slice.Eq.{bytes_eq-Decides}
use Rattle.toml.specs.Data.{Data, Members, member, get_member}
use Rattle.toml.specs.View.{view, members_view}
use Rattle.toml.specs.declared.value.Value.{Value}
use Rattle.toml.proofs.Views.{Entry}
use Rattle.reader_faults.specs.declared.machine.MachineFault.{MachineFault}
use Rattle.reader_faults.specs.declared.machine.MachineFault.TheVariants.{UnknownOpcode}
use Rattle.machine_data.specs.declared.opcode.Opcode.{Opcode}
use Rattle.machine_data.specs.declared.opcode.Opcode.TheVariants.{Load, Store, Add, Sub, Mul, And, Or, Xor, Min, Max, Lt, Sel, Mov}
use Rattle.machine_data.specs.Machines.{OperationData}
use Rattle.machine_data.specs.Opcodes.{word_of, opcode_number, all_opcodes, same_word, opcode_named}
use Rattle.machine.specs.inner.Reads.{first_fault}
use Rattle.machine.specs.MachineText.{unless, operation_of, entries_of, entry_faults, table_faults, keys_in, tables_of}
use Rattle.machine.proofs.checks.Faults.{first-append}

-- opcodes, their words and their numbers

named-word : (o : Opcode) → opcode_named (word_of o) ≡ Some o
named-word Load = refl
named-word Store = refl
named-word Add = refl
named-word Sub = refl
named-word Mul = refl
named-word And = refl
named-word Or = refl
named-word Xor = refl
named-word Min = refl
named-word Max = refl
named-word Lt = refl
named-word Sel = refl
named-word Mov = refl

at-number : (o : Opcode) → get_or all_opcodes (opcode_number o) Load ≡ o
at-number Load = refl
at-number Store = refl
at-number Add = refl
at-number Sub = refl
at-number Mul = refl
at-number And = refl
at-number Or = refl
at-number Xor = refl
at-number Min = refl
at-number Max = refl
at-number Lt = refl
at-number Sel = refl
at-number Mov = refl

pub number-below : (o : Opcode) → opcode_number o < 13
number-below Load = omega arith
number-below Store = omega arith
number-below Add = omega arith
number-below Sub = omega arith
number-below Mul = omega arith
number-below And = omega arith
number-below Or = omega arith
number-below Xor = omega arith
number-below Min = omega arith
number-below Max = omega arith
number-below Lt = omega arith
number-below Sel = omega arith
number-below Mov = omega arith

number-at : (n : ℕ) → n < 13 → opcode_number (get_or all_opcodes n Load) ≡ n
number-at zero h = refl
number-at (suc zero) h = refl
number-at (suc (suc zero)) h = refl
number-at (suc (suc (suc zero))) h = refl
number-at (suc (suc (suc (suc zero)))) h = refl
number-at (suc (suc (suc (suc (suc zero))))) h = refl
number-at (suc (suc (suc (suc (suc (suc zero)))))) h = refl
number-at (suc (suc (suc (suc (suc (suc (suc zero))))))) h = refl
number-at (suc (suc (suc (suc (suc (suc (suc (suc zero)))))))) h = refl
number-at (suc (suc (suc (suc (suc (suc (suc (suc (suc zero))))))))) h = refl
number-at (suc (suc (suc (suc (suc (suc (suc (suc (suc (suc zero)))))))))) h = refl
number-at (suc (suc (suc (suc (suc (suc (suc (suc (suc (suc (suc zero))))))))))) h = refl
number-at (suc (suc (suc (suc (suc (suc (suc (suc (suc (suc (suc (suc zero)))))))))))) h = refl
number-at (suc (suc (suc (suc (suc (suc (suc (suc (suc (suc (suc (suc (suc n))))))))))))) h = absurd (omega arith)

find-passes : {A : Type 0} (p : A → Bool) (xs : List A) (x : A) → find p xs ≡ Some x → p x ≡ true
find-passes p [] x h = cc
find-passes p (y ∷ ys) x h = elim (cases_Bool (p y)) [
  | inl e ↦ let s = rw e at h in rw (← same_Some _ _ s) e
  | inr e ↦ find-passes p ys x (rw e at h)
]

word-named : (word : List ℕ) (o : Opcode) → opcode_named word ≡ Some o → same_word (word_of o) word ≡ true
word-named word o h = find-passes (λ p. same_word (word_of p) word) all_opcodes o h

-- look-ups in a table

in_order : {A : Type 0} (o : Ordering) (x y : A) → match_ordering o x y x ≡ cond (is_eq o) y x
in_order Less x y = refl
in_order Equal x y = refl
in_order Greater x y = refl

found-at : (word key : List ℕ) (d : Data) (rest : Members) → get_member word (member key d rest) ≡ cond (same_word word key) (Some d) (get_member word rest)
found-at word key d rest = in_order (slice_cmp nat_cmp word key) (get_member word rest) (Some d) ∙ ap (λ b. cond b (Some d) (get_member word rest)) (is_eq-slice_cmp word key)

above-none : (k : String Global) (es : List Entry) → AllByRecursion (λ y. string_cmp k y ≡ Less) (keys_of es) → get_member (string_bytes k) (members_view es) ≡ None
above-none k [] h = refl
above-none k (e ∷ es) h = rw h.0 (above-none k es h.1)

-- where the keys that are left may still fill the opcode's slot, the slot does not matter
record SlotRight (units : List (List ℕ)) (word : List ℕ) (left all : Members) (slot : Option OperationData) : Type 0 where
  filled : get_member word left ≡ None → slot ≡ option_map (operation_of units) (get_member word all)
  open' : (d : Data) → get_member word left ≡ Some d → get_member word all ≡ Some d

pub record SlotsRight (units : List (List ℕ)) (left : List Entry) (all : Members) (tables : List (Option OperationData)) : Type 0 where
  pub sorted : IsStrictlySortedBy string_cmp (keys_of left)
  pub count : length tables ≡ 13
  slots : (o : Opcode) → SlotRight units (word_of o) (members_view left) all (get_or tables (opcode_number o) None)

pub slots-none : (units : List (List ℕ)) (es : List Entry) (tables : List (Option OperationData)) → tables ≡ replicate 13 None → IsStrictlySortedBy string_cmp (keys_of es) → SlotsRight units es (members_view es) tables
slots-none units es tables none sorted = rw none (record {
  sorted = sorted;
  count = refl;
  slots = λ o. record {
    filled = λ h. get_or-replicate 13 (opcode_number o) None None (number-below o) ∙ rw h;
    open' = λ d h. h;
  };
})

sorted-parts : (k : String Global) (ks : List (String Global)) → IsStrictlySortedBy string_cmp (k ∷ ks) → AllByRecursion (λ y. string_cmp k y ≡ Less) ks × IsStrictlySortedBy string_cmp ks
unfolding IsStrictlySortedBy
sorted-parts k ks h = h

module _ (units : List (List ℕ)) (all : Members) (tables : List (Option OperationData)) (k : String Global) (v : Value) (rest : List Entry) (o' : Opcode) (named : opcode_named (string_bytes k) ≡ Some o')
    (count : length tables ≡ 13) (above : AllByRecursion (λ y. string_cmp k y ≡ Less) (keys_of rest)) where
  slot-here : (o : Opcode) → same_word (word_of o) (string_bytes k) ≡ true → SlotRight units (word_of o) (members_view ((k, v) ∷ rest)) all (get_or tables (opcode_number o) None)
      → SlotRight units (word_of o) (members_view rest) all (get_or (set tables (opcode_number o') (Some (operation_of units (view v)))) (opcode_number o) None)
  slot-here o same right =
      let word : word_of o ≡ string_bytes k = (bytes_eq-Decides (word_of o) (string_bytes k)).0 same in
      let own : opcode_named (string_bytes k) ≡ Some o = rw word at (named-word o) in
      let is : o ≡ o' = same_Some _ _ (sym own ∙ named) in
      let found : get_member (word_of o) (members_view ((k, v) ∷ rest)) ≡ Some (view v) = found-at (word_of o) (string_bytes k) (view v) (members_view rest) ∙ rw same in
      let whole = right.open' (view v) found in
      let none : get_member (word_of o) (members_view rest) ≡ None = rw word (above-none k rest above) in
      let fits : opcode_number o' < length tables = omega (arith, number-below o', count) in
      record {
        filled = λ _. rw whole (rw is (get_or-set_same tables (opcode_number o') _ None fits));
        open' = λ d h. let e = sym none ∙ h in cc;
      }

  slot-there : (o : Opcode) → same_word (word_of o) (string_bytes k) ≡ false → SlotRight units (word_of o) (members_view ((k, v) ∷ rest)) all (get_or tables (opcode_number o) None)
      → SlotRight units (word_of o) (members_view rest) all (get_or (set tables (opcode_number o') (Some (operation_of units (view v)))) (opcode_number o) None)
  slot-there o other right =
      let skipped : get_member (word_of o) (members_view ((k, v) ∷ rest)) ≡ get_member (word_of o) (members_view rest) = found-at (word_of o) (string_bytes k) (view v) (members_view rest) ∙ rw other in
      let apart : opcode_number o ≢ opcode_number o' = λ e.
      let is : o' ≡ o = sym (at-number o') ∙ rw (← e) (at-number o) in
      false≢true (sym other ∙ rw is at (word-named (string_bytes k) o' named)) in
      record {
        filled = λ h. get_or-set_other tables (opcode_number o') (opcode_number o) _ None apart ∙ right.filled (skipped ∙ h);
        open' = λ d h. right.open' d (skipped ∙ h);
      }

  slot-next : (o : Opcode) → SlotRight units (word_of o) (members_view ((k, v) ∷ rest)) all (get_or tables (opcode_number o) None)
      → SlotRight units (word_of o) (members_view rest) all (get_or (set tables (opcode_number o') (Some (operation_of units (view v)))) (opcode_number o) None)
  slot-next o right = elim (cases_Bool (same_word (word_of o) (string_bytes k))) [ inl e ↦ slot-here o e right | inr e ↦ slot-there o e right ]

pub slots-more : (units : List (List ℕ)) (all : Members) (tables : List (Option OperationData)) (es : List Entry) (k : String Global) (v : Value) (rest : List Entry) (o : Opcode) → es ≡ (k, v) ∷ rest → opcode_named (string_bytes k) ≡ Some o
    → SlotsRight units es all tables → SlotsRight units rest all (set tables (opcode_number o) (Some (operation_of units (view v))))
slots-more units all tables es k v rest o more named right =
    let now = rw more at right in
    let sorted = sorted-parts k (keys_of rest) now.sorted in
    record {
      sorted = sorted.1;
      count = length-set tables (opcode_number o) _ ∙ now.count;
      slots = λ p. slot-next units all tables k v rest o named now.count sorted.0 p (now.slots p);
    }

pub slots-all : (units : List (List ℕ)) (d : Data) (tables : List (Option OperationData)) (es : List Entry) → es ≡ [] → SlotsRight units es (keys_in (Some d)) tables → tables ≡ tables_of units (Some d)
slots-all units d tables es none right =
    let now = rw none at right in
    let f : Opcode → Option OperationData = λ o. option_map (operation_of units) (get_member (word_of o) (keys_in (Some d))) in
    ext_get_or None tables (map f all_opcodes) now.count (λ i h.
    let below : i < 13 = omega (arith, now.count) in
    let o = get_or all_opcodes i Load in
    let own : get_or tables i None ≡ f o = rw (number-at i below) at ((now.slots o).filled refl) in
    own ∙ sym (get_or-map f all_opcodes i Load None below))

-- a key of `ops`

module _ (units : List (List ℕ)) (all : Members) (es : List Entry) (k : String Global) (v : Value) (rest : List Entry) (more : es ≡ (k, v) ∷ rest) (turn : flat_map (entry_faults units) (entries_of (members_view es)) ≡ flat_map (entry_faults units) (entries_of all)) where
  at-entry : flat_map (entry_faults units) (entries_of all) ≡ entry_faults units (string_bytes k, view v) ++ flat_map (entry_faults units) (entries_of (members_view rest))
  at-entry = sym turn ∙ rw more

  pub entry-unknown : (e : MachineFault) → first_fault (unless (is_some (opcode_named (string_bytes k))) (UnknownOpcode (string_bytes k))) ≡ Some e → first_fault (flat_map (entry_faults units) (entries_of all)) ≡ Some e
  unfolding entry_faults
  entry-unknown e h = rw at-entry (first-append _ _ e (first-append _ _ e h))

  module _ (o : Opcode) (named : opcode_named (string_bytes k) ≡ Some o) where
    entry-table : entry_faults units (string_bytes k, view v) ≡ table_faults units (word_of o) (view v)
    unfolding entry_faults
    entry-table =
        let word : word_of o ≡ string_bytes k = (bytes_eq-Decides (word_of o) (string_bytes k)).0 (word-named (string_bytes k) o named) in
        rw (named, word)

    pub entry-fault : (e : MachineFault) → first_fault (table_faults units (word_of o) (view v)) ≡ Some e → first_fault (flat_map (entry_faults units) (entries_of all)) ≡ Some e
    entry-fault e h = rw (at-entry, entry-table) (first-append _ _ e h)

    pub entry-more : table_faults units (word_of o) (view v) ≡ [] → flat_map (entry_faults units) (entries_of (members_view rest)) ≡ flat_map (entry_faults units) (entries_of all)
    entry-more h = sym (rw (entry-table, h) at at-entry)

pub entries-all : (units : List (List ℕ)) (all : Members) (es : List Entry) → es ≡ [] → flat_map (entry_faults units) (entries_of (members_view es)) ≡ flat_map (entry_faults units) (entries_of all) → flat_map (entry_faults units) (entries_of all) ≡ []
entries-all units all es none turn = sym (rw none at turn)
