-- The first fault that is told is the first that the reader of machine texts finds.
use Rattle.std.proofs.Common.{◌≡◌, ℕ, ◌≤◌, Bool, true, false, not, ltb, lt-ltb, List, [], ◌∷◌, ◌++◌, length, map, take, Option, Some, None, pos, negsuc, codes, inl, inr, refl, sym, ap, ◌∙◌}
use Rattle.std.proofs.lemmas.Bool.{and_right, cases_lt, false≢true}
use Rattle.std.proofs.lemmas.List.{append-nil, take_all, map-append}
use Rattle.std.specs.List.{flat_map, list_any}
use Rattle.toml.specs.Data.{Data, string, integer, float, boolean, datetime, array, table, Members}
use Rattle.machine_data.specs.Opcodes.{same_word}
use Rattle.reader_faults.specs.declared.machine.MachineFault.{MachineFault}
use Rattle.reader_faults.specs.declared.machine.MachineFault.TheVariants.{Limit, RepeatedUnit, UnknownKey}
use Rattle.machine.specs.MachineText.{Faults, data_of, entries_of, faults_in_turn, faults_of_number, faults_of_units, is_unit_name, path_in, path_of, text_of, unit_faults, unknown_keys, unless, within}
use Rattle.machine.proofs.texts.Texts.{list_any-map}
use Rattle.machine_lint.specs.Tree.{Lints, in_turn, key_told, keys_told, known_keys, repeated_unit, told, told_unless, unit_told, units_told, value_told}
use Rattle.machine_lint.specs.Values.{same_text}
use Rattle.machine_lint.specs.declared.place.MachineLint.{MachineLint}
use Rattle.machine_lint.specs.declared.spots.Spot.TheVariants as spot

-- the first of some faults, if there are any
abbrev pub first_fault : Faults → Option MachineFault
first_fault [] = None
first_fault (fault ∷ faults) = Some fault

abbrev pub faults_in : Lints → Faults
faults_in lints = map (λ (lint : MachineLint). lint.fault) lints

-- both lists begin with the same fault, or both are empty
abbrev pub Same : Lints → Faults → Type 0
Same lints faults = first_fault (faults_in lints) ≡ first_fault faults

pub same-append : (a b : Lints) (A B : Faults) → Same a A → (first_fault A ≡ None → Same b B) → Same (a ++ b) (A ++ B)
same-append [] b [] B h rest = rest refl
same-append [] b (F ∷ A) B h rest = cc
same-append (f ∷ a) b [] B h rest = cc
same-append (f ∷ a) b (F ∷ A) B h rest = h

pub none-left : (A B : Faults) → first_fault (A ++ B) ≡ None → first_fault A ≡ None
none-left [] B h = refl
none-left (f ∷ A) B h = h

pub none-right : (A B : Faults) → first_fault (A ++ B) ≡ None → first_fault B ≡ None
none-right [] B h = h
none-right (f ∷ A) B h = cc

pub same-flat : {X : Type 0} (f : X → Lints) (F : X → Faults) → ((x : X) → Same (f x) (F x)) → (xs : List X) → Same (flat_map f xs) (flat_map F xs)
same-flat f F each [] = refl
same-flat f F each (x ∷ xs) = same-append (f x) (flat_map f xs) (F x) (flat_map F xs) (each x) (λ none. same-flat f F each xs)

pub same-unless : (b : Bool) (lint : MachineLint) → Same (told_unless b lint) (unless b lint.fault)
same-unless true lint = refl
same-unless false lint = refl

pub same-turns : (check : List Data → Data → Lints) (F : Data → Faults) → ((before : List Data) (d : Data) → Same (check before d) (F d)) → (before ds : List Data) → Same (in_turn check before ds) (flat_map F ds)
same-turns check F each before [] = refl
same-turns check F each before (d ∷ ds) =
    same-append (check before d) (in_turn check (before ++ d ∷ []) ds) (F d) (flat_map F ds) (each before d) (λ none. same-turns check F each (before ++ d ∷ []) ds)

pub passed : (b : Bool) (f : MachineFault) → first_fault (unless b f) ≡ None → b ≡ true
passed true f h = refl
passed false f h = cc

-- a list of a length within its limits has no more elements than are judged
within-le : (high n : ℕ) → within 1 high n ≡ true → n ≤ high
within-le high n h = elim (cases_lt high n) [
  | inl above ↦ absurd (false≢true (sym (rw (lt-ltb high n above) (and_right (not (ltb n 1)) false refl)) ∙ h))
  | inr below ↦ below
]

pub all-taken : {A : Type 0} (high : ℕ) (xs : List A) (f : MachineFault) → first_fault (unless (within 1 high (length xs)) f) ≡ None → take high xs ≡ xs
all-taken high xs f h = take_all high xs (within-le high (length xs) (passed _ f h))

pub is-string : (names : List (List ℕ)) (d : Data) → first_fault (unit_faults names d) ≡ None → d ≡ string (text_of d)
unfolding unit_faults
is-string names (string name) h = refl
is-string names (integer z) h = cc
is-string names (float x) h = cc
is-string names (boolean b) h = cc
is-string names (datetime t) h = cc
is-string names (array ds) h = cc
is-string names (table ms) h = cc

module _ (text : List ℕ) where
  -- keys
  pub same-keys : (word : Option (List ℕ)) (path : List ℕ) → ((key : List ℕ) (d : Data) → Same (key_told text word (key, d)) (unless (list_any (same_word key) (known_keys word)) (UnknownKey (path ++ key))))
      → (members : Members) → Same (keys_told text word members) (unknown_keys path (known_keys word) members)
  unfolding keys_told unknown_keys
  same-keys word path each members =
      same-flat (key_told text word) (λ (entry : List ℕ × Data). unless (list_any (same_word entry.0) (known_keys word)) (UnknownKey (path ++ entry.0))) (λ entry. each entry.0 entry.1) (entries_of members)

  pub top-key : (key : List ℕ) (d : Data) → Same (key_told text None (key, d)) (unless (list_any (same_word key) (known_keys None)) (UnknownKey key))
  unfolding key_told
  top-key key d = same-unless _ _

  pub table-key : (word : List ℕ) (key : List ℕ) (d : Data) → Same (key_told text (Some word) (key, d)) (unless (list_any (same_word key) (known_keys (Some word))) (UnknownKey (path_in word [] ++ key)))
  unfolding key_told
  table-key word key d =
      let path : path_in word [] ++ key ≡ path_in word key = ap (λ (p : List ℕ). p ++ key) (append-nil (path_of word ++ codes ".")) in
      same-unless (list_any (same_word key) (known_keys (Some word))) (told text (spot.TableKey word key) d (UnknownKey (path_in word key)))
      ∙ ap (λ (p : List ℕ). first_fault (unless (list_any (same_word key) (known_keys (Some word))) (UnknownKey p))) (sym path)

  -- numbers
  pub same-registers : (found : Option Data) → Same (value_told text spot.Registers found) (faults_of_number (codes "registers") (codes "registers") 1 256 found)
  unfolding value_told faults_of_number
  same-registers None = refl
  same-registers (Some (string s)) = refl
  same-registers (Some (integer (pos n))) = same-unless _ _
  same-registers (Some (integer (negsuc n))) = refl
  same-registers (Some (float x)) = refl
  same-registers (Some (boolean b)) = refl
  same-registers (Some (datetime t)) = refl
  same-registers (Some (array ds)) = refl
  same-registers (Some (table ms)) = refl

  pub same-latency : (word : List ℕ) (found : Option Data) → Same (value_told text (spot.Latency word) found) (faults_of_number (path_in word (codes "latency")) (codes "latency") 1 64 found)
  unfolding value_told faults_of_number
  same-latency word None = refl
  same-latency word (Some (string s)) = refl
  same-latency word (Some (integer (pos n))) = same-unless _ _
  same-latency word (Some (integer (negsuc n))) = refl
  same-latency word (Some (float x)) = refl
  same-latency word (Some (boolean b)) = refl
  same-latency word (Some (datetime t)) = refl
  same-latency word (Some (array ds)) = refl
  same-latency word (Some (table ms)) = refl

  -- units

  any-strings : (name : List ℕ) (names : List (List ℕ)) → list_any (λ other. same_text other (string name)) (map string names) ≡ list_any (λ other. same_word other name) names
  any-strings name names = list_any-map (λ other. same_text other (string name)) string names

  same-unit : (names : List (List ℕ)) (d : Data) → Same (unit_told text (map string names) d) (unit_faults names d)
  unfolding unit_told unit_faults repeated_unit value_told
  same-unit names (string name) =
      let b : Lints = told_unless (not (list_any (λ other. same_text other (string name)) (map string names))) (told text (spot.Unit (length (map string names))) (string name) (RepeatedUnit name)) in
      let B : Faults = unless (not (list_any (λ other. same_word other name) names)) (RepeatedUnit name) in
      let rest : Same b B = rw (any-strings name names) (same-unless _ _) in
      same-append (told_unless (is_unit_name name) (told text (spot.Unit (length (map string names))) (string name) (Limit (codes "unit name")))) b
      (unless (is_unit_name name) (Limit (codes "unit name"))) B (same-unless _ _) (λ none. rest)
  same-unit names (integer z) = refl
  same-unit names (float x) = refl
  same-unit names (boolean b) = refl
  same-unit names (datetime t) = refl
  same-unit names (array ds) = refl
  same-unit names (table ms) = refl

  more-strings : (names : List (List ℕ)) (d : Data) → first_fault (unit_faults names d) ≡ None → map string names ++ d ∷ [] ≡ map string (names ++ text_of d ∷ [])
  more-strings names d none = ap (λ (v : Data). map string names ++ v ∷ []) (is-string names d none) ∙ sym (map-append string names (text_of d ∷ []))

  same-unit-list : (names : List (List ℕ)) (ds : List Data) → Same (in_turn (unit_told text) (map string names) ds) (faults_in_turn unit_faults text_of names ds)
  same-unit-list names [] = refl
  same-unit-list names (d ∷ ds) = same-append (unit_told text (map string names) d) _ (unit_faults names d) _ (same-unit names d) (λ none.
      rw (more-strings names d none) (same-unit-list (names ++ text_of d ∷ []) ds))

  pub same-units : (found : Option Data) → Same (units_told text found) (faults_of_units found)
  unfolding units_told faults_of_units value_told
  same-units None = refl
  same-units (Some (string s)) = refl
  same-units (Some (integer z)) = refl
  same-units (Some (float x)) = refl
  same-units (Some (boolean b)) = refl
  same-units (Some (datetime t)) = refl
  same-units (Some (array ds)) =
      let b : Lints = in_turn (unit_told text) [] (take 64 (data_of ds)) in
      let B : Faults = faults_in_turn unit_faults text_of [] (data_of ds) in
      let A : Faults = unless (within 1 64 (length (data_of ds))) (Limit (codes "units")) in
      let rest : first_fault A ≡ None → Same b B = λ none. rw (all-taken 64 (data_of ds) (Limit (codes "units")) none) (same-unit-list [] (data_of ds)) in
      same-append (told_unless (within 1 64 (length (data_of ds))) (told text spot.Units (array ds) (Limit (codes "units")))) b A B (same-unless _ _) rest
  same-units (Some (table ms)) = refl
