-- .. of the rows of alternatives, where the units have no fault.
use Rattle.std.proofs.Common.{◌≡◌, ℕ, true, not, ◌&&◌, ◌||◌, eqb, List, [], ◌∷◌, ◌++◌, length, get_or, Option, Some, None, codes, position, unwrap_or, inl, inr, refl, sym, ap, ◌∙◌, eq-eqb}
use Rattle.std.proofs.lemmas.Bool.{cases_Bool, false≢true, ne_eqb}
use Rattle.std.proofs.lemmas.List.Quantifiers.{position-Some}
use Rattle.std.proofs.lemmas.Option.{same_Some}
use Rattle.std.proofs.lemmas.Slice.Eq.{bytes_eq-Decides}
use Rattle.std.specs.List.{AllZip, list_any}
use Rattle.toml.specs.Data.{Data}
use Rattle.machine_data.specs.Opcodes.{same_word}
use Rattle.machine_data.specs.declared.alternative.Row.{Row}
use Rattle.reader_faults.specs.declared.machine.MachineFault.TheVariants.{Limit, RepeatedRow, UnknownUnit}
use Rattle.machine.specs.MachineText.{Faults, faults_in_turn, faults_of_words, row_faults, row_in, row_of, same_row, path_in, unless, within, words_in}
use Rattle.machine.proofs.checks.RowFaults.{any-from_None}
use Rattle.machine_lint.specs.Tree.{in_turn, repeated_row, row_told, unknown_unit, value_told}
use Rattle.machine_lint.specs.Values.{is_unit_of, row_words_in, same_words}
use Rattle.machine_lint.specs.declared.spots.Spot.TheVariants as spot
use Rattle.machine_lint.proofs.First.{Same, first_fault, none-left, none-right, passed, same-append, same-unless}

-- two units that are both there have the same number only where they have the same name
known-number : (units : List (List ℕ)) (a : List ℕ) → list_any (same_word a) units ≡ true → (k : ℕ) × (position (same_word a) units ≡ Some k)
known-number units a h = elim (position (same_word a) units) as (λ o. position (same_word a) units ≡ o → (k : ℕ) × (position (same_word a) units ≡ Some k)) [
  | None ↦ λ e. absurd (false≢true (sym (any-from_None (same_word a) units e) ∙ h))
  | Some k ↦ λ e. (k, e)
] refl

at-number : (units : List (List ℕ)) (a : List ℕ) (k : ℕ) → position (same_word a) units ≡ Some k → get_or units k [] ≡ a
at-number units a k h =
    let found = position-Some (same_word a) units k [] h in
    sym ((bytes_eq-Decides a (get_or units k [])).0 found.1)

names-same : (units : List (List ℕ)) (a b : List ℕ) → list_any (same_word a) units ≡ true → list_any (same_word b) units ≡ true
    → same_word a b ≡ eqb (unwrap_or (position (same_word a) units) 0) (unwrap_or (position (same_word b) units) 0)
names-same units a b in-a in-b =
    let at-a = known-number units a in-a in
    let at-b = known-number units b in-b in
    rw (at-a.1, at-b.1) (elim (cases_Bool (same_word a b)) [
      | inl e ↦
          let same : a ≡ b = (bytes_eq-Decides a b).0 e in
          let k : at-a.0 ≡ at-b.0 = same_Some _ _ (sym at-a.1 ∙ rw same at-b.1) in
          e ∙ sym (eq-eqb at-a.0 at-b.0 k)
      | inr e ↦
          let apart : at-a.0 ≡ at-b.0 → ⊥ = λ k.
          let same : a ≡ b = sym (at-number units a at-a.0 at-a.1) ∙ rw k (at-number units b at-b.0 at-b.1) in
          false≢true (sym e ∙ (bytes_eq-Decides a b).1 same) in
          e ∙ sym (ne_eqb at-a.0 at-b.0 apart)
    ])

-- an element beside the row that the reader makes of it, where it has no fault
pub record RowIs (units : List (List ℕ)) (d : Data) (row : Row) : Type 0 where
  pub words : List ℕ × ℕ
  pub near' : row_words_in d ≡ Some words
  pub known : list_any (same_word words.0) units ≡ true
  pub is : row ≡ row_of units (Some words)

rows-push : (units : List (List ℕ)) (before : List Data) (rows : List Row) (d : Data) (r : Row) → AllZip (RowIs units) before rows → RowIs units d r → AllZip (RowIs units) (before ++ d ∷ []) (rows ++ r ∷ [])
rows-push units [] [] d r h k = (k, tt)
rows-push units (x ∷ before) [] d r h k = absurd h
rows-push units [] (y ∷ rows) d r h k = absurd h
rows-push units (x ∷ before) (y ∷ rows) d r h k = (h.0, rows-push units before rows d r h.1 k)

module _ (units : List (List ℕ)) where
  any-rows : (before : List Data) (rows : List Row) → AllZip (RowIs units) before rows → (words : List ℕ × ℕ) → list_any (same_word words.0) units ≡ true
      → list_any (λ other. same_words (row_words_in other) (Some words)) before ≡ list_any (λ other. same_row other (row_of units (Some words))) rows
  any-rows [] [] h words known = refl
  any-rows (d ∷ before) [] h words known = absurd h
  any-rows [] (r ∷ rows) h words known = absurd h
  any-rows (d ∷ before) (r ∷ rows) h words known =
      let own = h.0 in
      let here : same_words (row_words_in d) (Some words) ≡ same_row r (row_of units (Some words)) =
      rw (own.near', own.is) (ap (λ b. b && eqb own.words.1 words.1) (names-same units own.words.0 words.0 own.known known)) in
      rw here (ap (λ b. same_row r (row_of units (Some words)) || b) (any-rows before rows h.1 words known))

  module _ (text : List ℕ) (given : Option Data) (knows-as : (name : List ℕ) → is_unit_of given name ≡ list_any (same_word name) units) (word : List ℕ) (n : ℕ) where
    same-words : (at : ℕ) (before : List Data) (rows : List Row) → AllZip (RowIs units) before rows → (d : Data) (w : Option (List ℕ × ℕ)) → words_in d ≡ w
        → Same (value_told text (spot.Row word n at) (Some d) ++ unknown_unit text given (spot.Row word n at) d ++ repeated_row text (spot.Row word n at) before d)
        (faults_of_words (path_in word (codes "alts")) units rows w)
    unfolding value_told unknown_unit repeated_row
    same-words at before rows are d None e = rw e
    same-words at before rows are d (Some words) e = elim (cases_Bool (within 0 63 words.1)) [
      | inl small ↦ elim (cases_Bool (list_any (same_word words.0) units)) [
        | inl known ↦ rw (e, small, knows-as words.0, known, any-rows before rows are words known) (same-unless _ _)
        | inr unknown ↦ rw (e, small, knows-as words.0, unknown)
      ]
      | inr far ↦ rw (e, far)
    ]

    same-row : (before : List Data) (rows : List Row) → AllZip (RowIs units) before rows → (d : Data)
        → Same (row_told text given word n before d) (row_faults (path_in word (codes "alts")) units rows d)
    unfolding row_told row_faults
    same-row before rows are d = same-words (length before) before rows are d (words_in d) refl

    opened : (rows : List Row) (d : Data) → first_fault (row_faults (path_in word (codes "alts")) units rows d) ≡ None → first_fault (faults_of_words (path_in word (codes "alts")) units rows (words_in d)) ≡ None
    unfolding row_faults
    opened rows d h = h

    row-is : (rows : List Row) (d : Data) (w : Option (List ℕ × ℕ)) → words_in d ≡ w → first_fault (faults_of_words (path_in word (codes "alts")) units rows w) ≡ None → RowIs units d (row_in units d)
    row-is rows d None e h = cc
    row-is rows d (Some words) e h =
        let A : Faults = unless (within 0 63 words.1) (Limit (codes "offset")) in
        let B : Faults = unless (list_any (same_word words.0) units) (UnknownUnit words.0) in
        let C : Faults = unless (not (list_any (λ other. same_row other (row_of units (Some words))) rows)) (RepeatedRow (path_in word (codes "alts"))) in
        let both : first_fault (A ++ B) ≡ None = none-left (A ++ B) C h in
        let small : within 0 63 words.1 ≡ true = passed (within 0 63 words.1) (Limit (codes "offset")) (none-left A B both) in
        let known : list_any (same_word words.0) units ≡ true = passed (list_any (same_word words.0) units) (UnknownUnit words.0) (none-right A B both) in
        record { words = words; near' = rw (e, small); known = known; is = rw e }

    pub same-rows : (before : List Data) (rows : List Row) → AllZip (RowIs units) before rows → (ds : List Data)
        → Same (in_turn (row_told text given word n) before ds) (faults_in_turn (row_faults (path_in word (codes "alts")) units) (row_in units) rows ds)
    same-rows before rows are [] = refl
    same-rows before rows are (d ∷ ds) = same-append (row_told text given word n before d) _ (row_faults (path_in word (codes "alts")) units rows d) _ (same-row before rows are d) (λ none.
        same-rows (before ++ d ∷ []) (rows ++ row_in units d ∷ []) (rows-push units before rows d (row_in units d) are (row-is rows d (words_in d) refl (opened rows d none))) ds)
