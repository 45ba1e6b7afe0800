-- The slots that are held, as one operation is placed or taken out.
use Rattle.std.proofs.Common.{◌≡◌, ◌≢◌, ℕ, ◌<◌, inl, inr, Bool, true, false, cond, length, get_or, set, Some, None, sym, ap, ◌∙◌, subst}
use Rattle.std.proofs.lemmas.Bool.{cases_Bool, false≢true, both_ways}
use Rattle.std.proofs.lemmas.Option.{none-some, same_Some}
use Rattle.machine_data.specs.declared.alternative.Row.{Row}
use Rattle.mrt.specs.Placements.{OperationAlternatives, Placements, Placement, placement_of, rows_of, IsMetBy}
use Rattle.mrt.specs.Taken.{takes, Takes, AreApart}
use Rattle.mrt.specs.inner.Slots.{Occupies, Owns}
use Rattle.mrt.proofs.searching.Taking.{takes_place, met_from_takes, takes_other, takes_own, Takes-placed, Takes-removed}

module _ (ii units : ℕ) (operations : OperationAlternatives) (placed : Placements) (op : ℕ) (at : Placement) where
  -- ---- the operation is placed where it meets none
  module _ (there : op < length placed) (unplaced : placement_of placed op ≡ None)
      (meets_none : (other : ℕ) → IsMetBy ii operations placed (rows_of operations op at.alternative) at.time other → ⊥) where
    -- a slot of the operation is taken by no other
    alone : (unit residue x : ℕ) → takes ii (rows_of operations op at.alternative) at.time unit residue ≡ true → Takes ii operations placed unit residue x → ⊥
    alone unit residue x own t =
        let rows = rows_of operations op at.alternative in
        let d : Row = record { unit = 0; offset = 0 } in
        let p = takes_place ii rows at.time unit residue own in
        let row = get_or rows p.0 d in
        let P : ℕ → ℕ → Type 0 = λ u r. Takes ii operations placed u r x in
        meets_none x (met_from_takes ii operations placed rows at.time x p.0 d p.1 (subst (λ r. P row.unit r) (p.2 d).1 (subst (λ u. P u residue) (p.2 d).0 t)))

    -- what takes a slot is another operation
    another : (unit residue x : ℕ) → Takes ii operations placed unit residue x → x ≢ op
    another unit residue x t same = none-some t.at (sym unplaced ∙ ap (placement_of placed) (sym same) ∙ t.is_placed)

    pub Owns-placed : (free : ℕ) (owner owner' : ℕ → ℕ → ℕ)
        → ((unit residue : ℕ) → unit < units → residue < ii → owner' unit residue ≡ cond (takes ii (rows_of operations op at.alternative) at.time unit residue) op (owner unit residue))
        → Owns ii units free operations placed owner → Owns ii units free operations (set placed op (Some at)) owner'
    Owns-placed free owner owner' write o =
        let rows = rows_of operations op at.alternative in
        record {
          kept = λ unit residue x u r t.
              elim (Takes-placed ii operations placed op at unit residue x t) [
                | inl is ↦ write unit residue u r ∙ ap (λ b. cond b op (owner unit residue)) is.1 ∙ sym is.0
                | inr was ↦
                    elim (cases_Bool (takes ii rows at.time unit residue)) [
                      | inl its ↦ absurd (alone unit residue x its was.1)
                      | inr not_its ↦ write unit residue u r ∙ ap (λ b. cond b op (owner unit residue)) not_its ∙ o.kept unit residue x u r was.1
                    ]
              ];
          owed = λ unit residue u r ne.
              let P : ℕ → Type 0 = λ x. Takes ii operations (set placed op (Some at)) unit residue x in
              elim (cases_Bool (takes ii rows at.time unit residue)) [
                | inl its ↦
                    let is : owner' unit residue ≡ op = write unit residue u r ∙ ap (λ b. cond b op (owner unit residue)) its in
                    subst P (sym is) (takes_own ii operations placed op at unit residue there its)
                | inr not_its ↦
                    let is : owner' unit residue ≡ owner unit residue = write unit residue u r ∙ ap (λ b. cond b op (owner unit residue)) not_its in
                    let t = o.owed unit residue u r (λ e. ne (is ∙ e)) in
                    subst P (sym is) (takes_other ii operations placed op (Some at) unit residue (owner unit residue) (another unit residue (owner unit residue) t) t)
              ];
        }

    pub Occupies-placed : (held held' : ℕ → ℕ → Bool)
        → ((unit residue : ℕ) → unit < units → residue < ii → held' unit residue ≡ cond (takes ii (rows_of operations op at.alternative) at.time unit residue) true (held unit residue))
        → Occupies ii units operations placed held → Occupies ii units operations (set placed op (Some at)) held'
    Occupies-placed held held' write o =
        let rows = rows_of operations op at.alternative in
        record {
          marked = λ unit residue x u r t.
              elim (cases_Bool (takes ii rows at.time unit residue)) [
                | inl its ↦ write unit residue u r ∙ ap (λ b. cond b true (held unit residue)) its
                | inr not_its ↦
                    elim (Takes-placed ii operations placed op at unit residue x t) [
                      | inl is ↦ absurd (both_ways (takes ii rows at.time unit residue) not_its is.1)
                      | inr was ↦ write unit residue u r ∙ ap (λ b. cond b true (held unit residue)) not_its ∙ o.marked unit residue x u r was.1
                    ]
              ];
          owed = λ unit residue u r h.
              elim (cases_Bool (takes ii rows at.time unit residue)) [
                | inl its ↦ (op, takes_own ii operations placed op at unit residue there its)
                | inr not_its ↦
                    let is : held' unit residue ≡ held unit residue = write unit residue u r ∙ ap (λ b. cond b true (held unit residue)) not_its in
                    let t = o.owed unit residue u r (sym is ∙ h) in
                    (t.0, takes_other ii operations placed op (Some at) unit residue t.0 (another unit residue t.0 t.1) t.1)
              ];
        }

    pub AreApart-placed : AreApart ii operations placed → AreApart ii operations (set placed op (Some at))
    AreApart-placed apart unit residue x y s t =
        elim (Takes-placed ii operations placed op at unit residue x s) [
          | inl p ↦
              elim (Takes-placed ii operations placed op at unit residue y t) [
                | inl q ↦ p.0 ∙ sym q.0
                | inr q ↦ absurd (alone unit residue y p.1 q.1)
              ]
          | inr p ↦
              elim (Takes-placed ii operations placed op at unit residue y t) [
                | inl q ↦ absurd (alone unit residue x q.1 p.1)
                | inr q ↦ apart unit residue x y p.1 q.1
              ]
        ]

  -- ---- the operation is taken out
  module _ (is_placed : placement_of placed op ≡ Some at) where
    here : (unit residue : ℕ) → takes ii (rows_of operations op at.alternative) at.time unit residue ≡ true → Takes ii operations placed unit residue op
    here unit residue own = record { at = at; is_placed = is_placed; takes = own }

    -- what takes a slot that the operation does not take is another one
    elsewhere : (unit residue x : ℕ) → takes ii (rows_of operations op at.alternative) at.time unit residue ≡ false → Takes ii operations placed unit residue x → x ≢ op
    elsewhere unit residue x not_its t same =
        let is : at ≡ t.at = same_Some at t.at (sym is_placed ∙ ap (placement_of placed) (sym same) ∙ t.is_placed) in
        let P : ℕ → Placement → Type 0 = λ k p. takes ii (rows_of operations k p.alternative) p.time unit residue ≡ true in
        both_ways (takes ii (rows_of operations op at.alternative) at.time unit residue) not_its (subst (P op) (sym is) (subst (λ k. P k t.at) same t.takes))

    pub Owns-removed : (free : ℕ) (owner owner' : ℕ → ℕ → ℕ)
        → ((unit residue : ℕ) → unit < units → residue < ii → owner' unit residue ≡ cond (takes ii (rows_of operations op at.alternative) at.time unit residue) free (owner unit residue))
        → Owns ii units free operations placed owner → Owns ii units free operations (set placed op None) owner'
    Owns-removed free owner owner' write o =
        let rows = rows_of operations op at.alternative in
        record {
          kept = λ unit residue x u r t.
              let was = Takes-removed ii operations placed op unit residue x t in
              elim (cases_Bool (takes ii rows at.time unit residue)) [
                | inl its ↦ absurd (was.0 (sym (o.kept unit residue x u r was.1) ∙ o.kept unit residue op u r (here unit residue its)))
                | inr not_its ↦ write unit residue u r ∙ ap (λ b. cond b free (owner unit residue)) not_its ∙ o.kept unit residue x u r was.1
              ];
          owed = λ unit residue u r ne.
              let P : ℕ → Type 0 = λ x. Takes ii operations (set placed op None) unit residue x in
              elim (cases_Bool (takes ii rows at.time unit residue)) [
                | inl its ↦ absurd (ne (write unit residue u r ∙ ap (λ b. cond b free (owner unit residue)) its))
                | inr not_its ↦
                    let is : owner' unit residue ≡ owner unit residue = write unit residue u r ∙ ap (λ b. cond b free (owner unit residue)) not_its in
                    let t = o.owed unit residue u r (λ e. ne (is ∙ e)) in
                    subst P (sym is) (takes_other ii operations placed op None unit residue (owner unit residue) (elsewhere unit residue (owner unit residue) not_its t) t)
              ];
        }

    pub Occupies-removed : AreApart ii operations placed → (held held' : ℕ → ℕ → Bool)
        → ((unit residue : ℕ) → unit < units → residue < ii → held' unit residue ≡ cond (takes ii (rows_of operations op at.alternative) at.time unit residue) false (held unit residue))
        → Occupies ii units operations placed held → Occupies ii units operations (set placed op None) held'
    Occupies-removed apart held held' write o =
        let rows = rows_of operations op at.alternative in
        record {
          marked = λ unit residue x u r t.
              let was = Takes-removed ii operations placed op unit residue x t in
              elim (cases_Bool (takes ii rows at.time unit residue)) [
                | inl its ↦ absurd (was.0 (apart unit residue x op was.1 (here unit residue its)))
                | inr not_its ↦ write unit residue u r ∙ ap (λ b. cond b false (held unit residue)) not_its ∙ o.marked unit residue x u r was.1
              ];
          owed = λ unit residue u r h.
              elim (cases_Bool (takes ii rows at.time unit residue)) [
                | inl its ↦ absurd (false≢true (sym (write unit residue u r ∙ ap (λ b. cond b false (held unit residue)) its) ∙ h))
                | inr not_its ↦
                    let is : held' unit residue ≡ held unit residue = write unit residue u r ∙ ap (λ b. cond b false (held unit residue)) not_its in
                    let t = o.owed unit residue u r (sym is ∙ h) in
                    (t.0, takes_other ii operations placed op None unit residue t.0 (elsewhere unit residue t.0 not_its t.1) t.1)
              ];
        }

    pub AreApart-removed : AreApart ii operations placed → AreApart ii operations (set placed op None)
    AreApart-removed apart unit residue x y s t = apart unit residue x y (Takes-removed ii operations placed op unit residue x s).1 (Takes-removed ii operations placed op unit residue y t).1
