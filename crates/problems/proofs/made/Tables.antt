-- The alternatives of a well-formed draft.
use Rattle.std.proofs.Common.{◌≡◌, ◌≢◌, ℕ, suc, zero, ◌<◌, ◌≤◌, List, [], ◌∷◌, length, map, take, get_or, refl, sym, ap, ◌∙◌, arith}
use Rattle.std.specs.List.{AllPairs}
use Rattle.std.proofs.lemmas.List.{length-map, get_or-map}
use Rattle.std.proofs.lemmas.List.Elements.{All-map}
use Rattle.smallvec.specs.SmallVec.{SmallVec}
use Rattle.machine_data.specs.declared.alternative.Row.{Row}
use Rattle.machine_data.specs.Alternative.{IsAlternative, AreAlternatives}
use Rattle.problems.specs.declared.draft.Hold.{Hold}
use Rattle.problems.specs.declared.draft.Kind.{Kind}
use Rattle.problems.specs.Drafts.{AreRows, IsKind, row_of, alternatives_of}

take-all : {X : Type 0} (xs : List X) (k : ℕ) → length xs ≤ k → take k xs ≡ xs
take-all [] zero le = refl
take-all [] (suc k) le = refl
take-all (x ∷ xs) zero le = absurd (omega arith)
take-all (x ∷ xs) (suc k) le = ap (λ ys. x ∷ ys) (take-all xs k (omega arith))

-- what a loop has made of all items
pub map-all : {X Y : Type 0} (f : X → Y) (xs : List X) (made : List Y) (k : ℕ) → length xs ≤ k → made ≡ map f (take k xs) → made ≡ map f xs
map-all f xs made k le is = is ∙ ap (map f) (take-all xs k le)

hold_of : Row → Hold
hold_of row = record { unit = row.unit; offset = row.offset }

rows-different : (rows : List Hold) → AllPairs (λ a b. a ≢ b) rows → AllPairs (λ a b. a ≢ b) (map row_of rows)
unfolding hold_of
rows-different rows pairs i j d lt within same =
    let e : Hold = hold_of d in
    let size : length (map row_of rows) ≡ length rows = length-map rows row_of in
    let there : j < length rows = omega arith in
    let before : i < length rows = omega arith in
    pairs i j e lt there (ap hold_of (sym (get_or-map row_of rows i e d before) ∙ same ∙ get_or-map row_of rows j e d there))

pub alternative-made : (units : ℕ) (rows : List Hold) → units ≤ 64 → AreRows units rows → IsAlternative (map row_of rows)
alternative-made units rows few are =
    let size : length (map row_of rows) ≡ length rows = length-map rows row_of in
    let rows_some = are.some in
    let rows_few = are.few in
    record {
      some = omega arith;
      few = omega arith;
      units = All-map (λ (r : Row). r.unit < 64) row_of rows (λ k d lt. let below = are.units k d lt in omega arith);
      offsets = All-map (λ (r : Row). r.offset < 64) row_of rows (λ k d lt. let below = are.offsets k d lt in omega arith);
      different = rows-different rows are.different;
    }

pub alternatives-made : (units : ℕ) (kind : Kind) → units ≤ 64 → IsKind units kind → AreAlternatives (alternatives_of kind)
alternatives-made units kind few is =
    let made : SmallVec Hold → List Row = λ rows. map row_of rows.items in
    let size : length (alternatives_of kind) ≡ length kind.alternatives.items = length-map kind.alternatives.items made in
    let some = is.alternatives_some in
    let many = is.alternatives_few in
    record {
      some = omega arith;
      few = omega arith;
      each = All-map IsAlternative made kind.alternatives.items (λ k d lt. alternative-made units (get_or kind.alternatives.items k d).items few (is.alternatives k d lt));
    }
