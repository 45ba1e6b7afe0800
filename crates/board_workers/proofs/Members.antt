-- Members of lists.
use Rattle.std.proofs.Common.{◌≡◌, ℕ, zero, suc, ◌+◌, ◌-◌, ◌<◌, ◌≤◌, ◌⊎◌, inl, inr, ⊎_elim, List, [], ◌∷◌, ◌++◌, map, sym, refl, ap, subst, arith}
use Rattle.std.specs.List.{flat_map}
use Rattle.std.proofs.lemmas.Bool.Decides.{nat_tests}
use Rattle.board.specs.Rule.{occurrences}
use Rattle.std.proofs.lemmas.Bool.{cases_lt}
use Rattle.loop_listings.specs.Pieces.{PiecesData, IsIn, start_of_piece, end_of_piece, loop_of_piece}
use Rattle.loop_schedules.specs.Problems.{ProblemData}
use Rattle.reports.specs.Entries.{mii_at, In}
use Rattle.board_workers.specs.Worked.{from_on, places_of}

module _ {X : Type 0} where
  pub in_left : (x : X) (xs ys : List X) → In x xs → In x (xs ++ ys)
  in_left x [] ys h = absurd h
  in_left x (y ∷ xs) ys h = ⊎_elim (λ (is : y ≡ x). inl is) (λ (r : In x xs). inr (in_left x xs ys r)) h

  pub in_right : (x : X) (xs ys : List X) → In x ys → In x (xs ++ ys)
  in_right x [] ys h = h
  in_right x (y ∷ xs) ys h = inr (in_right x xs ys h)

pub in_map : {X Y : Type 0} (f : X → Y) (x : X) (xs : List X) → In x xs → In (f x) (map f xs)
in_map f x [] h = absurd h
in_map {X} f x (y ∷ xs) h = ⊎_elim (λ (is : y ≡ x). inl (ap f is)) (λ (r : In x xs). inr (in_map f x xs r)) h

pub map_in : {X Y : Type 0} (f : X → Y) (y : Y) (xs : List X) → In y (map f xs) → (x : X) × In x xs × (f x ≡ y)
map_in f y [] h = absurd h
map_in {X} {Y} f y (x ∷ xs) h = ⊎_elim (λ (is : f x ≡ y). (x, inl refl, is)) (λ (r : In y (map f xs)). let k = map_in f y xs r in (k.0, inr k.1, k.2)) h

pub in_flat : {X Y : Type 0} (f : X → List Y) (x : X) (y : Y) (xs : List X) → In x xs → In y (f x) → In y (flat_map f xs)
in_flat f x y [] h k = absurd h
in_flat {X} f x y (z ∷ xs) h k = ⊎_elim (λ (is : z ≡ x). in_left y (f z) (flat_map f xs) (subst (λ u. In y (f u)) (sym is) k))
    (λ (r : In x xs). in_right y (f z) (flat_map f xs) (in_flat f x y xs r k)) h

pub times_in : (x : ℕ) (xs : List ℕ) → 0 < occurrences x xs → In x xs
times_in x [] h = absurd (omega arith)
times_in x (y ∷ xs) h = ⊎_elim (λ (is : y ≡ x). inl is) (λ (r : 0 < occurrences x xs). inr (times_in x xs r)) (split x y xs h)
  where
    split : (x y : ℕ) (xs : List ℕ) → 0 < occurrences x (y ∷ xs) → (y ≡ x) ⊎ (0 < occurrences x xs)
    split x y xs h = grind (arith, nat_tests)

pub in_from_on : (start n x : ℕ) → start ≤ x → x < start + n → In x (from_on start n)
in_from_on start zero x low high = absurd (omega arith)
in_from_on start (suc n) x low high = ⊎_elim (λ (here : start ≡ x). inl here) (λ (past : start + 1 ≤ x). inr (in_from_on (start + 1) n x past (omega arith))) (at_or_past start x low)
  where
    at_or_past : (a b : ℕ) → a ≤ b → (a ≡ b) ⊎ (a + 1 ≤ b)
    at_or_past a b h = ⊎_elim (λ (less : a < b). inr (omega arith)) (λ (no : b ≤ a). inl (omega arith)) (cases_lt a b)

-- an interval of a piece has its place
pub in_places : (loops : List ProblemData) (pieces : PiecesData) (p l above : ℕ) → IsIn pieces p l above → In (l, mii_at loops l + above) (places_of loops pieces p)
in_places loops pieces p l above h =
    let place : ℕ → ℕ → ℕ × ℕ = λ k a. (k, mii_at loops k + a) in
    let low = h.from_start in
    let high = h.before_end in
    let at = in_from_on (start_of_piece pieces p) (end_of_piece pieces p - start_of_piece pieces p) above low (omega arith) in
    subst (λ k. In (place k above) (places_of loops pieces p)) h.its_loop (in_map (place (loop_of_piece pieces p)) above (from_on (start_of_piece pieces p) (end_of_piece pieces p - start_of_piece pieces p)) at)
