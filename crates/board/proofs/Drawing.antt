-- When no piece is left, and how often one pass can draw.
use Rattle.std.proofs.Common.{◌≡◌, ℕ, zero, suc, ◌+◌, ◌<◌, ◌≤◌, false, if◌then◌else◌, List, [], ◌∷◌, length, slice_index_or, sym, refl, ap, ◌∙◌, subst, ⊎_elim, arith, length-append}
use Rattle.std.specs.Prelude.{All, Option, None, Some, is_none}
use Rattle.std.specs.List.{AllPairs}
use Rattle.std.proofs.lemmas.Bool.{MatchBool-at_false, cases_lt, le-ltb, ltb-true, true≢false}
use Rattle.std.proofs.lemmas.Bool.Decides.{nat_tests}
use Rattle.std.proofs.lemmas.List.Elements.{All-append}
use Rattle.std.proofs.lemmas.List.Quantifiers.{all_pairs_push}
use Rattle.board.specs.declared.view.View.{View}
use Rattle.board.specs.Views.{beyond, Draws, DrawsUnlessDry}
use Rattle.board.specs.Rule.{total, occurrences}
use Rattle.board.specs.Drawing.{DrewPieces, DryLeavesNothing, DrewPiecesIsWet, DrawsCount, DrawsAscend, DrawsEnd}
use Rattle.board.proofs.Steps.{all_one}

-- a dry view has a number past the pieces
past_drawn : (pieces : ℕ) (xs : List ℕ) → 0 < beyond pieces xs → (n : ℕ) × (pieces ≤ n) × (0 < occurrences n xs)
past_drawn pieces [] h = absurd (omega arith)
past_drawn pieces (x ∷ xs) h = ⊎_elim
    (λ (inside : x < pieces). let r = past_drawn pieces xs (grind (arith, nat_tests)) in (r.0, r.1, let p = r.2 in omega arith))
    (λ (past : pieces ≤ x). (x, past, grind (arith, nat_tests)))
    (cases_lt x pieces)

total_of_one : (f : View → ℕ) (views : List View) (k : ℕ) (v : View) → k < length views → slice_index_or views k v ≡ v → f v ≤ total f views
total_of_one f [] k v near is = absurd (omega arith)
total_of_one f (u ∷ views) zero v near is = let e : f u ≡ f v = ap f is in omega arith
total_of_one f (u ∷ views) (suc k) v near is = let r = total_of_one f views k v (omega arith) is in omega arith

pub nothing_left : DryLeavesNothing
nothing_left terms words views rule dry x inside =
    let v : View = dry.1 in
    let past = past_drawn terms.pieces v.drawn (ltb-true 0 (beyond terms.pieces v.drawn) dry.4) in
    let n : ℕ = past.0 in
    let some_n = total_of_one (λ (u : View). occurrences n u.drawn) views dry.0 v dry.2 dry.3 in
    let a = rule.drawn n in
    let b = rule.drawn x in
    let c = past.1 in
    let d = past.2 in
    grind (arith, nat_tests)

none_beyond : (pieces : ℕ) (xs : List ℕ) → All (λ x. x < pieces) xs → beyond pieces xs ≡ 0
none_beyond pieces [] h = refl
none_beyond pieces (x ∷ xs) h =
    let here : x < pieces = h 0 x (omega arith) in
    let r = none_beyond pieces xs (λ k d near. h (suc k) d (omega arith)) in
    grind (arith, nat_tests)

-- different numbers from `low` on, below `high`, are no more than lie between the two
ascending_few : (low high : ℕ) (xs : List ℕ) → low ≤ high → All (λ x. low ≤ x) xs → All (λ x. x < high) xs → AllPairs (λ x y. x < y) xs → length xs + low ≤ high
ascending_few low high [] room above below up = omega arith
ascending_few low high (x ∷ xs) room above below up =
    let from : low ≤ x = above 0 x (omega arith) in
    let to : x < high = below 0 x (omega arith) in
    let r = ascending_few (x + 1) high xs (omega arith)
    (λ k d near. let lt : x < slice_index_or xs k d = up 0 (suc k) d (omega arith) (omega arith) in omega arith)
    (λ k d near. below (suc k) d (omega arith))
    (λ i j d lt near. up (suc i) (suc j) d (omega arith) (omega arith)) in
    omega arith

pub draws_end : DrawsEnd
draws_end pieces v h = let r = ascending_few 0 pieces v.drawn (omega arith) (λ k d near. omega arith) h.inside h.ascending in omega arith

pub wet : DrewPiecesIsWet
wet pieces v h = let none_out = none_beyond pieces v.drawn h.inside in grind (arith, nat_tests)

module _ (pieces : ℕ) (v w : View) (answer : Option ℕ) (h : DrewPieces pieces v) (told : DrawsUnlessDry pieces v answer w) where
  drew : Draws pieces v answer w
  drew = MatchBool-at_false ((w ≡ v) × (answer ≡ None)) (Draws pieces v answer w) (wet pieces v h) told

  one_more : length w.drawn ≡ length v.drawn + 1
  one_more =
      let d = drew in
      let long = length-append v.drawn (d.0 ∷ []) in
      ap (λ (u : View). length u.drawn) d.1 ∙ (omega arith)

  one_above : is_none answer ≡ false → DrewPieces pieces w
  one_above some_piece =
      let d = drew in
      let n : ℕ = d.0 in
      let inside : n < pieces = ⊎_elim (λ (is : n < pieces). is)
      (λ (past : pieces ≤ n).
      let none_left : answer ≡ None = d.3 ∙ ap (λ b. if b then Some n else None) (le-ltb n pieces past) in
      absurd (true≢false (sym (ap is_none none_left) ∙ some_piece))) (cases_lt n pieces) in
      subst (DrewPieces pieces) (sym d.1) (record {
        ascending = all_pairs_push (λ x y. x < y) v.drawn n h.ascending (λ k e near. d.2 k e near);
        inside = All-append (λ x. x < pieces) v.drawn (n ∷ []) h.inside (all_one (λ x. x < pieces) n inside);
      })

pub draws_count : DrawsCount
draws_count = one_more

pub draws_ascend : DrawsAscend
draws_ascend = one_above
