-- Pieces cover the intervals of all loops.
use Rattle.std.proofs.Common.{◌≡◌, ℕ, zero, suc, ◌+◌, ◌<◌, ◌≤◌, sym, ap, ◌∙◌, subst, arith}
use Rattle.std.specs.Prelude.{◌*◌, ◌/◌, ◌%◌, min}
use Rattle.std.proofs.lemmas.Nat.{div-mul-add, mod-mul-add}
use Rattle.std.proofs.Math.Nat.{div-mul-le_self, lt-div-mul-add, le-div_iff_mul-le, mul-le-mul_right, mul_comm, add-mul, one-mul, zero-mul, div-add-mod, div-lt_iff_lt-mul}
use Rattle.loop_listings.specs.Pieces.{PiecesData, EachInOnePiece, NoneIsEmpty, IsCutting, IsIn, groups_of, piece_count}

-- an interval of a loop is in a piece
pub some_piece : (pieces : PiecesData) (l above : ℕ) → IsCutting pieces → l < pieces.loops → above ≤ pieces.ceiling → (p : ℕ) × IsIn pieces p l above
some_piece pieces l above cutting near few =
    let g : ℕ = above / pieces.cut in
    let p : ℕ = g * pieces.loops + l in
    let some : 0 < pieces.cut = let c = cutting.cut_some in omega arith in
    let d : p / pieces.loops ≡ g = div-mul-add g pieces.loops l near in
    let m : p % pieces.loops ≡ l = mod-mul-add g pieces.loops l near in
    let low : g * pieces.cut ≤ above = div-mul-le_self above pieces.cut in
    let high : above < g * pieces.cut + pieces.cut = lt-div-mul-add some in
    let more : (g + 1) * pieces.cut ≡ g * pieces.cut + pieces.cut = one_more g pieces.cut in
    let up : (g + 1) * pieces.cut ≤ pieces.ceiling + pieces.cut = omega arith in
    let enough : g + 1 ≤ groups_of pieces = (le-div_iff_mul-le {k = pieces.cut} {x = g + 1} {y = pieces.ceiling + pieces.cut} some).1 up in
    let last : (g + 1) * pieces.loops ≤ groups_of pieces * pieces.loops = mul-le-mul_right pieces.loops enough in
    let wide : (g + 1) * pieces.loops ≡ g * pieces.loops + pieces.loops = one_more g pieces.loops in
    let turned : groups_of pieces * pieces.loops ≡ piece_count pieces = mul_comm (groups_of pieces) pieces.loops in (
      p,
      record {
        there = omega arith;
        its_loop = m;
        from_start = subst (λ k. k * pieces.cut ≤ above) (sym d) low;
        before_end = subst (λ k. above < min ((k + 1) * pieces.cut) (pieces.ceiling + 1)) (sym d) (least_of_two above ((g + 1) * pieces.cut) (pieces.ceiling + 1) (omega arith) (omega arith));
      },
    )
  where
    one_more : (g k : ℕ) → (g + 1) * k ≡ g * k + k
    one_more g k = add-mul g 1 k ∙ ap (λ n. g * k + n) (one-mul k)

    least_of_two : (x a b : ℕ) → x < a → x < b → x < min a b
    least_of_two x a b h k = omega arith

-- and in no other
pub one_piece : (pieces : PiecesData) (l above p q : ℕ) → IsCutting pieces → l < pieces.loops → IsIn pieces p l above → IsIn pieces q l above → q ≡ p
one_piece pieces l above p q cutting near a b = whole q b ∙ sym (whole p a)
  where
    least_le : (x a b : ℕ) → x < min a b → x < a
    least_le x a b h = omega arith

    quotient : (p : ℕ) → IsIn pieces p l above → above / pieces.cut ≡ p / pieces.loops
    quotient p h =
        let some : 0 < pieces.cut = let c = cutting.cut_some in omega arith in
        let low : p / pieces.loops ≤ above / pieces.cut = (le-div_iff_mul-le {k = pieces.cut} {x = p / pieces.loops} {y = above} some).1 h.from_start in
        let high : above / pieces.cut < p / pieces.loops + 1 = (div-lt_iff_lt-mul {k = pieces.cut} {x = above} {y = p / pieces.loops + 1} some).1 (least_le above ((p / pieces.loops + 1) * pieces.cut) (pieces.ceiling + 1) h.before_end) in
        omega arith

    whole : (p : ℕ) → IsIn pieces p l above → p ≡ pieces.loops * (above / pieces.cut) + l
    whole p h = sym (div-add-mod p pieces.loops) ∙ ap (λ r. pieces.loops * (p / pieces.loops) + r) h.its_loop ∙ ap (λ d. pieces.loops * d + l) (sym (quotient p h))

pub each_in_one_piece : (pieces : PiecesData) → IsCutting pieces → EachInOnePiece pieces
each_in_one_piece pieces cutting l above near few =
    let k = some_piece pieces l above cutting near few in
    (k.0, k.1, λ q is. one_piece pieces l above k.0 q cutting near k.1 is)

pub none_is_empty : (pieces : PiecesData) → IsCutting pieces → NoneIsEmpty pieces
none_is_empty pieces cutting p near =
    let some : 0 < pieces.cut = let c = cutting.cut_some in omega arith in
    let loops : 0 < pieces.loops = some_loop pieces.loops near in
    let g : ℕ = p / pieces.loops in
    let within : g < groups_of pieces = (div-lt_iff_lt-mul {k = pieces.loops} {x = p} {y = groups_of pieces} loops).1 (subst (λ n. p < n) (mul_comm pieces.loops (groups_of pieces)) near) in
    let full : (g + 1) * pieces.cut ≤ pieces.ceiling + pieces.cut = (le-div_iff_mul-le {k = pieces.cut} {x = g + 1} {y = pieces.ceiling + pieces.cut} some).0 (omega arith) in
    let more : (g + 1) * pieces.cut ≡ g * pieces.cut + pieces.cut = add-mul g 1 pieces.cut ∙ ap (λ n. g * pieces.cut + n) (one-mul pieces.cut) in
    less_min (g * pieces.cut) ((g + 1) * pieces.cut) (pieces.ceiling + 1) (omega arith) (omega arith)
  where
    less_min : (x a b : ℕ) → x < a → x < b → x < min a b
    less_min x a b h k = omega arith

    less_zero : {m : ℕ} → m ≡ 0 → p < m → ⊥
    less_zero is h = omega arith

    some_loop : (n : ℕ) → p < n * groups_of pieces → 0 < n
    some_loop zero h = absurd (less_zero (zero-mul (groups_of pieces)) h)
    some_loop (suc n) h = omega arith
