-- Names and their numbers.
use Rattle.std.proofs.Common.{◌≡◌, ℕ, suc, ◌+◌, ◌<◌, Bool, true, false, List, [], ◌∷◌, ◌++◌, length, refl, sym, ap, ◌∙◌, arith, Decides, if◌then◌else◌}
use Rattle.std.specs.Prelude.{◌||◌, ◌==◌, nat_lt}
use Rattle.std.proofs.lemmas.Bool.{false≢true, false_from_ne_true, eq-eqb, eqb-true}
use Rattle.std.proofs.lemmas.Bool.Decides.{same_from_decides, Decides-ltb}
use Rattle.std.proofs.lemmas.Slice.Eq.{bytes_eq-Decides}
use Rattle.machine_data.specs.Opcodes.{same_word}
use Rattle.problem_tables.specs.Names.{has_name, index_of}

-- texts

pub same_word-Decides : (xs ys : List ℕ) → Decides (same_word xs ys) (xs ≡ ys)
same_word-Decides xs ys = bytes_eq-Decides xs ys

pub same_word-here : (xs : List ℕ) → same_word xs xs ≡ true
same_word-here xs = (same_word-Decides xs xs).1 refl

pub same_word-yes : (xs ys : List ℕ) → same_word xs ys ≡ true → xs ≡ ys
same_word-yes xs ys h = (same_word-Decides xs ys).0 h

pub same_word-sym : (xs ys : List ℕ) → same_word xs ys ≡ same_word ys xs
same_word-sym xs ys = same_from_decides _ _ (same_word-Decides xs ys) ((λ h. sym ((same_word-Decides ys xs).0 h)), (λ h. (same_word-Decides ys xs).1 (sym h)))

-- the number of a name by whether it is there

pub record IsPlace (has : Bool) (index count : ℕ) : Type 0 where
  pub known : has ≡ true → index < count
  pub absent : has ≡ false → index ≡ count

place-more : (here has : Bool) (index count : ℕ) → IsPlace has index count → IsPlace (here || has) (if here then 0 else index + 1) (suc count)
place-more true has index count h = record { known = λ e. omega arith; absent = λ e. absurd (false≢true (sym e)) }
place-more false has index count h = record { known = λ e. let k = h.known e in omega (arith, k); absent = λ e. let k = h.absent e in omega (arith, k) }

pub place : (names : List (List ℕ)) (q : List ℕ) → IsPlace (has_name names q) (index_of names q) (length names)
place [] q = record { known = λ e. absurd (false≢true e); absent = λ e. refl }
place (x ∷ xs) q = place-more (same_word q x) (has_name xs q) (index_of xs q) (length xs) (place xs q)

below-if : (has : Bool) (index count : ℕ) → IsPlace has index count → nat_lt index count ≡ has
below-if true index count h = (Decides-ltb index count).1 (h.known refl)
below-if false index count h = false_from_ne_true (nat_lt index count) (λ e. let below : index < count = (Decides-ltb index count).0 e in let same = h.absent refl in omega (arith, below, same))

-- a name is there just where its number is that of one
pub below-has : (names : List (List ℕ)) (q : List ℕ) → nat_lt (index_of names q) (length names) ≡ has_name names q
below-has names q = below-if (has_name names q) (index_of names q) (length names) (place names q)

-- more names

more-step : (here has : Bool) (i j : ℕ) → (has ≡ true → j ≡ i) → (here || has) ≡ true → (if here then 0 else j + 1) ≡ (if here then 0 else i + 1)
more-step true has i j h e = refl
more-step false has i j h e = ap (λ n. n + 1) (h e)

pub index-more : (names more : List (List ℕ)) (q : List ℕ) → has_name names q ≡ true → index_of (names ++ more) q ≡ index_of names q
index-more [] more q e = absurd (false≢true e)
index-more (x ∷ xs) more q e = more-step (same_word q x) (has_name xs q) (index_of xs q) (index_of (xs ++ more) q) (index-more xs more q) e

-- names that there are have different numbers

same-step : (a b : Bool) (x y first : List ℕ) (hasx hasy : Bool) (i j : ℕ) → (a ≡ true → x ≡ first) → (b ≡ true → y ≡ first) → (a || hasx) ≡ true → (b || hasy) ≡ true
    → (hasx ≡ true → hasy ≡ true → i ≡ j → x ≡ y) → (if a then 0 else i + 1) ≡ (if b then 0 else j + 1) → x ≡ y
same-step true true x y first hasx hasy i j p q hx hy h e = p refl ∙ sym (q refl)
same-step true false x y first hasx hasy i j p q hx hy h e = absurd (omega (arith, e))
same-step false true x y first hasx hasy i j p q hx hy h e = absurd (omega (arith, e))
same-step false false x y first hasx hasy i j p q hx hy h e = h hx hy (omega (arith, e))

pub index-same : (names : List (List ℕ)) (x y : List ℕ) → has_name names x ≡ true → has_name names y ≡ true → index_of names x ≡ index_of names y → x ≡ y
index-same [] x y hx hy e = absurd (false≢true hx)
index-same (first ∷ names) x y hx hy e =
    same-step (same_word x first) (same_word y first) x y first (has_name names x) (has_name names y) (index_of names x) (index_of names y)
    (same_word-yes x first) (same_word-yes y first) hx hy (index-same names x y) e

pub index-tells : (names : List (List ℕ)) (x y : List ℕ) → has_name names x ≡ true → has_name names y ≡ true → (index_of names x == index_of names y) ≡ same_word x y
index-tells names x y hx hy =
    same_from_decides _ _
    ((λ h. index-same names x y hx hy (eqb-true (index_of names x) (index_of names y) h)), (λ e. eq-eqb (index_of names x) (index_of names y) (ap (index_of names) e)))
    (same_word-Decides x y)
