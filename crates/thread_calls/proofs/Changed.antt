-- What calls with the last of some items and with the others leave of all.
use Rattle.std.proofs.Common.{◌≡◌, ◌∙◌, ◌<◌, ◌≤◌, ◌+◌, ◌-◌, ◌⊎◌, inl, inr, ℕ, List, ◌++◌, length, get_or, set, MutBor, refl, sym, ap, subst, arith}
use Rattle.std.proofs.lemmas.List.{get_or_append_left, get_or-append_right, get_or_default, get_or-set_same}
use Rattle.std.proofs.lemmas.Bool.{cases_lt}
use Rattle.std.specs.Fn.{Shared}
use Rattle.std.specs.Fork.{ChangesAt, ChangesEach}

module _ {F T : Type 0} (g : Shared F (ℕ × (MutBor T × Unit {0})) ((Unit {0}) × (MutBor T × Unit {0}))) (f : F) where
  -- one item that is changed, whatever it is called before and after
  changed-as : (i j : ℕ) (x x' y y' : T) → i ≡ j → x ≡ x' → y ≡ y' → ChangesAt g f i x y → ChangesAt g f j x' y'
  changed-as i j x x' y y' e p q h =
      subst (λ (b : T). ChangesAt g f j x' b) q (subst (λ (a : T). ChangesAt g f j a y) p (subst (λ (n : ℕ). ChangesAt g f n x y) e h))

  pub changed-last : (xs others own after : List T) (e y : T) (n : ℕ) → xs ≡ others ++ own → length others ≡ n → length own + n ≡ length xs → n + 1 ≡ length xs
      → length after ≡ length others → ChangesEach g f others after → ChangesAt g f n (get_or own 0 e) y → ChangesEach g f xs (after ++ set own 0 y)
  changed-last xs others own after e y n is long whole one same each last = λ i d low. (refl, at i d low (cases_lt i n))
    where
      at : (i : ℕ) (d : T) → i < length xs → (i < n) ⊎ (n ≤ i) → ChangesAt g f i (get_or xs i d) (get_or (after ++ set own 0 y) i d)
      at i d low (inl below) =
          let here : i < length others = omega arith in
          changed-as i i (get_or others i d) (get_or xs i d) (get_or after i d) (get_or (after ++ set own 0 y) i d) refl
          (sym (ap (λ (zs : List T). get_or zs i d) is ∙ get_or_append_left others own d i here))
          (sym (get_or_append_left after (set own 0 y) d i (omega arith))) (each i d here).1
      at i d low (inr above) =
          let there : n ≡ i = omega arith in
          let some : 0 < length own = omega arith in
          let none : i - n ≡ 0 = omega arith in
          changed-as n i (get_or own 0 e) (get_or xs i d) y (get_or (after ++ set own 0 y) i d) there
          (sym (ap (λ (zs : List T). get_or zs i d) is ∙ get_or-append_right others own n i d long above ∙ ap (λ (k : ℕ). get_or own k d) none ∙ get_or_default own 0 d e some))
          (sym (get_or-append_right after (set own 0 y) n i d (omega arith) above ∙ ap (λ (k : ℕ). get_or (set own 0 y) k d) none ∙ get_or-set_same own 0 y d some)) last
