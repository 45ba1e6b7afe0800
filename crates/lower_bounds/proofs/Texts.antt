-- Texts of things, one more at a time.
use Rattle.std.proofs.Common.{◌≡◌, ℕ, ◌+◌, ◌<◌, List, [], ◌∷◌, ◌++◌, length, map, get_or, take, refl, sym, ap, ◌∙◌, subst, append_assoc, arith}
use Rattle.std.specs.List.{AllZip, flat_map, range_with_len, zip}
use Rattle.std.proofs.lemmas.List.{append-nil, flat_map_more, take_more}
use Rattle.std.proofs.lemmas.List.FromFn.{map-range_with_len_more}
use Rattle.writing.proofs.Beginnings.{two_pushed}
use Rattle.lower_bounds.specs.Texts.{AreTexts}

pub all_zip-push : {A B : Type 0} (R : A → B → Type 0) (xs : List A) (ys : List B) (x : A) (y : B) → AllZip R xs ys → R x y → AllZip R (xs ++ x ∷ []) (ys ++ y ∷ [])
all_zip-push R [] [] x y h r = (r, tt)
all_zip-push R [] (b ∷ ys) x y h r = absurd h
all_zip-push R (a ∷ xs) [] x y h r = absurd h
all_zip-push R (a ∷ xs) (b ∷ ys) x y h r = (h.0, all_zip-push R xs ys x y h.1 r)

abbrev pub zipped : {A B : Type 0} → (A → B → List ℕ) → List A → List B → List ℕ
zipped f xs ys = flat_map (λ both. f both.0 both.1) (zip xs ys)

pub zipped-push : {A B : Type 0} (R : A → B → Type 0) (f : A → B → List ℕ) (xs : List A) (ys : List B) (x : A) (y : B) → AllZip R xs ys
    → zipped f (xs ++ x ∷ []) (ys ++ y ∷ []) ≡ zipped f xs ys ++ f x y
zipped-push R f [] [] x y h = append-nil (f x y)
zipped-push R f [] (b ∷ ys) x y h = absurd h
zipped-push R f (a ∷ xs) [] x y h = absurd h
zipped-push R f (a ∷ xs) (b ∷ ys) x y h =
    ap (λ rest. f a b ++ rest) (zipped-push R f xs ys x y h.1) ∙ sym (append_assoc (f a b) (zipped f xs ys) (f x y))

pub texts-push : {A B : Type 0} (R : A → B → Type 0) (f : A → B → List ℕ) (xs : List A) (text : List ℕ) (x : A) (y : B) → AreTexts R f xs text → R x y
    → AreTexts R f (xs ++ x ∷ []) (text ++ f x y)
texts-push R f xs text x y h r = record {
  values = h.values ++ y ∷ [];
  are_right = all_zip-push R xs h.values x y h.are_right r;
  is_text = ap (λ t. t ++ f x y) h.is_text ∙ sym (zipped-push R f xs h.values x y h.are_right);
}

-- the step of a loop over things
pub texts-more : {A B : Type 0} (R : A → B → Type 0) (f : A → B → List ℕ) (xs : List A) (i : ℕ) (d : A) (text : List ℕ) (y : B) → i < length xs
    → AreTexts R f (take i xs) text → R (get_or xs i d) y → AreTexts R f (take (i + 1) xs) (text ++ f (get_or xs i d) y)
texts-more {A = A} R f xs i d text y within h r =
    subst (λ (zs : List A). AreTexts R f zs (text ++ f (get_or xs i d) y)) (sym (take_more xs i d within)) (texts-push R f (take i xs) text (get_or xs i d) y h r)

-- .. over things that are read by reference
pub texts-item : {A B : Type 0} (R : A → B → Type 0) (f : A → B → List ℕ) (xs : List A) (i : ℕ) (x : A) (text : List ℕ) (y : B) → i < length xs → x ≡ get_or xs i x
    → AreTexts R f (take i xs) text → R x y → AreTexts R f (take (i + 1) xs) (text ++ f x y)
texts-item {A = A} R f xs i x text y within is h r =
    subst (λ (z : A). AreTexts R f (take (i + 1) xs) (text ++ f z y)) (sym is) (texts-more R f xs i x text y within h (subst (λ (z : A). R z y) is r))

-- .. over things that are those of another list, after a text
pub text-next : {A B : Type 0} (R : A → B → Type 0) (f : A → B → List ℕ) (xs ys : List A) (i : ℕ) (d : A) (old mid new before : List ℕ) (y : B) → xs ≡ ys → i < length xs
    → AreTexts R f (take i ys) before → mid ≡ old ++ before → R (get_or xs i d) y → new ≡ mid ++ f (get_or xs i d) y
    → (part : List ℕ) × AreTexts R f (take (i + 1) ys) part × (new ≡ old ++ part)
text-next {A = A} R f xs ys i d old mid new before y same within are e r n =
    let at : get_or xs i d ≡ get_or ys i d = ap (λ (zs : List A). get_or zs i d) same in
    let there : i < length ys = subst (λ (zs : List A). i < length zs) same within in (
      before ++ f (get_or ys i d) y,
      texts-more R f ys i d before y there are (subst (λ (x : A). R x y) at r),
      two_pushed old before (f (get_or ys i d) y) mid new e (n ∙ ap (λ (x : A). mid ++ f x y) at),
    )

map-same : (xs : List ℕ) → map (λ x. x) xs ≡ xs
map-same [] = refl
map-same (x ∷ xs) = ap (λ ys. x ∷ ys) (map-same xs)

range-push : (a n k : ℕ) → a + n ≡ k → range_with_len a (n + 1) ≡ range_with_len a n ++ k ∷ []
range-push a n k e = sym (map-same (range_with_len a (n + 1))) ∙ map-range_with_len_more (λ x. x) a n k e ∙ ap (λ xs. xs ++ k ∷ []) (map-same (range_with_len a n))

pub numbers-push : (n : ℕ) → range_with_len 0 (n + 1) ≡ range_with_len 0 n ++ n ∷ []
numbers-push n = range-push 0 n n (omega arith)

-- the step of a loop over numbers
pub texts-next : {B : Type 0} (R : ℕ → B → Type 0) (f : ℕ → B → List ℕ) (n : ℕ) (text : List ℕ) (y : B) → AreTexts R f (range_with_len 0 n) text → R n y
    → AreTexts R f (range_with_len 0 (n + 1)) (text ++ f n y)
texts-next R f n text y h r = subst (λ (ns : List ℕ). AreTexts R f ns (text ++ f n y)) (sym (numbers-push n)) (texts-push R f (range_with_len 0 n) text n y h r)

-- .. from a number on
pub row-more : {B : Type 0} (R : ℕ → B → Type 0) (f : ℕ → B → List ℕ) (a n : ℕ) (text : List ℕ) (y : B) → AreTexts R f (range_with_len a n) text → R (a + n) y
    → AreTexts R f (range_with_len a (n + 1)) (text ++ f (a + n) y)
row-more R f a n text y h r = subst (λ (ns : List ℕ). AreTexts R f ns (text ++ f (a + n) y)) (sym (range-push a n (a + n) refl)) (texts-push R f (range_with_len a n) text (a + n) y h r)

-- the step of a loop that appends a text for each of the first numbers
pub numbered-more : (f : ℕ → List ℕ) (old before new : List ℕ) (k : ℕ) → before ≡ old ++ flat_map f (range_with_len 0 k) → new ≡ before ++ f k
    → new ≡ old ++ flat_map f (range_with_len 0 (k + 1))
numbered-more f old before new k b n =
    n ∙ ap (λ t. t ++ f k) b ∙ flat_map_more f old (range_with_len 0 k) k ∙ ap (λ ns. old ++ flat_map f ns) (sym (numbers-push k))
