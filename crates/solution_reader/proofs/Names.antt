-- Names and the map of their numbers.
use Rattle.std.proofs.Common.{◌≡◌, ℕ, suc, ◌+◌, ◌-◌, ◌<◌, ◌≤◌, Bool, true, false, cond, if◌then◌else◌, List, [], ◌∷◌, ◌++◌, length, get_or, map, Option, Some, None, refl, sym, ◌∙◌, ap, arith, add-zero}
use Rattle.std.proofs.lemmas.Bool.Decides.{same_from_decides}
use Rattle.std.proofs.lemmas.Iterator.Adapters.{position_from-zero}
use Rattle.std.proofs.lemmas.Map.Text.{btree_map_updates_str}
use Rattle.std.proofs.lemmas.Slice.Eq.{bytes_eq-Decides}
use Rattle.std.specs.Borrow.{Bor}
use Rattle.std.specs.BTreeMap.{BTreeMap, UpdatesBy}
use Rattle.std.specs.Cmp.Lexicographic.{slice_cmp}
use Rattle.std.specs.List.{list_any, position_from}
use Rattle.std.specs.Map.{update}
use Rattle.std.specs.Option.{option_or, is_some, IfSome}
use Rattle.std.specs.Ordering.{nat_cmp}
use Rattle.std.specs.Prelude.{find}
use Rattle.std.specs.Str.{bytes_eq}
use Rattle.machine_data.specs.Opcodes.{same_word}
use Rattle.solution_reader.specs.Data.{has_name, number_of_name}
use Rattle.solution_reader.specs.inner.Numbered.{known_at, AreNumbers}

-- words

same_word-yes : (xs ys : List ℕ) → same_word xs ys ≡ true → xs ≡ ys
same_word-yes xs ys h = (bytes_eq-Decides xs ys).0 h

same_word-sym : (xs ys : List ℕ) → same_word xs ys ≡ same_word ys xs
same_word-sym xs ys = same_from_decides _ _ (bytes_eq-Decides xs ys) ((λ h. sym ((bytes_eq-Decides ys xs).0 h)), (λ h. (bytes_eq-Decides ys xs).1 (sym h)))

option_or-none : {T : Type 0} (a : Option T) → option_or a None ≡ a
option_or-none None = refl
option_or-none (Some x) = refl

-- numbers of names

push-at : {K : Type 0} (t : K → Bool) (i : ℕ) (y : K) (ys : List K) (x : K) (b : Bool) → t y ≡ b
    → position_from t (i + 1) (ys ++ x ∷ []) ≡ option_or (position_from t (i + 1) ys) (if t x then Some (i + 1 + length ys) else None)
    → position_from t i ((y ∷ ys) ++ x ∷ []) ≡ option_or (position_from t i (y ∷ ys)) (if t x then Some (i + length (y ∷ ys)) else None)
push-at t i y ys x true h ih = rw h refl
push-at t i y ys x false h ih =
    let same : i + 1 + length ys ≡ i + suc (length ys) = omega arith in
    rw h (ih ∙ ap (λ n. option_or (position_from t (i + 1) ys) (if t x then Some n else None)) same)

push-from : {K : Type 0} (t : K → Bool) (i : ℕ) (xs : List K) (x : K)
    → position_from t i (xs ++ x ∷ []) ≡ option_or (position_from t i xs) (if t x then Some (i + length xs) else None)
push-from t i [] x = ap (λ n. if t x then Some n else None) (sym (add-zero i))
push-from t i (y ∷ ys) x = push-at t i y ys x (t y) refl (push-from t (i + 1) ys x)

number-from : (names : List (List ℕ)) (q : List ℕ) → number_of_name names q ≡ position_from (same_word q) 0 names
number-from names q = position_from-zero (same_word q) names

pub number-push : (names : List (List ℕ)) (name q : List ℕ) → number_of_name (names ++ name ∷ []) q ≡ option_or (number_of_name names q) (if same_word q name then Some (length names) else None)
number-push names name q =
    let zero_first : 0 + length names ≡ length names = omega arith in
    number-from (names ++ name ∷ []) q
    ∙ push-from (same_word q) 0 names name
    ∙ ap (λ n. option_or (position_from (same_word q) 0 names) (if same_word q name then Some n else None)) zero_first
    ∙ ap (λ o. option_or o (if same_word q name then Some (length names) else None)) (sym (number-from names q))

-- whether a name is there

any-at : {K : Type 0} (t : K → Bool) (i : ℕ) (x : K) (xs : List K) (b : Bool) → t x ≡ b → is_some (position_from t (i + 1) xs) ≡ list_any t xs → is_some (position_from t i (x ∷ xs)) ≡ list_any t (x ∷ xs)
any-at t i x xs true h ih = rw h refl
any-at t i x xs false h ih = rw h ih

any-from : {K : Type 0} (t : K → Bool) (i : ℕ) (xs : List K) → is_some (position_from t i xs) ≡ list_any t xs
any-from t i [] = refl
any-from t i (x ∷ xs) = any-at t i x xs (t x) refl (any-from t (i + 1) xs)

has-number : (names : List (List ℕ)) (q : List ℕ) → is_some (number_of_name names q) ≡ has_name names q
has-number names q = ap is_some (number-from names q) ∙ any-from (same_word q) 0 names

pub has_known : (names : List (List ℕ)) (numbers : BTreeMap (Bor (List ℕ)) ℕ) (q : List ℕ) → AreNumbers names numbers → is_some (known_at numbers q) ≡ has_name names q
has_known names numbers q are = ap is_some (are.each q) ∙ has-number names q

pub none-known : {T : Type 0} (o : Option T) → is_some o ≡ false → o ≡ None
none-known None h = refl
none-known (Some x) h = cc

pub absent_known : (names : List (List ℕ)) (numbers : BTreeMap (Bor (List ℕ)) ℕ) (q : List ℕ) → AreNumbers names numbers → has_name names q ≡ false → known_at numbers q ≡ None
absent_known names numbers q are h = none-known (known_at numbers q) (has_known names numbers q are ∙ h)

-- a name is added

-- a map with one more name
pub added : {X : Type 0} (old new : List ℕ → Option X) (name : List ℕ) (what : X) → old name ≡ None
    → ((q : List ℕ) → new q ≡ update bytes_eq old name (Some what) q)
    → (q : List ℕ) → new q ≡ option_or (old q) (if same_word q name then Some what else None)
added {X} old new name what none is q =
    let by_case : (b : Bool) → same_word q name ≡ b → new q ≡ option_or (old q) (if b then Some what else None) = λ b.
    elim b as (λ b. same_word q name ≡ b → new q ≡ option_or (old q) (if b then Some what else None)) [
      | true ↦ λ h. is q ∙ ap (λ t. cond t (Some what) (old q)) (same_word-sym name q ∙ h) ∙ ap (λ o. option_or o (Some what)) (sym none ∙ ap old (sym (same_word-yes q name h)))
      | false ↦ λ h. is q ∙ ap (λ t. cond t (Some what) (old q)) (same_word-sym name q ∙ h) ∙ sym (option_or-none (old q))
    ] in
    by_case (same_word q name) refl

pub added_known : (old new : BTreeMap (Bor (List ℕ)) ℕ) (name : List ℕ) (number : ℕ) → known_at old name ≡ None
    → UpdatesBy (λ (x y : Bor (List ℕ)). slice_cmp nat_cmp x.now y.now) (λ k. slice_cmp nat_cmp name k.now) old new (Some number)
    → (q : List ℕ) → known_at new q ≡ option_or (known_at old q) (if same_word q name then Some number else None)
added_known old new name number none updates = added (known_at old) (known_at new) name number none (btree_map_updates_str name old new _ updates)

-- the map with one more name has the numbers with one more
pub more_numbers : (names more : List (List ℕ)) (old new : BTreeMap (Bor (List ℕ)) ℕ) (name : List ℕ) (number : ℕ) → AreNumbers names old → number ≡ length names → more ≡ names ++ name ∷ []
    → ((q : List ℕ) → known_at new q ≡ option_or (known_at old q) (if same_word q name then Some number else None))
    → AreNumbers more new
more_numbers names more old new name number are count is_more known = record {
  each = λ q.
      known q
      ∙ ap (λ o. option_or o (if same_word q name then Some number else None)) (are.each q)
      ∙ ap (λ n. option_or (number_of_name names q) (if same_word q name then Some n else None)) count
      ∙ sym (number-push names name q)
      ∙ ap (λ ns. number_of_name ns q) (sym is_more);
}

-- what stands at a number

pub record IsFound {A : Type 0} (f : A → List ℕ) (q : List ℕ) (xs : List A) (d : A) (i k : ℕ) : Type 0 where
  pub low : i ≤ k
  pub high : k < i + length xs
  pub is : find (λ x. same_word q (f x)) xs ≡ Some (get_or xs (k - i) d)

found-at : {A : Type 0} (f : A → List ℕ) (q : List ℕ) (d : A) (i k : ℕ) (x : A) (xs : List A) (b : Bool) → same_word q (f x) ≡ b
    → (position_from (same_word q) (i + 1) (map f xs) ≡ Some k → IsFound f q xs d (i + 1) k)
    → position_from (same_word q) i (map f (x ∷ xs)) ≡ Some k → IsFound f q (x ∷ xs) d i k
found-at f q d i k x xs true h ih e =
    let here : Some i ≡ Some k = rw h at e in
    let same : i ≡ k = cc in
    let none : k - i ≡ 0 = omega arith in
    record { low = omega arith; high = omega arith; is = rw (h, none) refl }
found-at f q d i k x xs false h ih e =
    let there : position_from (same_word q) (i + 1) (map f xs) ≡ Some k = rw h at e in
    let later = ih there in
    let low : i + 1 ≤ k = later.low in
    let high : k < i + 1 + length xs = later.high in
    let next : k - i ≡ suc (k - (i + 1)) = omega arith in
    record { low = omega arith; high = omega arith; is = rw (h, next) later.is }

found-from : {A : Type 0} (f : A → List ℕ) (q : List ℕ) (d : A) (i k : ℕ) (xs : List A) → position_from (same_word q) i (map f xs) ≡ Some k → IsFound f q xs d i k
found-from f q d i k [] e = absurd (let no : None ≡ Some k = e in cc)
found-from f q d i k (x ∷ xs) e = found-at f q d i k x xs (same_word q (f x)) refl (found-from f q d (i + 1) k xs) e

lost-at : {A : Type 0} (f : A → List ℕ) (q : List ℕ) (i : ℕ) (x : A) (xs : List A) (b : Bool) → same_word q (f x) ≡ b
    → (position_from (same_word q) (i + 1) (map f xs) ≡ None → find (λ x. same_word q (f x)) xs ≡ None)
    → position_from (same_word q) i (map f (x ∷ xs)) ≡ None → find (λ x. same_word q (f x)) (x ∷ xs) ≡ None
lost-at f q i x xs true h ih e = let no : Some i ≡ None = rw h at e in cc
lost-at f q i x xs false h ih e = rw h (ih (rw h at e))

lost-from : {A : Type 0} (f : A → List ℕ) (q : List ℕ) (i : ℕ) (xs : List A) → position_from (same_word q) i (map f xs) ≡ None → find (λ x. same_word q (f x)) xs ≡ None
lost-from f q i [] e = refl
lost-from f q i (x ∷ xs) e = lost-at f q i x xs (same_word q (f x)) refl (lost-from f q (i + 1) xs) e

-- by the map
pub found_known : {A : Type 0} (f : A → List ℕ) (q : List ℕ) (d : A) (numbers : BTreeMap (Bor (List ℕ)) ℕ) (k : ℕ) (xs : List A) → AreNumbers (map f xs) numbers → known_at numbers q ≡ Some k
    → (k < length xs) × (find (λ x. same_word q (f x)) xs ≡ Some (get_or xs k d))
found_known f q d numbers k xs are e =
    let found = found-from f q d 0 k xs (sym (number-from (map f xs) q) ∙ sym (are.each q) ∙ e) in
    let high : k < 0 + length xs = found.high in
    let same : k - 0 ≡ k = omega arith in
    (omega arith, rw same at found.is)

pub lost_known : {A : Type 0} (f : A → List ℕ) (q : List ℕ) (numbers : BTreeMap (Bor (List ℕ)) ℕ) (xs : List A) → AreNumbers (map f xs) numbers → known_at numbers q ≡ None
    → find (λ x. same_word q (f x)) xs ≡ None
lost_known f q numbers xs are e = lost-from f q 0 xs (sym (number-from (map f xs) q) ∙ sym (are.each q) ∙ e)

-- a number of names is below how many there are
pub known_below : {A : Type 0} (f : A → List ℕ) (q : List ℕ) (d : A) (numbers : BTreeMap (Bor (List ℕ)) ℕ) (k : ℕ) (xs : List A) → AreNumbers (map f xs) numbers → known_at numbers q ≡ Some k → k < length xs
known_below f q d numbers k xs are e = (found_known f q d numbers k xs are e).0

pub known_within : {A : Type 0} (f : A → List ℕ) (q : List ℕ) (d : A) (numbers : BTreeMap (Bor (List ℕ)) ℕ) (xs : List A) (o : Option ℕ) → AreNumbers (map f xs) numbers → o ≡ known_at numbers q → IfSome o (λ k. k < length xs)
known_within f q d numbers xs None are e = tt
known_within f q d numbers xs (Some k) are e = known_below f q d numbers k xs are (sym e)
