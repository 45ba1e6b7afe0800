-- What is made of two lists, place by place, one place more at a time.
use Rattle.std.proofs.Common.{◌≡◌, ℕ, zero, suc, ◌+◌, ◌<◌, ◌≤◌, List, [], ◌∷◌, ◌++◌, length, get_or, min, take, sym, ap, ◌∙◌, subst, zero-add, arith}
use Rattle.std.specs.List.{AllZip, flat_map, range_with_len, zip}
use Rattle.std.proofs.lemmas.List.{flat_map_more, get_or_default, take_all, take_more}
use Rattle.std.proofs.lemmas.List.FromFn.{get_or-range_with_len, length-range_with_len}
use Rattle.std.proofs.lemmas.Slice.Zip.{get_or-zip, length-zip}
use Rattle.lower_bounds.proofs.Texts.{all_zip-push}

abbrev pub zipped : {A B X : Type 0} → (A → B → List X) → List A → List B → List X
zipped f xs ys = flat_map (λ both. f both.0 both.1) (zip xs ys)

-- .. of the first places
abbrev pub zipped_to : {A B X : Type 0} → ℕ → (A → B → List X) → List A → List B → List X
zipped_to i f xs ys = flat_map (λ both. f both.0 both.1) (take i (zip xs ys))

pub zipped-more : {A B X : Type 0} (f : A → B → List X) (xs : List A) (ys : List B) (i : ℕ) (a : A) (b : B) (old mid new : List X) → length ys ≡ length xs → i < length xs
    → a ≡ get_or xs i a → b ≡ get_or ys i b → mid ≡ old ++ zipped_to i f xs ys → new ≡ mid ++ f a b → new ≡ old ++ zipped_to (i + 1) f xs ys
zipped-more {A} {B} f xs ys i a b old mid new same low at_a at_b m n =
    let zs = zip xs ys in
    let long : length zs ≡ min (length xs) (length ys) = length-zip xs ys in
    let here : get_or zs i (a, b) ≡ (a, b) = get_or-zip xs ys i (a, b) low (omega (arith, same)) ∙ (λ k. (sym at_a k, sym at_b k)) in
    n ∙ ap (λ t. t ++ f a b) m ∙ flat_map_more (λ (both : A × B). f both.0 both.1) old (take i zs) (a, b)
    ∙ ap (λ (ps : List (A × B)). old ++ flat_map (λ both. f both.0 both.1) ps)
    (ap (λ (p : A × B). take i zs ++ p ∷ []) (sym here) ∙ sym (take_more zs i (a, b) (omega (arith, long, same))))

-- .. with copies of both
pub zipped-next : {A B X : Type 0} (f : A → B → List X) (xs : List A) (ys : List B) (i : ℕ) (d : A) (e : B) (old mid new : List X) → length ys ≡ length xs → i < length xs
    → mid ≡ old ++ zipped_to i f xs ys → new ≡ mid ++ f (get_or xs i d) (get_or ys i e) → new ≡ old ++ zipped_to (i + 1) f xs ys
zipped-next f xs ys i d e old mid new same low m n =
    let there : i < length ys = omega (arith, same) in
    zipped-more f xs ys i (get_or xs i d) (get_or ys i e) old mid new same low (get_or_default xs i d (get_or xs i d) low) (get_or_default ys i e (get_or ys i e) there) m n

pub zipped-all : {A B X : Type 0} (f : A → B → List X) (xs : List A) (ys : List B) (i : ℕ) (old new : List X) → length xs ≤ i → new ≡ old ++ zipped_to i f xs ys → new ≡ old ++ zipped f xs ys
zipped-all {A} {B} f xs ys i old new high n =
    let long : length (zip xs ys) ≡ min (length xs) (length ys) = length-zip xs ys in
    n ∙ ap (λ (ps : List (A × B)). old ++ flat_map (λ both. f both.0 both.1) ps) (take_all i (zip xs ys) (omega (arith, long)))

-- one more is right
pub each-more : {A B : Type 0} (R : A → B → Type 0) (xs : List A) (ys new : List B) (i : ℕ) (a : A) (b : B) → i < length xs → a ≡ get_or xs i a → AllZip R (take i xs) ys → R a b
    → new ≡ ys ++ b ∷ [] → AllZip R (take (i + 1) xs) new
each-more {A} {B} R xs ys new i a b low at are is n =
    subst (λ (zs : List B). AllZip R (take (i + 1) xs) zs) (sym n)
    (subst (λ (zs : List A). AllZip R zs (ys ++ b ∷ [])) (ap (λ q. take i xs ++ q ∷ []) at ∙ sym (take_more xs i a low)) (all_zip-push R (take i xs) ys a b are is))

-- .. with a copy
pub each-next : {A B : Type 0} (R : A → B → Type 0) (xs : List A) (ys new : List B) (i : ℕ) (d : A) (b : B) → i < length xs → AllZip R (take i xs) ys → R (get_or xs i d) b
    → new ≡ ys ++ b ∷ [] → AllZip R (take (i + 1) xs) new
each-next R xs ys new i d b low are is n = each-more R xs ys new i (get_or xs i d) b low (get_or_default xs i d (get_or xs i d) low) are is n

pub each-all : {A B : Type 0} (R : A → B → Type 0) (xs : List A) (ys : List B) (i : ℕ) → length xs ≤ i → AllZip R (take i xs) ys → AllZip R xs ys
each-all {A} R xs ys i high are = subst (λ (zs : List A). AllZip R zs ys) (take_all i xs high) are

-- the number of a place
pub number-at : (n i : ℕ) → i < n → i ≡ get_or (range_with_len 0 n) i i
number-at n i low = sym (get_or-range_with_len 0 n i i low ∙ zero-add i)

pub numbers-long : {A : Type 0} (xs : List A) → length (range_with_len 0 (length xs)) ≡ length xs
numbers-long xs = length-range_with_len 0 (length xs)

-- what is right at a place
pub each-at : {A B : Type 0} (R : A → B → Type 0) (xs : List A) (ys : List B) (i : ℕ) (d : A) (e : B) → AllZip R xs ys → i < length xs → R (get_or xs i d) (get_or ys i e)
each-at R [] ys i d e h low = absurd (omega (arith, low))
each-at R (x ∷ xs) [] i d e h low = absurd h
each-at R (x ∷ xs) (y ∷ ys) zero d e h low = h.0
each-at R (x ∷ xs) (y ∷ ys) (suc i) d e h low = each-at R xs ys i d e h.1 (omega (arith, low))
