-- The entries of the values of one file.
use Rattle.std.proofs.Common.{◌≡◌, ◌≢◌, ◌⊎◌, ℕ, suc, zero, ◌+◌, ◌<◌, ◌≤◌, Bool, true, false, List, [], ◌∷◌, ◌++◌, length, get_or, set, take, drop, filter, cond, refl, sym, ap, ◌∙◌, inl, inr, arith, append_assoc, append-nil}
use Rattle.std.specs.Prelude.{◌==◌, count_by, slice_get, slice_index}
use Rattle.std.specs.List.{All}
use Rattle.std.proofs.lemmas.Bool.{cases_Bool, cond-true, eqb-true, eq-eqb, ne_eqb}
use Rattle.std.proofs.lemmas.List.{drop_more, take_more, take_more_set, length-take}
use Rattle.std.proofs.lemmas.List.Sums.{length-filter}
use Rattle.std.proofs.lemmas.List.Elements.{All-nil, All-cons, All-head, All-tail}
use Rattle.solutions.specs.Files.{in_file, place_in}

-- one value more

pub in_file-yes : {X : Type 0} (f : ℕ) (files : List ℕ) (file : ℕ) (x : X) (xs : List X) → (f == file) ≡ true → in_file (f ∷ files) file (x ∷ xs) ≡ x ∷ in_file files file xs
in_file-yes f files file x xs hit = rw hit refl

pub in_file-no : {X : Type 0} (f : ℕ) (files : List ℕ) (file : ℕ) (x : X) (xs : List X) → (f == file) ≡ false → in_file (f ∷ files) file (x ∷ xs) ≡ in_file files file xs
in_file-no f files file x xs miss = rw miss refl

pub in_file-append : {X : Type 0} (files others : List ℕ) (file : ℕ) (xs ys : List X) → length xs ≡ length files
    → in_file (files ++ others) file (xs ++ ys) ≡ in_file files file xs ++ in_file others file ys
in_file-append [] others file [] ys long = refl
in_file-append [] others file (x ∷ xs) ys long = absurd (omega arith)
in_file-append (f ∷ files) others file [] ys long = absurd (omega arith)
in_file-append (f ∷ files) others file (x ∷ xs) ys long =
    let rest = in_file-append files others file xs ys (omega arith) in
    elim (cases_Bool (f == file)) [
      | inl hit ↦ rw hit (ap (λ zs. x ∷ zs) rest)
      | inr miss ↦ rw miss rest
    ]

-- how many there are

counted : (files : List ℕ) (file : ℕ) → length (filter (λ other. other == file) files) ≡ count_by (λ other. other == file) files
counted files file = length-filter (λ other. other == file) files

length-kept : {X : Type 0} (files : List ℕ) (file : ℕ) (xs : List X) → length xs ≡ length files → length (in_file files file xs) ≡ length (filter (λ other. other == file) files)
length-kept [] file [] long = refl
length-kept [] file (x ∷ xs) long = absurd (omega arith)
length-kept (f ∷ files) file [] long = absurd (omega arith)
length-kept (f ∷ files) file (x ∷ xs) long =
    let rest = length-kept files file xs (omega arith) in
    elim (cases_Bool (f == file)) [
      | inl hit ↦ rw hit (ap suc rest)
      | inr miss ↦ rw miss rest
    ]

pub length-in_file : {X : Type 0} (files : List ℕ) (file : ℕ) (xs : List X) → length xs ≡ length files → length (in_file files file xs) ≡ count_by (λ other. other == file) files
length-in_file files file xs long = length-kept files file xs long ∙ counted files file

-- what is so of each is so of each in the file
pub All-in_file : {X : Type 0} (P : X → Type 0) (files : List ℕ) (file : ℕ) (xs : List X) → All P xs → All P (in_file files file xs)
All-in_file P [] file xs all = All-nil P
All-in_file P (f ∷ files) file [] all = All-nil P
All-in_file P (f ∷ files) file (x ∷ xs) all =
    let rest = All-in_file P files file xs (All-tail P x xs all) in
    elim (cases_Bool (f == file)) [
      | inl hit ↦ rw hit (All-cons P x (in_file files file xs) (All-head P x xs all) rest)
      | inr miss ↦ rw miss rest
    ]

-- how many values of a file come before a value, counted one by one
abbrev rank : List ℕ → ℕ → ℕ → ℕ
rank files file value = length (filter (λ other. other == file) (take value files))

rank-is : (files : List ℕ) (file value : ℕ) → rank files file value ≡ place_in files file value
rank-is files file value = counted (take value files) file

-- a value of the file stands at its place

at_rank : {X : Type 0} (files : List ℕ) (file value : ℕ) (xs : List X) → length xs ≡ length files → value < length files → slice_index files value ≡ file
    → slice_get (in_file files file xs) (rank files file value) ≡ slice_get xs value
at_rank [] file value xs long lt is = absurd (omega arith)
at_rank (f ∷ files) file value [] long lt is = absurd (omega arith)
at_rank (f ∷ files) file zero (x ∷ xs) long lt is = rw (eq-eqb f file is) refl
at_rank (f ∷ files) file (suc value) (x ∷ xs) long lt is =
    let rest = at_rank files file value xs (omega arith) (omega arith) is in
    elim (cases_Bool (f == file)) [
      | inl hit ↦ rw hit rest
      | inr miss ↦ rw miss rest
    ]

pub at_place : {X : Type 0} (files : List ℕ) (file value : ℕ) (xs : List X) → length xs ≡ length files → value < length files → slice_index files value ≡ file
    → slice_get (in_file files file xs) (place_in files file value) ≡ slice_get xs value
at_place files file value xs long lt is = ap (slice_get (in_file files file xs)) (sym (rank-is files file value)) ∙ at_rank files file value xs long lt is

-- values of one file with one place are one

one_rank : (files : List ℕ) (file v w : ℕ) → v < length files → w < length files → slice_index files v ≡ file → slice_index files w ≡ file
    → rank files file v ≡ rank files file w → v ≡ w
one_rank [] file v w vl wl vf wf same = absurd (omega arith)
one_rank (f ∷ files) file zero zero vl wl vf wf same = refl
one_rank (f ∷ files) file zero (suc w) vl wl vf wf same =
    let e : 0 ≡ suc (rank files file w) = same ∙ ap length (cond-true (f == file) (f ∷ filter (λ other. other == file) (take w files)) (filter (λ other. other == file) (take w files)) (eq-eqb f file vf)) in
    absurd (omega arith)
one_rank (f ∷ files) file (suc v) zero vl wl vf wf same =
    let e : 0 ≡ suc (rank files file v) = sym same ∙ ap length (cond-true (f == file) (f ∷ filter (λ other. other == file) (take v files)) (filter (λ other. other == file) (take v files)) (eq-eqb f file wf)) in
    absurd (omega arith)
one_rank (f ∷ files) file (suc v) (suc w) vl wl vf wf same =
    ap suc (one_rank files file v w (omega arith) (omega arith) vf wf (less (f == file) same))
  where
    less : (b : Bool) → length (cond b (f ∷ filter (λ other. other == file) (take v files)) (filter (λ other. other == file) (take v files)))
        ≡ length (cond b (f ∷ filter (λ other. other == file) (take w files)) (filter (λ other. other == file) (take w files)))
        → rank files file v ≡ rank files file w
    less true e = omega arith
    less false e = e

pub one_place : (files : List ℕ) (file v w : ℕ) → v < length files → w < length files → slice_index files v ≡ file → slice_index files w ≡ file
    → place_in files file v ≡ place_in files file w → v ≡ w
one_place files file v w vl wl vf wf same = one_rank files file v w vl wl vf wf (rank-is files file v ∙ same ∙ sym (rank-is files file w))

-- a place is below the number of the file's values

rank-below : (files : List ℕ) (file value : ℕ) → value < length files → slice_index files value ≡ file → rank files file value < length (filter (λ other. other == file) files)
rank-below [] file value lt is = absurd (omega arith)
rank-below (f ∷ files) file zero lt is = rw (eq-eqb f file is) (omega arith)
rank-below (f ∷ files) file (suc value) lt is =
    let rest = rank-below files file value (omega arith) is in
    elim (cases_Bool (f == file)) [
      | inl hit ↦ rw hit (omega arith)
      | inr miss ↦ rw miss rest
    ]

pub place-below : (files : List ℕ) (file value : ℕ) → value < length files → slice_index files value ≡ file → place_in files file value < count_by (λ other. other == file) files
place-below files file value lt is =
    let r = rank-below files file value lt is in
    let a = rank-is files file value in
    let b = counted files file in
    omega arith

-- where the number of each value of the file is below one, each of them is
pub below-in_file : (files : List ℕ) (file n : ℕ) (xs : List ℕ) → length xs ≡ length files → ((value : ℕ) → value < length files → slice_index files value ≡ file → slice_index xs value < n)
    → All (λ x. x < n) (in_file files file xs)
below-in_file [] file n xs long each = All-nil (λ x. x < n)
below-in_file (f ∷ files) file n [] long each = All-nil (λ x. x < n)
below-in_file (f ∷ files) file n (x ∷ xs) long each =
    let rest = below-in_file files file n xs (omega arith) (λ value lt is. each (suc value) (omega arith) is) in
    elim (cases_Bool (f == file)) [
      | inl hit ↦ rw hit (All-cons (λ y. y < n) x (in_file files file xs) (each 0 (omega arith) (eqb-true f file hit)) rest)
      | inr miss ↦ rw miss rest
    ]

-- entries that are the same for each value of the file
pub same_in_file : (files : List ℕ) (file : ℕ) (xs ys : List ℕ) → length xs ≡ length files → length ys ≡ length files
    → ((k : ℕ) → slice_index files k ≡ file → slice_index xs k ≡ slice_index ys k) → in_file files file xs ≡ in_file files file ys
same_in_file [] file [] [] xl yl same = refl
same_in_file [] file [] (y ∷ ys) xl yl same = absurd (omega arith)
same_in_file [] file (x ∷ xs) ys xl yl same = absurd (omega arith)
same_in_file (f ∷ files) file [] ys xl yl same = absurd (omega arith)
same_in_file (f ∷ files) file (x ∷ xs) [] xl yl same = absurd (omega arith)
same_in_file (f ∷ files) file (x ∷ xs) (y ∷ ys) xl yl same =
    let rest = same_in_file files file xs ys (omega arith) (omega arith) (λ k is. same (suc k) is) in
    elim (cases_Bool (f == file)) [
      | inl hit ↦ rw hit (ap (λ z. z ∷ in_file files file xs) (same 0 (eqb-true f file hit)) ∙ ap (λ zs. y ∷ zs) rest)
      | inr miss ↦ rw miss rest
    ]

-- entries one after another

drop_yes : {X : Type 0} (files : List ℕ) (file k : ℕ) (xs : List X) (x : X) → k < length files → length xs ≡ length files → slice_index files k ≡ file → x ≡ get_or xs k x
    → in_file (drop k files) file (drop k xs) ≡ x ∷ in_file (drop (k + 1) files) file (drop (k + 1) xs)
drop_yes files file k xs x lt long is at =
    ap (λ fs. in_file fs file (drop k xs)) (drop_more files k 0 lt)
    ∙ ap (λ ys. in_file (get_or files k 0 ∷ drop (k + 1) files) file ys) (drop_more xs k x (omega arith) ∙ ap (λ y. y ∷ drop (k + 1) xs) (sym at))
    ∙ in_file-yes (get_or files k 0) (drop (k + 1) files) file x (drop (k + 1) xs) (eq-eqb (get_or files k 0) file is)

drop_no : {X : Type 0} (files : List ℕ) (file k : ℕ) (xs : List X) → k < length files → length xs ≡ length files → slice_index files k ≢ file
    → in_file (drop k files) file (drop k xs) ≡ in_file (drop (k + 1) files) file (drop (k + 1) xs)
drop_no [] file k xs lt long not = absurd (omega arith)
drop_no (f ∷ files) file k [] lt long not = absurd (omega arith)
drop_no (f ∷ files) file zero (x ∷ xs) lt long not = in_file-no f files file x xs (ne_eqb f file not)
drop_no (f ∷ files) file (suc k) (x ∷ xs) lt long not =
    let z : suc (k + 1) ≡ suc k + 1 = omega arith in
    drop_no files file k xs (omega arith) (omega arith) not ∙ ap (λ n. in_file (drop n (f ∷ files)) file (drop n (x ∷ xs))) z

pub gather_yes : {X : Type 0} (files : List ℕ) (file k count : ℕ) (xs into all : List X) (x : X) → k < length files → length xs ≡ length files → slice_index files k ≡ file → x ≡ get_or xs k x
    → count < length into → take count into ++ in_file (drop k files) file (drop k xs) ≡ all
    → take (count + 1) (set into count x) ++ in_file (drop (k + 1) files) file (drop (k + 1) xs) ≡ all
gather_yes files file k count xs into all x lt long is at room before =
    let rest = in_file (drop (k + 1) files) file (drop (k + 1) xs) in
    ap (λ ys. ys ++ rest) (take_more_set into count x room)
    ∙ append_assoc (take count into) (x ∷ []) rest
    ∙ ap (λ ys. take count into ++ ys) (sym (drop_yes files file k xs x lt long is at))
    ∙ before

pub gather_no : {X : Type 0} (files : List ℕ) (file k count : ℕ) (xs into all : List X) → k < length files → length xs ≡ length files → slice_index files k ≢ file
    → take count into ++ in_file (drop k files) file (drop k xs) ≡ all
    → take count into ++ in_file (drop (k + 1) files) file (drop (k + 1) xs) ≡ all
gather_no files file k count xs into all lt long not before = ap (λ ys. take count into ++ ys) (sym (drop_no files file k xs lt long not)) ∙ before

-- the entries of the first `k` values

pub taken_yes : (files : List ℕ) (file k : ℕ) (xs from : List ℕ) → k < length files → length xs ≡ length files → slice_index files k ≡ file
    → place_in files file k < length from → in_file (take k files) file (take k xs) ≡ take (place_in files file k) from
    → in_file (take (k + 1) files) file (take (k + 1) (set xs k (slice_index from (place_in files file k)))) ≡ take (place_in files file k + 1) from
taken_yes files file k xs from lt long is room before =
    let v = slice_index from (place_in files file k) in
    let same : length (take k xs) ≡ length (take k files) = omega (arith, length-take k xs, length-take k files) in
    ap (λ fs. in_file fs file (take (k + 1) (set xs k v))) (take_more files k 0 lt)
    ∙ ap (λ ys. in_file (take k files ++ get_or files k 0 ∷ []) file ys) (take_more_set xs k v (omega arith))
    ∙ in_file-append (take k files) (get_or files k 0 ∷ []) file (take k xs) (v ∷ []) same
    ∙ ap (λ ys. in_file (take k files) file (take k xs) ++ ys) (in_file-yes (get_or files k 0) [] file v [] (eq-eqb (get_or files k 0) file is))
    ∙ ap (λ ys. ys ++ v ∷ []) before
    ∙ sym (take_more from (place_in files file k) 0 room)

pub taken_no : (files : List ℕ) (file k : ℕ) (xs from : List ℕ) → k < length files → length xs ≡ length files → slice_index files k ≢ file
    → in_file (take k files) file (take k xs) ≡ from → in_file (take (k + 1) files) file (take (k + 1) xs) ≡ from
taken_no files file k xs from lt long not before =
    let same : length (take k xs) ≡ length (take k files) = omega (arith, length-take k xs, length-take k files) in
    ap (λ fs. in_file fs file (take (k + 1) xs)) (take_more files k 0 lt)
    ∙ ap (λ ys. in_file (take k files ++ get_or files k 0 ∷ []) file ys) (take_more xs k 0 (omega arith))
    ∙ in_file-append (take k files) (get_or files k 0 ∷ []) file (take k xs) (get_or xs k 0 ∷ []) same
    ∙ ap (λ ys. in_file (take k files) file (take k xs) ++ ys) (in_file-no (get_or files k 0) [] file (get_or xs k 0) [] (ne_eqb (get_or files k 0) file not))
    ∙ append-nil (in_file (take k files) file (take k xs))
    ∙ before

-- where all values are of the file

pub all_in_file : {X : Type 0} (files : List ℕ) (file : ℕ) (xs : List X) → length xs ≡ length files → All (λ other. other ≡ file) files → in_file files file xs ≡ xs
all_in_file [] file [] long all = refl
all_in_file [] file (x ∷ xs) long all = absurd (omega arith)
all_in_file (f ∷ files) file [] long all = absurd (omega arith)
all_in_file (f ∷ files) file (x ∷ xs) long all =
    in_file-yes f files file x xs (eq-eqb f file (All-head (λ other. other ≡ file) f files all))
    ∙ ap (λ ys. x ∷ ys) (all_in_file files file xs (omega arith) (All-tail (λ other. other ≡ file) f files all))

pub all_before : (files : List ℕ) (file value : ℕ) → value ≤ length files → All (λ other. other ≡ file) files → place_in files file value ≡ value
all_before files file value le all = sym (rank-is files file value) ∙ ranked files value le all
  where
    ranked : (files : List ℕ) (value : ℕ) → value ≤ length files → All (λ other. other ≡ file) files → rank files file value ≡ value
    ranked files zero le all = refl
    ranked [] (suc value) le all = absurd (omega arith)
    ranked (f ∷ files) (suc value) le all =
        rw (eq-eqb f file (All-head (λ other. other ≡ file) f files all)) (ap suc (ranked files value (omega arith) (All-tail (λ other. other ≡ file) f files all)))

-- an entry that no value of the file has stands after them all
pub none_other : (files xs ys : List ℕ) (file : ℕ) → length xs ≡ length files → length ys ≡ length files → All (λ other. other ≡ file) files
    → (value : ℕ) → slice_index files value ≢ file → slice_index xs value ≡ slice_index ys value
none_other [] [] [] file xl yl all value not = refl
none_other [] [] (y ∷ ys) file xl yl all value not = absurd (omega arith)
none_other [] (x ∷ xs) ys file xl yl all value not = absurd (omega arith)
none_other (f ∷ files) [] ys file xl yl all value not = absurd (omega arith)
none_other (f ∷ files) (x ∷ xs) [] file xl yl all value not = absurd (omega arith)
none_other (f ∷ files) (x ∷ xs) (y ∷ ys) file xl yl all zero not = absurd (not (All-head (λ other. other ≡ file) f files all))
none_other (f ∷ files) (x ∷ xs) (y ∷ ys) file xl yl all (suc value) not =
    none_other files xs ys file (omega arith) (omega arith) (All-tail (λ other. other ≡ file) f files all) value not

-- at each place of a file stands one of its values

record StandsAt (files : List ℕ) (file place : ℕ) : Type 0 where
  value : ℕ
  there : value < length files
  is_file : slice_index files value ≡ file
  is_place : rank files file value ≡ place

stands-next : (f : ℕ) (files : List ℕ) (file place more : ℕ) → length (cond (f == file) (f ∷ []) []) + place ≡ more → StandsAt files file place → StandsAt (f ∷ files) file more
stands-next f files file place more count s = record {
  value = suc s.value;
  there = let t = s.there in omega arith;
  is_file = s.is_file;
  is_place = by (f == file) count;
}
  where
    by : (b : Bool) → length (cond b (f ∷ []) []) + place ≡ more → length (cond b (f ∷ filter (λ other. other == file) (take s.value files)) (filter (λ other. other == file) (take s.value files))) ≡ more
    by true e = let r = s.is_place in omega arith
    by false e = let r = s.is_place in omega arith

stands-more : (f : ℕ) (files : List ℕ) (file : ℕ) → ((place : ℕ) → place < length (filter (λ other. other == file) files) → StandsAt files file place)
    → ((f == file) ≡ true) ⊎ ((f == file) ≡ false) → (place : ℕ) → place < length (filter (λ other. other == file) (f ∷ files)) → StandsAt (f ∷ files) file place
stands-more f files file rest (inl hit) zero lt = record { value = 0; there = omega arith; is_file = eqb-true f file hit; is_place = refl }
stands-more f files file rest (inl hit) (suc place) lt =
    let l : suc place < suc (length (filter (λ other. other == file) files)) = rw hit at lt in
    stands-next f files file place (suc place) (rw hit (omega arith)) (rest place (omega arith))
stands-more f files file rest (inr miss) place lt =
    let l : place < length (filter (λ other. other == file) files) = rw miss at lt in
    stands-next f files file place place (rw miss (omega arith)) (rest place l)

stands-at : (files : List ℕ) (file place : ℕ) → place < length (filter (λ other. other == file) files) → StandsAt files file place
stands-at [] file place lt = absurd (omega arith)
stands-at (f ∷ files) file place lt = stands-more f files file (stands-at files file) (cases_Bool (f == file)) place lt

-- a value with so many of its file before it
pub record ValueAt (files : List ℕ) (file place : ℕ) : Type 0 where
  pub value : ℕ
  pub there : value < length files
  pub is_file : slice_index files value ≡ file
  pub is_place : place_in files file value ≡ place

pub value-at : (files : List ℕ) (file place : ℕ) → place < count_by (λ other. other == file) files → ValueAt files file place
value-at files file place lt =
    let c = counted files file in
    let s = stands-at files file place (omega arith) in
    record { value = s.value; there = s.there; is_file = s.is_file; is_place = sym (rank-is files file s.value) ∙ s.is_place }
