-- Names of a block in their order, and what helps to mend faults.
use Rattle.std.proofs.Common.{◌≡◌, ℕ, zero, suc, ◌+◌, ◌<◌, ◌≤◌, Bool, true, false, cond, not, List, [], ◌∷◌, ◌++◌, length, map, take, filter, flat_map, Option, Some, None, option_map, refl, sym, subst, ◌∙◌, ap, arith, ltb, length-append, get_or, inl, inr}
use Rattle.std.proofs.lemmas.Bool.{cases_lt, le-ltb, lt-ltb}
use Rattle.std.proofs.lemmas.List.{append-nil, length-take-le, map-append, take-append-le, take_all, take_more}
use Rattle.std.proofs.lemmas.List.Elements.{filter-append, filter_agree}
use Rattle.std.proofs.lemmas.Grind.{flat_map-append}
use Rattle.std.specs.Borrow.{Bor}
use Rattle.std.specs.List.{range_with_len}
use Rattle.loop_lines.specs.Forms.{Form, LoopLine, ArrayLine, ParamLine, InitLine, StatementLine, OutLine, EndLine, Malformed}
use Rattle.loop_reader.specs.Meaning.{declared, has_init}
use Rattle.loop_lint.specs.Hints.{candidates, declares, listed, may_be, missing, name_in, names_of, reach}
use Rattle.loop_lint.specs.declared.block.Table.{Table}
use Rattle.loop_lint.specs.declared.hints.Wanted.{Wanted}
use Rattle.loop_reader.specs.Declarations.{declared_seen}
use Rattle.loop_lint.specs.inner.Tables.{IsTable, flag_of, known_at, with_names}

-- one more name

push-short : (k : ℕ) (xs : List (List ℕ)) (x : List ℕ) → length xs < k → take k (xs ++ x ∷ []) ≡ cond (ltb (length (take k xs)) k) (take k xs ++ x ∷ []) (take k xs)
push-short k xs x h =
    let all : take k xs ≡ xs = take_all k xs (omega arith) in
    let more : length (xs ++ x ∷ []) ≤ k = omega (arith, length-append xs (x ∷ [])) in
    let less : ltb (length xs) k ≡ true = lt-ltb (length xs) k h in
    rw (all, less) (take_all k (xs ++ x ∷ []) more)

push-long : (k : ℕ) (xs : List (List ℕ)) (x : List ℕ) → k ≤ length xs → take k (xs ++ x ∷ []) ≡ cond (ltb (length (take k xs)) k) (take k xs ++ x ∷ []) (take k xs)
push-long k xs x h =
    let full : length (take k xs) ≡ k = length-take-le k xs h in
    let no : ltb (length (take k xs)) k ≡ false = le-ltb (length (take k xs)) k (omega arith) in
    rw no (take-append-le k xs (x ∷ []) h)

take-push : (k : ℕ) (xs : List (List ℕ)) (x : List ℕ) → take k (xs ++ x ∷ []) ≡ cond (ltb (length (take k xs)) k) (take k xs ++ x ∷ []) (take k xs)
take-push k xs x = elim (cases_lt (length xs) k) [
  | inl less ↦ push-short k xs x less
  | inr more ↦ push-long k xs x more
]

names-none : (xs : List (List ℕ)) → take 224 (xs ++ []) ≡ take 224 xs
names-none xs = ap (take 224) (append-nil xs)

names-listed : (xs : List (List ℕ)) (name : Option (List ℕ)) → take 224 (xs ++ listed name) ≡ with_names (take 224 xs) (listed name)
names-listed xs None = names-none xs
names-listed xs (Some name) = take-push 224 xs name

names-declared : (xs : List (List ℕ)) (form : Form) → take 224 (xs ++ declares form) ≡ with_names (take 224 xs) (declares form)
names-declared xs (LoopLine name) = names-none xs
names-declared xs (ArrayLine name cells) = take-push 224 xs name
names-declared xs (ParamLine name value) = take-push 224 xs name
names-declared xs (InitLine name number value) = names-none xs
names-declared xs (StatementLine source) = names-listed xs source.name
names-declared xs (OutLine name) = names-none xs
names-declared xs EndLine = names-none xs
names-declared xs Malformed = names-none xs

pub names_more : (before : List Form) (form : Form) (names : List (List ℕ)) → names ≡ names_of before → with_names names (declares form) ≡ names_of (before ++ form ∷ [])
names_more before form names h =
    ap (λ ns. with_names ns (declares form)) h
    ∙ sym (names-declared (flat_map declares before) form)
    ∙ ap (λ ds. take 224 (flat_map declares before ++ ds)) (sym (append-nil (declares form)))
    ∙ ap (take 224) (sym (flat_map-append declares before (form ∷ [])))

pub filter_names_more : (p : List ℕ → Bool) (names : List (Bor (List ℕ))) (i : ℕ) (d : Bor (List ℕ)) → i < length names
    → filter p (map (λ (n : Bor (List ℕ)). n.now) (take (i + 1) names))
    ≡ filter p (map (λ (n : Bor (List ℕ)). n.now) (take i names)) ++ cond (p (get_or names i d).now) ((get_or names i d).now ∷ []) []
filter_names_more p names i d h =
    ap (λ ns. filter p (map (λ (n : Bor (List ℕ)). n.now) ns)) (take_more names i d h)
    ∙ ap (filter p) (map-append (λ (n : Bor (List ℕ)). n.now) (take i names) (get_or names i d ∷ []))
    ∙ filter-append p (map (λ (n : Bor (List ℕ)). n.now) (take i names)) ((get_or names i d).now ∷ [])

pub chosen_more : (p : List ℕ → Bool) (names : List (Bor (List ℕ))) (i : ℕ) (d : Bor (List ℕ)) (old new : List (List ℕ)) (b : Bool) → i < length names
    → new ≡ old ++ cond b ((get_or names i d).now ∷ []) [] → b ≡ p (get_or names i d).now → old ≡ filter p (map (λ (n : Bor (List ℕ)). n.now) (take i names))
    → new ≡ filter p (map (λ (n : Bor (List ℕ)). n.now) (take (i + 1) names))
chosen_more p names i d old new b h n e o =
    let x = (get_or names i d).now in
    n ∙ ap (λ t. old ++ cond t (x ∷ []) []) e ∙ ap (λ ns. ns ++ cond (p x) (x ∷ []) []) o ∙ sym (filter_names_more p names i d h)

pub chosen_step : (p : List ℕ → Bool) (names other : List (Bor (List ℕ))) (i : ℕ) (d : Bor (List ℕ)) (old new : List (List ℕ)) (b : Bool) → other ≡ names → i < length other
    → new ≡ old ++ cond b ((get_or other i d).now ∷ []) [] → b ≡ p (get_or other i d).now → old ≡ filter p (map (λ (n : Bor (List ℕ)). n.now) (take i names))
    → new ≡ filter p (map (λ (n : Bor (List ℕ)). n.now) (take (i + 1) names))
chosen_step p names other i d old new b same h n e o =
    let at : get_or other i d ≡ get_or names i d = ap (λ ns. get_or ns i d) same in
    chosen_more p names i d old new b (subst (λ (ns : List (Bor (List ℕ))). i < length ns) same h)
    (n ∙ ap (λ (x : Bor (List ℕ)). old ++ cond b (x.now ∷ []) []) at)
    (e ∙ ap (λ (x : Bor (List ℕ)). p x.now) at) o

-- those that may stand somewhere
pub chosen_are : (forms : List Form) (table : Table) (want : Wanted) (names : List (List ℕ)) → IsTable forms table
    → names ≡ filter (λ (name : List ℕ). may_be want (option_map declared_seen (known_at table.names name).declared)) (map (λ (n : Bor (List ℕ)). n.now) table.order.items)
    → names ≡ candidates forms want
chosen_are forms table want names is h =
    h
    ∙ filter_agree (λ (name : List ℕ). may_be want (option_map declared_seen (known_at table.names name).declared)) (λ name. may_be want (declared forms name)) (λ name. ap (may_be want) (is.declares name)) _
    ∙ ap (filter (λ name. may_be want (declared forms name))) is.order

-- numbers

filter-range : (p q : ℕ → Bool) (a n high : ℕ) → a + n ≤ high → ((k : ℕ) → k < high → p k ≡ q k) → filter p (range_with_len a n) ≡ filter q (range_with_len a n)
filter-range p q a zero high h same = refl
filter-range p q a (suc n) high h same =
    let more = filter-range p q (a + 1) n high (omega arith) same in
    rw (same a (omega arith), more) refl

range-more : (a n : ℕ) → range_with_len a (suc n) ≡ range_with_len a n ++ (a + n) ∷ []
range-more a zero = let same : a ≡ a + 0 = omega arith in ap (λ k. k ∷ []) same
range-more a (suc n) =
    let same : a + 1 + n ≡ a + suc n = omega arith in
    ap (λ xs. a ∷ xs) (range-more (a + 1) n ∙ ap (λ k. range_with_len (a + 1) n ++ k ∷ []) same)

pub filter_more : (p : ℕ → Bool) (a n : ℕ) → filter p (range_with_len a (n + 1)) ≡ filter p (range_with_len a n) ++ cond (p (a + n)) ((a + n) ∷ []) []
filter_more p a n =
    let one : n + 1 ≡ suc n = omega arith in
    ap (λ k. filter p (range_with_len a k)) one ∙ ap (filter p) (range-more a n) ∙ filter-append p (range_with_len a n) ((a + n) ∷ [])

pub missing_are : (forms : List Form) (table : Table) (word numbers : List ℕ) (most : ℕ) → IsTable forms table → most ≡ reach word → most ≤ 16
    → numbers ≡ filter (λ (n : ℕ). not (flag_of (known_at table.names (name_in word)).inits (Some n))) (range_with_len 1 most)
    → numbers ≡ missing forms word
missing_are forms table word numbers most is m few h =
    let name = name_in word in
    h
    ∙ filter-range (λ n. not (flag_of (known_at table.names name).inits (Some n))) (λ n. not (has_init forms name n)) 1 most 17 (omega arith) (λ k low. ap not (is.gives name (Some k) (omega arith)))
    ∙ ap (λ n. filter (λ number. not (has_init forms name number)) (range_with_len 1 n)) m
