-- Names with their numbers, and one name more.
use Rattle.std.proofs.Common.{◌≡◌, ◌≢◌, ◌⊎◌, ℕ, zero, suc, ◌+◌, ◌-◌, ◌<◌, ◌≤◌, true, false, cond, List, [], ◌∷◌, ◌++◌, length, get_or, set, take, refl, sym, ap, ◌∙◌, subst, inl, inr, arith, if◌then◌else◌, get_or-set_other, get_or-set_same, Option, Some, None}
use Rattle.std.specs.List.{AllPairs}
use Rattle.std.specs.Map.{update}
use Rattle.std.specs.Str.{bytes_eq}
use Rattle.std.proofs.lemmas.Bool.{false≢true, false_from_ne_true, cases_lt, cases_eq, cases_Bool, or_parts}
use Rattle.std.proofs.lemmas.List.{get_or_append_left, get_or_default, get_or_past, get_or_push, get_or-replicate, length-append, length-replicate, take-append-le, take_all}
use Rattle.std.proofs.lemmas.List.Quantifiers.{all_pairs_push}
use Rattle.std.proofs.Math.ListN.{replicate}
use Rattle.machine_data.specs.Opcodes.{same_word}
use Rattle.problem_tables.specs.Names.{index_of, has_name}
use Rattle.problem_tables.specs.inner.Numbered.{bucket_of, name_at, AreNumbered}
use Rattle.problem_tables.proofs.Naming.{same_word-here, same_word-yes}

abbrev pub AreDistinct : List (List ℕ) → Type 0
AreDistinct names = AllPairs (λ (a b : List ℕ). a ≢ b) names

other-word : (q first : List ℕ) → first ≢ q → same_word q first ≡ false
other-word q first ne = false_from_ne_true (same_word q first) (λ t. ne (sym (same_word-yes q first t)))

-- of names that differ a name has the number of its place
pub index-at : (names : List (List ℕ)) (k : ℕ) (q : List ℕ) → AreDistinct names → k < length names → get_or names k [] ≡ q → index_of names q ≡ k
index-at [] k q apart below is = absurd (omega arith)
index-at (first ∷ names) zero q apart below is =
    ap (λ b. if b then 0 else index_of names q + 1) (subst (λ x. same_word q x ≡ true) (sym is) (same_word-here q))
index-at (first ∷ names) (suc k) q apart below is =
    let ne : first ≢ q = λ same. apart 0 (suc k) [] (omega arith) below (same ∙ sym is) in
    let rest : index_of names q ≡ k = index-at names k q (λ i j d less short. apart (suc i) (suc j) d (omega arith) (omega arith)) (omega arith) is in
    ap (λ b. if b then 0 else index_of names q + 1) (other-word q first ne) ∙ (omega arith)

-- the name is none of them
abbrev pub IsNew : List (List ℕ) → List ℕ → Type 0
IsNew names q = (k : ℕ) → k < length names → get_or names k [] ≢ q

pub index-new : (names : List (List ℕ)) (q : List ℕ) → IsNew names q → index_of names q ≡ length names
index-new [] q new = refl
index-new (first ∷ names) q new =
    let rest : index_of names q ≡ length names = index-new names q (λ k below. new (suc k) (omega arith)) in
    ap (λ b. if b then 0 else index_of names q + 1) (other-word q first (new 0 (omega arith))) ∙ (omega arith)

pub new-absent : (names : List (List ℕ)) (q : List ℕ) → has_name names q ≡ false → IsNew names q
new-absent [] q absent k below = absurd (omega arith)
new-absent (first ∷ names) q absent zero below =
    let parts = or_parts (same_word q first) (has_name names q) absent in
    λ same. false≢true (sym parts.0 ∙ subst (λ x. same_word q x ≡ true) (sym same) (same_word-here q))
new-absent (first ∷ names) q absent (suc k) below =
    let parts = or_parts (same_word q first) (has_name names q) absent in
    new-absent names q parts.1 k (omega arith)

-- a name that is neither the first one of its bucket nor one of the others
pub new-missed : (names : List (List ℕ)) (firsts : List ℕ) (others : List ℕ → Option ℕ) (q : List ℕ) → AreNumbered names firsts others
    → (0 < get_or firsts (bucket_of q) 0 → get_or names (get_or firsts (bucket_of q) 0 - 1) [] ≢ q) → others q ≡ None → IsNew names q
new-missed names firsts others q numbered missed none k below same = elim (numbered.found k below) [
  | inl first ↦ (let at : get_or firsts (bucket_of q) 0 ≡ k + 1 = ap (λ x. get_or firsts (bucket_of x) 0) (sym same) ∙ first in
      let here : get_or firsts (bucket_of q) 0 - 1 ≡ k = omega arith in
      missed (omega arith) (ap (λ n. get_or names n []) here ∙ same))
  | inr other ↦ (let is : others q ≡ Some k = ap others (sym same) ∙ other in
      let wrong : None ≡ Some k = sym none ∙ is in
      cc)
]

-- no names
abbrev pub no_firsts : List ℕ
no_firsts = replicate 512 0

pub zero-firsts : (b : ℕ) → get_or no_firsts b 0 ≡ 0
zero-firsts b = elim (cases_lt b 512) [
  | inl below ↦ get_or-replicate 512 b 0 0 below
  | inr past ↦ get_or_past no_firsts b 0 (let long : length no_firsts ≡ 512 = length-replicate {A = ℕ} 512 0 in omega arith)
]

pub numbered-none : (names : List (List ℕ)) (others : List ℕ → Option ℕ) → names ≡ [] → ((q : List ℕ) → others q ≡ None) → AreNumbered names no_firsts others
numbered-none names others none empty = subst (λ ns. AreNumbered ns no_firsts others) (sym none) (record {
  distinct = λ i j d less short. absurd (omega arith);
  within = λ b. let zero : get_or no_firsts b 0 ≡ 0 = zero-firsts b in omega arith;
  found = λ k below. absurd (omega arith);
  known = λ q k is. (let wrong : None ≡ Some k = sym (empty q) ∙ is in cc);
})

-- one name more: the first one of its bucket
pub numbered-first : (names : List (List ℕ)) (firsts : List ℕ) (others : List ℕ → Option ℕ) (x : List ℕ) → AreNumbered names firsts others → IsNew names x
    → length firsts ≡ 512 → bucket_of x < 512 → get_or firsts (bucket_of x) 0 ≡ 0
    → AreNumbered (names ++ x ∷ []) (set firsts (bucket_of x) (length names + 1)) others
numbered-first names firsts others x numbered new all below free =
    let longer : length (names ++ x ∷ []) ≡ length names + 1 = length-append names (x ∷ []) in
    let here : get_or (set firsts (bucket_of x) (length names + 1)) (bucket_of x) 0 ≡ length names + 1
    = get_or-set_same firsts (bucket_of x) (length names + 1) 0 (omega arith) in
    record {
      distinct = all_pairs_push (λ (a b : List ℕ). a ≢ b) names x numbered.distinct (λ k d short same. new k short (get_or_default names k [] d short ∙ same));
      within = λ b. elim (cases_eq b (bucket_of x)) [
        | inl same ↦ subst (λ n. get_or (set firsts (bucket_of x) (length names + 1)) n 0 ≤ length (names ++ x ∷ [])) (sym same) (omega arith)
        | inr other ↦ (let old : get_or (set firsts (bucket_of x) (length names + 1)) b 0 ≡ get_or firsts b 0 = get_or-set_other firsts (bucket_of x) b (length names + 1) 0 other in
            let low : get_or firsts b 0 ≤ length names = numbered.within b in
            omega arith)
      ];
      found = λ k within. elim (cases_lt k (length names)) [
        | inl earlier ↦ subst (λ n. (get_or (set firsts (bucket_of x) (length names + 1)) (bucket_of n) 0 ≡ k + 1) ⊎ (others n ≡ Some k))
            (sym (get_or_append_left names (x ∷ []) [] k earlier))
            (elim (numbered.found k earlier) [
              | inl first ↦ inl (get_or-set_other firsts (bucket_of x) (bucket_of (name_at names k)) (length names + 1) 0
                  (λ same. absurd (let at : get_or firsts (bucket_of x) 0 ≡ k + 1 = ap (λ n. get_or firsts n 0) (sym same) ∙ first in omega arith)) ∙ first)
              | inr other ↦ inr other
            ])
        | inr after ↦ (let at : k ≡ length names = omega arith in
            subst (λ n. (get_or (set firsts (bucket_of x) (length names + 1)) (bucket_of n) 0 ≡ k + 1) ⊎ (others n ≡ Some k))
            (sym (get_or_push names x [] k (sym at))) (inl (here ∙ omega arith)))
      ];
      known = λ q k is. (let old = numbered.known q k is in
          let within : k < length names = old.0 in
          (omega arith, get_or_append_left names (x ∷ []) [] k within ∙ old.1));
    }

-- one name more: one of the others
pub numbered-other : (names : List (List ℕ)) (firsts : List ℕ) (others more : List ℕ → Option ℕ) (x : List ℕ) → AreNumbered names firsts others → IsNew names x
    → ((q : List ℕ) → more q ≡ update bytes_eq others x (Some (length names)) q) → AreNumbered (names ++ x ∷ []) firsts more
numbered-other names firsts others more x numbered new is =
    let longer : length (names ++ x ∷ []) ≡ length names + 1 = length-append names (x ∷ []) in
    let here : more x ≡ Some (length names) = is x ∙ ap (λ b. cond b (Some (length names)) (others x)) (same_word-here x) in
    let apart : (q : List ℕ) → q ≢ x → more q ≡ others q = λ q ne. is q ∙ ap (λ b. cond b (Some (length names)) (others q)) (other-word x q ne) in
    record {
      distinct = all_pairs_push (λ (a b : List ℕ). a ≢ b) names x numbered.distinct (λ k d short same. new k short (get_or_default names k [] d short ∙ same));
      within = λ b. (let low : get_or firsts b 0 ≤ length names = numbered.within b in omega arith);
      found = λ k within. elim (cases_lt k (length names)) [
        | inl earlier ↦ subst (λ n. (get_or firsts (bucket_of n) 0 ≡ k + 1) ⊎ (more n ≡ Some k)) (sym (get_or_append_left names (x ∷ []) [] k earlier))
            (elim (numbered.found k earlier) [
              | inl first ↦ inl first
              | inr other ↦ inr (apart (name_at names k) (new k earlier) ∙ other)
            ])
        | inr after ↦ (let at : k ≡ length names = omega arith in
            subst (λ n. (get_or firsts (bucket_of n) 0 ≡ k + 1) ⊎ (more n ≡ Some k)) (sym (get_or_push names x [] k (sym at))) (inr (here ∙ ap Some (sym at))))
      ];
      known = λ q k told. elim (cases_Bool (same_word x q)) [
        | inl same ↦ (let at : x ≡ q = same_word-yes x q same in
            let one : Some (length names) ≡ Some k = sym here ∙ ap more at ∙ told in
            let number : length names ≡ k = cc in
            (omega arith, get_or_push names x [] k number ∙ at))
        | inr other ↦ (let old = numbered.known q k (sym (is q ∙ ap (λ b. cond b (Some (length names)) (others q)) other) ∙ told) in
            let within : k < length names = old.0 in
            (omega arith, get_or_append_left names (x ∷ []) [] k within ∙ old.1))
      ];
    }

-- the same by another function with the same values
pub numbered-same : (names : List (List ℕ)) (firsts : List ℕ) (others more : List ℕ → Option ℕ) → ((q : List ℕ) → more q ≡ others q) → AreNumbered names firsts others
    → AreNumbered names firsts more
numbered-same names firsts others more same numbered = record {
  distinct = numbered.distinct;
  within = numbered.within;
  found = λ k below. elim (numbered.found k below) [
    | inl first ↦ inl first
    | inr other ↦ inr (same (name_at names k) ∙ other)
  ];
  known = λ q k is. numbered.known q k (sym (same q) ∙ is);
}

-- a name that is not the one that is looked at
pub other-name : (names : List (List ℕ)) (next : ℕ) (seen bytes q : List ℕ) → 0 < next → next ≤ length names → seen ≡ get_or names (next - 1) seen → bytes ≡ seen
    → same_word bytes q ≡ false → get_or names (next - 1) [] ≢ q
other-name names next seen bytes q some within at is differs same =
    let here : get_or names (next - 1) [] ≡ seen = get_or_default names (next - 1) [] seen (omega arith) ∙ sym at in
    false≢true (sym differs ∙ subst (λ x. same_word x q ≡ true) (sym same ∙ here ∙ sym is) (same_word-here q))

pub that-name : (names : List (List ℕ)) (next : ℕ) (seen bytes q : List ℕ) → AreDistinct names → 0 < next → next ≤ length names → seen ≡ get_or names (next - 1) seen
    → bytes ≡ seen → same_word bytes q ≡ true → index_of names q ≡ next - 1
that-name names next seen bytes q apart some within at is equal =
    let here : get_or names (next - 1) [] ≡ seen = get_or_default names (next - 1) [] seen (omega arith) ∙ sym at in
    index-at names (next - 1) q apart (omega arith) (here ∙ sym is ∙ same_word-yes bytes q equal)

-- a list without the last item that was pushed
pub pop-push : {X : Type 0} (xs : List X) (x : X) (ys : List X) (n : ℕ) → ys ≡ xs ++ x ∷ [] → n ≡ length ys → take (n - 1) ys ≡ xs
pop-push xs x ys n is size =
    let long : length ys ≡ length xs + 1 = ap length is ∙ length-append xs (x ∷ []) in
    let at : n - 1 ≡ length xs = omega arith in
    ap (λ k. take k ys) at ∙ ap (take (length xs)) is ∙ take-append-le (length xs) xs (x ∷ []) (omega arith) ∙ take_all (length xs) xs (omega arith)
