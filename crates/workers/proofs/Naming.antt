-- Names that are kept, one after another.
use Rattle.std.proofs.Common.{◌≡◌, ◌≢◌, ◌∙◌, ℕ, ◌<◌, Bool, true, false, ◌||◌, if◌then◌else◌, not, suc, zero, List, [], ◌∷◌, ◌++◌, length, take, get_or, Option, Some, None, is_some, refl, sym, ap, ap₂, subst, arith}
use Rattle.std.specs.List.{list_any}
use Rattle.std.proofs.lemmas.List.{get_or-take, length-take}
use Rattle.std.proofs.lemmas.List.Folds.{list_any-append}
use Rattle.std.proofs.lemmas.List.Quantifiers.{all_pairs_push}
use Rattle.machine_data.specs.Opcodes.{same_word}
use Rattle.loop_reader.proofs.faults.Giving.{or-false-left, or-false-right}
use Rattle.loop_reader.proofs.lookups.Declared.{same_word-here, same_word-yes}
use Rattle.workers.specs.inner.Pieces.{NamesDiffer}

-- whether a name is there, after one is added
pub there-now : {X : Type 0} (old : Option X) (what : X) (same : Bool) → is_some (if same then Some what else old) ≡ (is_some old || same)
there-now None what true = refl
there-now None what false = refl
there-now (Some x) what true = refl
there-now (Some x) what false = refl

or-none : (b : Bool) → (b || false) ≡ b
or-none true = refl
or-none false = refl

-- what names are known, after some and one more
pub known-more : (known after : List ℕ → Bool) (names more : List (List ℕ)) (one name : List ℕ) → ((q : List ℕ) → known q ≡ list_any (same_word q) names)
    → ((q : List ℕ) → after q ≡ (known q || same_word q name)) → name ≡ one → more ≡ names ++ one ∷ [] → (q : List ℕ) → after q ≡ list_any (same_word q) more
known-more known after names more one name h k e added q =
    let all : list_any (same_word q) more ≡ (list_any (same_word q) names || same_word q one) =
    ap (list_any (same_word q)) added ∙ list_any-append (same_word q) names (one ∷ []) ∙ ap (λ (b : Bool). list_any (same_word q) names || b) (or-none (same_word q one)) in
    k q ∙ ap₂ (λ (a b : Bool). a || b) (h q) (ap (same_word q) e) ∙ sym all

pub not-true : (b : Bool) → b ≡ false → b ≡ true → ⊥
not-true true e f = cc
not-true false e f = cc

-- a name that is not there is none of them
none-named : (name : List ℕ) (names : List (List ℕ)) → list_any (same_word name) names ≡ false → (k : ℕ) (d : List ℕ) → k < length names → get_or names k d ≢ name
none-named name [] h k d g = absurd (omega (arith, g))
none-named name (x ∷ xs) h zero d g = λ e. not-true (same_word name x) (or-false-left (same_word name x) (list_any (same_word name) xs) h) (ap (same_word name) e ∙ same_word-here name)
none-named name (x ∷ xs) h (suc k) d g = none-named name xs (or-false-right (same_word name x) (list_any (same_word name) xs) h) k d (omega (arith, g))

-- one more name, which is not there
pub differ-more : (names more : List (List ℕ)) (one : List ℕ) → NamesDiffer names → list_any (same_word one) names ≡ false → more ≡ names ++ one ∷ [] → NamesDiffer more
differ-more names more one h free added =
    subst NamesDiffer (sym added) (all_pairs_push (λ (x y : List ℕ). x ≢ y) names one h (none-named one names free))

-- a name that is there is one of them
named-there : (name : List ℕ) (names : List (List ℕ)) → list_any (same_word name) names ≡ true → (k : ℕ) × (k < length names) × ((d : List ℕ) → get_or names k d ≡ name)
named-there name [] h = cc
named-there name (x ∷ xs) h =
    let by_case : (b : Bool) → same_word name x ≡ b → (b || list_any (same_word name) xs) ≡ true
    → (k : ℕ) × (k < length (x ∷ xs)) × ((d : List ℕ) → get_or (x ∷ xs) k d ≡ name) = λ b.
    elim b as (λ b. same_word name x ≡ b → (b || list_any (same_word name) xs) ≡ true → (k : ℕ) × (k < length (x ∷ xs)) × ((d : List ℕ) → get_or (x ∷ xs) k d ≡ name)) [
      | true ↦ λ e g. (0, omega arith, λ d. sym (same_word-yes name x e))
      | false ↦ λ e g. let more = named-there name xs g in (suc more.0, omega (arith, more.1), more.2)
    ] in
    by_case (same_word name x) refl h

-- one more name, which is there
pub not-differ : (names : List (List ℕ)) (i : ℕ) (one : List ℕ) → i < length names → one ≡ get_or names i one → list_any (same_word one) (take i names) ≡ true → NamesDiffer names → ⊥
not-differ names i one below at there differ =
    let found = named-there one (take i names) there in
    let earlier : found.0 < i = omega (arith, found.1, length-take i names) in
    differ found.0 i one earlier below (sym (get_or-take i names found.0 one earlier) ∙ found.2 one ∙ at)

-- of two answers, one that tells of a name that it is there, and one that tells that it is not

pub told-other : (there other : Bool) → there ≡ not other → other ≡ not there
told-other true true h = cc
told-other true false h = refl
told-other false true h = refl
told-other false false h = cc

pub told-new : (there new : Bool) → new ≡ not there → new ≡ true → there ≡ false
told-new true new h e = cc
told-new false new h e = refl

pub told-old : (there new : Bool) → new ≡ not there → new ≡ false → there ≡ true
told-old true new h e = refl
told-old false new h e = cc
