-- A table of names in chains.
use Rattle.std.proofs.Common.{◌≡◌, ◌≢◌, ℕ, zero, suc, ◌-◌, ◌<◌, ◌≤◌, ◌⊎◌, inl, inr, Bool, true, false, if◌then◌else◌, List, [], ◌∷◌, ◌++◌, length, Option, Some, None, refl, sym, ◌∙◌, ap, arith, get_or, set}
use Rattle.std.specs.Hash.FoldHasher as folding
use Rattle.std.specs.Option.{option_or}
use Rattle.std.proofs.Math.Nat.{mod-lt}
use Rattle.std.proofs.lemmas.List.{get_or_append_left, get_or_push, get_or-set_same, get_or-set_other, length_push, length-set}
use Rattle.std.proofs.lemmas.Bool.Decides.{eqb_tells}
use Rattle.std.proofs.lemmas.Bool.{both_ways}
use Rattle.machine_data.specs.Opcodes.{same_word}
use Rattle.loop_reader.specs.declared.names.index.Declared.{Declared}
use Rattle.loop_reader.specs.declared.names.chains.Link.{Link}
use Rattle.loop_reader.specs.inner.Chains.{chained_as, chain_of, nothing, name_at, IsLatest, AreChains}
use Rattle.loop_reader.proofs.lookups.Declared.{option_or-none, option_or-assoc, same_word-here, same_word-yes}

-- a choice by whether a name is this one
other-if : (b : Bool) (what : Declared) → (b ≡ true → ⊥) → (if b then Some what else None) ≡ None
other-if true what h = absurd (h refl)
other-if false what h = refl

pub chained-none : (links : List Link) (q : List ℕ) → ((j : ℕ) → j < length links → name_at links j ≡ q → ⊥) → chained_as links q ≡ None
chained-none [] q h = refl
chained-none (one ∷ rest) q h =
    ap (λ o. option_or o (if same_word q one.name.now then Some one.what else None)) (chained-none rest q (λ j b e. h (suc j) (omega arith) e))
    ∙ other-if (same_word q one.name.now) one.what (λ e. h 0 (omega arith) (sym (same_word-yes q one.name.now e)))

pub chained-here : (links : List Link) (i : ℕ) (q : List ℕ) → i < length links → name_at links i ≡ q
    → ((j : ℕ) → i < j → j < length links → name_at links j ≡ q → ⊥) → chained_as links q ≡ Some (get_or links i nothing).what
chained-here [] i q b e h = absurd (omega arith)
chained-here (one ∷ rest) zero q b e h =
    ap (λ o. option_or o (if same_word q one.name.now then Some one.what else None)) (chained-none rest q (λ j b e. h (suc j) (omega arith) (omega arith) e))
    ∙ ap (λ n. if same_word q n then Some one.what else None) e
    ∙ ap (λ t. if t then Some one.what else None) (same_word-here q)
chained-here (one ∷ rest) (suc i) q b e h =
    ap (λ o. option_or o (if same_word q one.name.now then Some one.what else None)) (chained-here rest i q (omega arith) e (λ j a b e. h (suc j) (omega arith) (omega arith) e))

or-none : (o : Option Declared) (b : Bool) (what : Declared) → option_or o (if b then Some what else None) ≡ None → (o ≡ None) × (b ≡ true → ⊥)
or-none None true what h = cc
or-none None false what h = (refl, λ e. both_ways false refl e)
or-none (Some first) b what h = cc

pub chained-absent : (links : List Link) (q : List ℕ) → chained_as links q ≡ None → (i : ℕ) → i < length links → name_at links i ≡ q → ⊥
chained-absent [] q none i low e = absurd (omega arith)
chained-absent (one ∷ rest) q none zero low e =
    (or-none (chained_as rest q) (same_word q one.name.now) one.what none).1 (ap (same_word q) e ∙ same_word-here q)
chained-absent (one ∷ rest) q none (suc i) low e =
    chained-absent rest q (or-none (chained_as rest q) (same_word q one.name.now) one.what none).0 i (omega arith) e

-- one more name
pub chained-push : (links : List Link) (one : Link) (q : List ℕ) → chained_as (links ++ one ∷ []) q ≡ option_or (if same_word q one.name.now then Some one.what else None) (chained_as links q)
chained-push [] one q = sym (option_or-none (if same_word q one.name.now then Some one.what else None))
chained-push (first ∷ rest) one q =
    ap (λ o. option_or o (if same_word q first.name.now then Some first.what else None)) (chained-push rest one q)
    ∙ sym (option_or-assoc (if same_word q one.name.now then Some one.what else None) (chained_as rest q) (if same_word q first.name.now then Some first.what else None))

-- a name that was not there is added
pub chained-added : (links : List Link) (one : Link) (q : List ℕ) → chained_as links one.name.now ≡ None
    → chained_as (links ++ one ∷ []) q ≡ option_or (chained_as links q) (if same_word q one.name.now then Some one.what else None)
chained-added links one q none =
    let by_case : (b : Bool) → same_word q one.name.now ≡ b → option_or (if b then Some one.what else None) (chained_as links q) ≡ option_or (chained_as links q) (if b then Some one.what else None) = λ b.
    elim b as (λ b. same_word q one.name.now ≡ b → option_or (if b then Some one.what else None) (chained_as links q) ≡ option_or (chained_as links q) (if b then Some one.what else None)) [
      | true ↦ λ h. sym (ap (λ o. option_or o (Some one.what)) (ap (chained_as links) (same_word-yes q one.name.now h) ∙ none))
      | false ↦ λ h. sym (option_or-none (chained_as links q))
    ] in
    chained-push links one q ∙ by_case (same_word q one.name.now) refl

-- the steps along a chain

pub chain-low : (name : List ℕ) → chain_of name < 512
unfolding chain_of
chain-low name = mod-lt (folding.finish (folding.write folding.initial name)) (omega arith)

pub record IsPassed (links : List Link) (q : List ℕ) (at : ℕ) : Type 0 where
  pub within : at ≤ length links
  pub here : 0 < at → chain_of (name_at links (at - 1)) ≡ chain_of q
  pub others : (j : ℕ) → at ≤ j → j < length links → name_at links j ≡ q → ⊥

-- the table with one more name
name-left : (links : List Link) (one : Link) (j : ℕ) → j < length links → name_at (links ++ one ∷ []) j ≡ name_at links j
name-left links one j h = ap (λ (k : Link). k.name.now) (get_or_append_left links (one ∷ []) nothing j h)

latest-more : (links : List Link) (one : Link) (bound b at : ℕ) → bound ≤ length links → IsLatest links bound b at → IsLatest (links ++ one ∷ []) bound b at
latest-more links one bound b at h l =
    let within = l.within in
    record {
      within = within;
      here = λ some. ap chain_of (name-left links one (at - 1) (omega (arith, within))) ∙ l.here some;
      others = λ j low high e. l.others j low high (sym (ap chain_of (name-left links one j (omega arith))) ∙ e);
    }

-- it is the latest of its chain
latest-one : (links : List Link) (one : Link) (b : ℕ) → b ≡ chain_of one.name.now → IsLatest (links ++ one ∷ []) (length (links ++ one ∷ [])) b (length (links ++ one ∷ []))
latest-one links one b is =
    let l = length_push links one in
    record {
      within = omega arith;
      here = λ some. ap (λ (k : Link). chain_of k.name.now) (get_or_push links one nothing (length (links ++ one ∷ []) - 1) (omega (arith, l))) ∙ sym is;
      others = λ j low high. absurd (omega arith);
    }

-- and other chains have the latest that they had
latest-other : (links : List Link) (one : Link) (b d at : ℕ) → b ≡ chain_of one.name.now → d ≢ b → IsLatest links (length links) d at → IsLatest (links ++ one ∷ []) (length (links ++ one ∷ [])) d at
latest-other links one b d at is other v =
    let l = length_push links one in
    let within = v.within in
    let old = latest-more links one (length links) d at (omega arith) v in
    record {
      within = omega (arith, l);
      here = old.here;
      others = λ j low high e. elim (eqb_tells j (length links)) [
        | inl h ↦ other (sym (sym (ap (λ (k : Link). chain_of k.name.now) (get_or_push links one nothing j (sym h.1))) ∙ e) ∙ sym is)
        | inr h ↦ let n = h.1 in old.others j low (omega (arith, l)) e
      ];
    }

-- the same by equal numbers
latest-as : (links : List Link) (bound b d at to : ℕ) → IsLatest links bound b at → d ≡ b → to ≡ at → IsLatest links bound d to
latest-as links bound b d at to v e f = rw e (rw f v)

pub chained-more : (links : List Link) (latest : List ℕ) (one : Link) (b : ℕ) → b ≡ chain_of one.name.now → b < 512 → one.chain ≡ b → one.before ≡ get_or latest b 0
    → chained_as links one.name.now ≡ None → AreChains links latest → AreChains (links ++ one ∷ []) (set latest b (length (links ++ one ∷ [])))
chained-more links latest one b is low own link none v = record {
  size = length-set latest b _ ∙ v.size;
  latest_is = λ d high. elim (eqb_tells d b) [
    | inl e ↦ rw e.1 (rw (get_or-set_same latest b (length (links ++ one ∷ [])) 0 (omega (arith, v.size))) (latest-one links one b is))
    | inr e ↦ rw (get_or-set_other latest b d (length (links ++ one ∷ [])) 0 e.1) (latest-other links one b d (get_or latest d 0) is e.1 (v.latest_is d high))
  ];
  linked = λ i high. elim (eqb_tells i (length links)) [
    | inl e ↦ rw e.1 (latest-as (links ++ one ∷ []) (length links) b _ (get_or latest b 0) _ (latest-more links one (length links) b (get_or latest b 0) (omega arith) (v.latest_is b low))
        (ap (λ (k : Link). chain_of k.name.now) (get_or_push links one nothing (length links) refl) ∙ sym is)
        (ap (λ (k : Link). k.before) (get_or_push links one nothing (length links) refl) ∙ link))
    | inr e ↦ let n = e.1 in let l = length_push links one in let within : i < length links = omega (arith, l) in
        latest-as (links ++ one ∷ []) i (chain_of (name_at links i)) _ (get_or links i nothing).before _ (latest-more links one i (chain_of (name_at links i)) (get_or links i nothing).before (omega arith) (v.linked i within))
        (ap (λ (k : Link). chain_of k.name.now) (get_or_append_left links (one ∷ []) nothing i within))
        (ap (λ (k : Link). k.before) (get_or_append_left links (one ∷ []) nothing i within))
  ];
  placed = λ i high. elim (eqb_tells i (length links)) [
    | inl e ↦
        let last = get_or_push links one nothing i (sym e.1) in
        ap (λ (k : Link). k.chain) last ∙ own ∙ is ∙ sym (ap (λ (k : Link). chain_of k.name.now) last)
    | inr e ↦
        let n = e.1 in
        let l = length_push links one in
        let within : i < length links = omega (arith, l) in
        let same = get_or_append_left links (one ∷ []) nothing i within in
        ap (λ (k : Link). k.chain) same ∙ v.placed i within ∙ sym (ap (λ (k : Link). chain_of k.name.now) same)
  ];
  distinct = λ i j low high e. elim (eqb_tells j (length links)) [
    | inl f ↦
        let left : i < length links = omega (arith, f.1) in
        chained-absent links one.name.now none i left
        (sym (name-left links one i left) ∙ e ∙ ap (λ (k : Link). k.name.now) (get_or_push links one nothing j (sym f.1)))
    | inr f ↦
        let n = f.1 in
        let l = length_push links one in
        let right : j < length links = omega (arith, l) in
        v.distinct i j low right (sym (name-left links one i (omega arith)) ∙ e ∙ name-left links one j right)
  ];
}

-- a table that is being emptied: the chains that still have a name are those of the names from this number on
pub record IsEmptied (links : List Link) (i : ℕ) (latest : List ℕ) : Type 0 where
  pub size : length latest ≡ 512
  pub left : (b : ℕ) → b < 512 → (get_or latest b 0 ≡ 0) ⊎ ((j : ℕ) × (i ≤ j) × (j < length links) × (chain_of (name_at links j) ≡ b))
