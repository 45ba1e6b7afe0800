-- A table of the registers that preloads name.
use Rattle.std.proofs.Common.{◌≡◌, ◌≢◌, ℕ, ◌<◌, ◌+◌, Bool, true, false, List, [], ◌∷◌, ◌++◌, length, get_or, take, set, replicate, sym, ◌∙◌, ap, subst, ⊎_elim, arith}
use Rattle.std.specs.List.{All, AllPairs}
use Rattle.std.proofs.lemmas.Bool.{false≢true, cases_eq, cases_lt}
use Rattle.std.proofs.lemmas.List.{get_or-set_same, get_or-set_other, take_more, get_or_default, get_or-replicate, get_or_past, length-replicate}
use Rattle.std.proofs.lemmas.List.Elements.{All-more}
use Rattle.std.proofs.lemmas.List.Quantifiers.{all_pairs_push}
use Rattle.kernel.specs.declared.kernels.parts.Preload.{Preload}
use Rattle.kernel.specs.Check.{ArePreloads}

-- a register's place in the table says whether one of the first preloads names it
pub record IsTable (taken : List Bool) (preloads : List Preload) (count : ℕ) : Type 0 where
  pub free : (register : ℕ) → get_or taken register false ≡ false → All (λ (p : Preload). p.register ≢ register) (take count preloads)
  pub named : (register : ℕ) → get_or taken register false ≡ true → (k : ℕ) × (k < count) × ((d : Preload) → (get_or preloads k d).register ≡ register)

pub table_none : (taken : List Bool) (preloads : List Preload) → ((register : ℕ) → get_or taken register false ≡ false) → IsTable taken preloads 0
table_none taken preloads none = record {
  free = λ register e. λ k d lt. absurd (let l : k < 0 = lt in omega arith);
  named = λ register e. absurd (false≢true (sym (none register) ∙ e));
}

table_more-free : (taken : List Bool) (preloads : List Preload) (i : ℕ) (p : Preload) → i < length preloads → p ≡ get_or preloads i p → p.register < length taken → IsTable taken preloads i → (register : ℕ) → get_or (set taken p.register true) register false ≡ false → All (λ (q : Preload). q.register ≢ register) (take (i + 1) preloads)
table_more-free taken preloads i p within is fits table register e =
    let P : Preload → Type 0 = λ q. q.register ≢ register in
    ⊎_elim
    (λ same. let at : get_or (set taken p.register true) p.register false ≡ true = get_or-set_same taken p.register true false fits in absurd (false≢true (sym e ∙ (ap (λ n. get_or (set taken p.register true) n false) (sym same) ∙ at))))
    (λ other. let ne : register ≢ p.register = λ same. other (sym same) in All-more P preloads i p within (table.free register (sym (get_or-set_other taken p.register register true false ne) ∙ e)) (subst P is other))
    (cases_eq p.register register)

table_more-named : (taken : List Bool) (preloads : List Preload) (i : ℕ) (p : Preload) → i < length preloads → p ≡ get_or preloads i p → p.register < length taken → IsTable taken preloads i → (register : ℕ) → get_or (set taken p.register true) register false ≡ true → (k : ℕ) × (k < i + 1) × ((d : Preload) → (get_or preloads k d).register ≡ register)
table_more-named taken preloads i p within is fits table register e =
    ⊎_elim
    (λ same. (i, omega arith, λ d. ap (λ (q : Preload). q.register) (get_or_default preloads i d p within ∙ sym is) ∙ same))
    (λ other. let ne : register ≢ p.register = λ same. other (sym same) in let before = table.named register (sym (get_or-set_other taken p.register register true false ne) ∙ e) in (before.0, omega (arith, before.1), before.2))
    (cases_eq p.register register)

table_more_own : (taken : List Bool) (preloads : List Preload) (i : ℕ) (p : Preload) → i < length preloads → p ≡ get_or preloads i p → p.register < length taken → IsTable taken preloads i → IsTable (set taken p.register true) preloads (i + 1)
table_more_own taken preloads i p within is fits table = record {
  free = table_more-free taken preloads i p within is fits table;
  named = table_more-named taken preloads i p within is fits table;
}

-- the table with one more preload's register
pub table_more : (taken : List Bool) (preloads : List Preload) (i n : ℕ) (d : Preload) → i < length preloads → n ≡ (get_or preloads i d).register → n < length taken → IsTable taken preloads i → IsTable (set taken n true) preloads (i + 1)
table_more taken preloads i n d within e fits table =
    let p : Preload = get_or preloads i d in
    let P : ℕ → Type 0 = λ m. IsTable (set taken m true) preloads (i + 1) in
    subst P (sym e) (table_more_own taken preloads i p within (get_or_default preloads i d p within) (subst (λ m. m < length taken) e fits) table)

preloads_more_own : (registers : ℕ) (taken : List Bool) (preloads : List Preload) (i : ℕ) (p : Preload) → i < length preloads → p ≡ get_or preloads i p → p.register < registers → get_or taken p.register false ≡ false → IsTable taken preloads i → ArePreloads registers (take i preloads) → ArePreloads registers (take (i + 1) preloads)
preloads_more_own registers taken preloads i p within is fits free table before =
    let R : Preload → Preload → Type 0 = λ q r. q.register ≢ r.register in
    let e : take (i + 1) preloads ≡ take i preloads ++ p ∷ [] = take_more preloads i p within ∙ ap (λ (q : Preload). take i preloads ++ q ∷ []) (sym is) in
    record {
      there = All-more (λ (q : Preload). q.register < registers) preloads i p within before.there (subst (λ (q : Preload). q.register < registers) is fits);
      different = subst (AllPairs R) (sym e) (all_pairs_push R (take i preloads) p before.different (table.free p.register free));
    }

-- one more preload, of a register that none before it names
pub preloads_more : (registers : ℕ) (taken : List Bool) (preloads : List Preload) (i n : ℕ) (d : Preload) → i < length preloads → n ≡ (get_or preloads i d).register → n < registers → get_or taken n false ≡ false → IsTable taken preloads i → ArePreloads registers (take i preloads) → ArePreloads registers (take (i + 1) preloads)
preloads_more registers taken preloads i n d within e fits free table before =
    let p : Preload = get_or preloads i d in
    preloads_more_own registers taken preloads i p within (get_or_default preloads i d p within) (subst (λ m. m < registers) e fits) (subst (λ m. get_or taken m false ≡ false) e free) table before

no_preloads : (registers : ℕ) → ArePreloads registers []
no_preloads registers = record { there = λ k d lt. absurd (omega arith); different = λ i j d before lt. absurd (omega arith) }

-- the first iteration
pub preloads_none : (registers : ℕ) (preloads : List Preload) → ArePreloads registers (take 0 preloads)
preloads_none registers preloads = no_preloads registers

none_at : (n register : ℕ) → get_or (replicate n false) register false ≡ false
none_at n register =
    ⊎_elim (λ within. get_or-replicate n register false false within) (λ past. get_or_past (replicate n false) register false (let e : length (replicate n false) ≡ n = length-replicate n false in omega arith)) (cases_lt register n)

pub table_opens : (taken : List Bool) (n : ℕ) (preloads : List Preload) → taken ≡ replicate n false → IsTable taken preloads 0
table_opens taken n preloads e = table_none taken preloads (λ register. subst (λ (t : List Bool). get_or t register false ≡ false) (sym e) (none_at n register))
