-- Lists of variants, one more at a time.
use Rattle.std.proofs.Common.{◌≡◌, ◌<◌, ◌≤◌, ◌+◌, ℕ, Bool, true, false, cond, List, [], ◌∷◌, ◌++◌, length, map, filter, refl, sym, ap, ◌∙◌, subst, append_assoc, arith}
use Rattle.std.specs.Prelude.{nat_lt}
use Rattle.std.specs.List.{All, range_with_len}
use Rattle.std.proofs.lemmas.Bool.{ltb-true}
use Rattle.std.proofs.lemmas.List.{map-append, map-id}
use Rattle.std.proofs.lemmas.List.Elements.{All-append, All-filter, All-map, All-weaker, filter-append, filter_passes}
use Rattle.std.proofs.lemmas.List.FromFn.{get_or-range_with_len, length-range_with_len, map-range_with_len_more}
use Rattle.machine_data.specs.declared.opcode.Opcode.{Opcode}
use Rattle.machine_data.specs.Machines.{MachineData, table_of}
use Rattle.machine_data.specs.Opcodes.{all_opcodes}
use Rattle.graph.specs.Dependences.{latency_in}
use Rattle.machine_variants.specs.declared.variant.Variant.{Variant}
use Rattle.machine_variants.specs.declared.variant.Variant.TheVariants.{Doubled, Shortened, Registers}
use Rattle.machine_variants.specs.Variants.{IsVariantOf, is_other_number, numbers_to, variants_of}

range-push : (a n : ℕ) → range_with_len a (n + 1) ≡ range_with_len a n ++ (a + n) ∷ []
range-push a n = sym (map-id (range_with_len a (n + 1))) ∙ map-range_with_len_more (λ x. x) a n (a + n) refl ∙ ap (λ xs. xs ++ (a + n) ∷ []) (map-id (range_with_len a n))

pub numbers-none : numbers_to 0 ≡ []
unfolding numbers_to
numbers-none = refl

pub numbers-push : (n : ℕ) → numbers_to (n + 1) ≡ numbers_to n ++ (1 + n) ∷ []
unfolding numbers_to
numbers-push n = range-push 1 n

one-kept : {A : Type 0} (f : A → Variant) (b : Bool) (x : A) → map f (cond b (x ∷ []) []) ≡ cond b (f x ∷ []) []
one-kept f true x = refl
one-kept f false x = refl

-- one more thing, which is kept where it passes a test
pub kept-more : {A : Type 0} (f : A → Variant) (p : A → Bool) (xs : List A) (x : A) (old items new : List Variant) (b : Bool) → items ≡ old ++ map f (filter p xs) → b ≡ p x
    → new ≡ items ++ cond b (f x ∷ []) [] → new ≡ old ++ map f (filter p (xs ++ x ∷ []))
kept-more f p xs x old items new b before same now =
    now ∙ ap (λ ys. ys ++ cond b (f x ∷ []) []) before ∙ append_assoc old (map f (filter p xs)) (cond b (f x ∷ []) [])
    ∙ ap (λ ys. old ++ ys)
    (ap (λ c. map f (filter p xs) ++ cond c (f x ∷ []) []) same ∙ ap (λ ys. map f (filter p xs) ++ ys) (sym (one-kept f (p x) x))
    ∙ sym (map-append f (filter p xs) (cond (p x) (x ∷ []) [])) ∙ ap (map f) (sym (filter-append p xs (x ∷ []))))

-- each variant of a machine is one

from-range : (P : ℕ → Type 0) (a n : ℕ) → ((k : ℕ) → a ≤ k → k < a + n → P k) → All P (range_with_len a n)
from-range P a n each i d low =
    let within : i < n = subst (λ m. i < m) (length-range_with_len a n) low in
    subst P (sym (get_or-range_with_len a n i d within)) (each (a + i) (omega arith) (omega (arith, within)))

from-numbers : (n : ℕ) → All (λ k. (1 ≤ k) × (k ≤ n)) (numbers_to n)
unfolding numbers_to
from-numbers n = from-range (λ k. (1 ≤ k) × (k ≤ n)) 1 n (λ k low high. (low, omega (arith, high)))

pub all-variants : (machine : MachineData) → All (IsVariantOf machine) (variants_of machine)
all-variants machine =
    let above : Opcode → Bool = λ opcode. nat_lt 1 (latency_in (table_of machine opcode)) in
    let units = map Doubled (range_with_len 0 (length machine.units)) in
    let latencies = map Shortened (filter above all_opcodes) in
    let registers = map Registers (filter (is_other_number machine.registers) (numbers_to 256)) in
    All-append (IsVariantOf machine) (units ++ latencies) registers
    (All-append (IsVariantOf machine) units latencies
    (All-map (IsVariantOf machine) Doubled (range_with_len 0 (length machine.units)) (from-range (λ k. k < length machine.units) 0 (length machine.units) (λ k low high. omega (arith, high))))
    (All-map (IsVariantOf machine) Shortened (filter above all_opcodes)
    (All-weaker (λ o. above o ≡ true) (λ o. 1 < latency_in (table_of machine o)) (λ o is. ltb-true 1 (latency_in (table_of machine o)) is) (filter above all_opcodes) (filter_passes above all_opcodes))))
    (All-map (IsVariantOf machine) Registers (filter (is_other_number machine.registers) (numbers_to 256))
    (All-filter (is_other_number machine.registers) (λ k. (1 ≤ k) × (k ≤ 256)) (numbers_to 256) (from-numbers 256)))
