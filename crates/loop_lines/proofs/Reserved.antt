-- Long words are not reserved.
use Rattle.std.proofs.Common.{◌≡◌, ◌<◌, ◌≤◌, ℕ, true, false, List, [], ◌∷◌, length, find, is_some, refl, arith, nat_le}
use Rattle.std.proofs.lemmas.Bool.{and_parts, and_right}
use Rattle.std.proofs.lemmas.Bool.Decides.{nat_tests}
use Rattle.std.specs.List.{list_all, list_any}
use Rattle.loop_data.specs.Names.{is_reserved, keywords}
use Rattle.machine_data.specs.Opcodes.{all_opcodes, same_word, word_of}
use Rattle.machine_data.specs.declared.opcode.Opcode.{Opcode}

longer : (w v : List ℕ) → length v < length w → same_word w v ≡ false
longer [] v h = absurd (omega arith)
longer (x ∷ w) [] h = refl
longer (x ∷ w) (y ∷ v) h = and_right _ (same_word w v) (longer w v (omega arith))

shorter : (w v : List ℕ) → length w < length v → same_word w v ≡ false
shorter w [] h = absurd (omega arith)
shorter [] (y ∷ v) h = refl
shorter (x ∷ w) (y ∷ v) h = and_right _ (same_word w v) (shorter w v (omega arith))

few : (n : ℕ) → nat_le n 5 ≡ true → n ≤ 5
few n h = grind (arith, nat_tests)

no_keyword : (word : List ℕ) (words : List (List ℕ)) → 5 < length word → list_all (λ w. nat_le (length w) 5) words ≡ true → list_any (same_word word) words ≡ false
no_keyword word [] long all = refl
no_keyword word (w ∷ ws) long all =
    let parts = and_parts (nat_le (length w) 5) (list_all (λ v. nat_le (length v) 5) ws) all in
    let within : length w ≤ 5 = few (length w) parts.0 in
    rw (longer word w (omega arith), no_keyword word ws long parts.1) refl

no_opcode : (word : List ℕ) (ops : List Opcode) → 5 < length word → list_all (λ o. nat_le (length (word_of o)) 5) ops ≡ true → is_some (find (λ o. same_word (word_of o) word) ops) ≡ false
no_opcode word [] long all = refl
no_opcode word (o ∷ os) long all =
    let parts = and_parts (nat_le (length (word_of o)) 5) (list_all (λ p. nat_le (length (word_of p)) 5) os) all in
    let within : length (word_of o) ≤ 5 = few (length (word_of o)) parts.0 in
    rw (shorter (word_of o) word (omega arith)) (no_opcode word os long parts.1)

-- no reserved word has more than five bytes
pub long_is_free : (word : List ℕ) → 5 < length word → is_reserved word ≡ false
long_is_free word long = rw (no_keyword word keywords long refl) (no_opcode word all_opcodes long refl)
