-- The meaning of a text by its tests.
use Rattle.std.proofs.Common.{◌≡◌, ℕ, ◌<◌, ◌≤◌, List, [], ◌∷◌, length, Some, None, Result, Ok, Err, codes, refl, arith, le-ltb, lt-ltb, eq-eqb}
use Rattle.std.proofs.lemmas.Bool.{ne_eqb}
use Rattle.std.proofs.lemmas.Str.{utf8_valid_len-IsUtf8, utf8_valid_len-IsValidUpTo}
use Rattle.std.specs.Str.{IsUtf8, IsValidUpTo}
use Rattle.toml.specs.Data.{Members}
use Rattle.toml.specs.Parse.{parse_document}
use Rattle.reader_faults.specs.declared.machine.MachineFault.{MachineFault}
use Rattle.reader_faults.specs.declared.machine.MachineFault.TheVariants.{NotUtf8, NotToml, MissingKey, WrongType, UnknownKey, UnknownUnit, UnknownOpcode, RepeatedUnit, RepeatedRow, Limit, Memory}
use Rattle.reader_faults.specs.MachineFaults.{MachineAnswer}
use Rattle.machine.specs.inner.Reads.{ReadsPart, first_fault}
use Rattle.machine.specs.MachineText.{Faults, answer, tree_faults, tree_machine, machine_of}

at-first : {A : Type 0} (F : Faults) (v : A) (e : MachineFault) → first_fault F ≡ Some e → Err e ≡ answer F v
at-first [] v e h = cc
at-first (f ∷ F) v e h = cc

-- what reads a part answers it
pub MachineAnswer-from_Reads : {A : Type 0} (F : Faults) (v : A) (r : Result A MachineFault) → ReadsPart F (λ x. x ≡ v) r → MachineAnswer r (answer F v)
MachineAnswer-from_Reads F v (Ok x) h = rw (h.0, h.1)
MachineAnswer-from_Reads F v (Err Memory) h = tt
MachineAnswer-from_Reads F v (Err NotUtf8) h = at-first F v NotUtf8 (h (λ e. cc))
MachineAnswer-from_Reads F v (Err NotToml) h = at-first F v NotToml (h (λ e. cc))
MachineAnswer-from_Reads F v (Err (MissingKey k)) h = at-first F v _ (h (λ e. cc))
MachineAnswer-from_Reads F v (Err (WrongType k)) h = at-first F v _ (h (λ e. cc))
MachineAnswer-from_Reads F v (Err (UnknownKey k)) h = at-first F v _ (h (λ e. cc))
MachineAnswer-from_Reads F v (Err (UnknownUnit k)) h = at-first F v _ (h (λ e. cc))
MachineAnswer-from_Reads F v (Err (UnknownOpcode k)) h = at-first F v _ (h (λ e. cc))
MachineAnswer-from_Reads F v (Err (RepeatedUnit k)) h = at-first F v _ (h (λ e. cc))
MachineAnswer-from_Reads F v (Err (RepeatedRow k)) h = at-first F v _ (h (λ e. cc))
MachineAnswer-from_Reads F v (Err (Limit k)) h = at-first F v _ (h (λ e. cc))

module _ (text : List ℕ) where
  pub text-long : 1048576 < length text → machine_of text ≡ Err (Limit (codes "text"))
  unfolding machine_of
  text-long h = rw (lt-ltb 1048576 (length text) h)

  module _ (short : length text ≤ 1048576) where
    pub text-not_utf8 : (n : ℕ) → IsValidUpTo text n → machine_of text ≡ Err NotUtf8
    unfolding machine_of
    text-not_utf8 n h =
        let below = h.short in
        let apart : n ≡ length text → ⊥ = λ e. omega arith in
        rw (le-ltb 1048576 (length text) short, utf8_valid_len-IsValidUpTo text n h, ne_eqb n (length text) apart)

    pub text-not_toml : IsUtf8 text → parse_document text ≡ None → machine_of text ≡ Err NotToml
    unfolding machine_of
    text-not_toml u none = rw (le-ltb 1048576 (length text) short, utf8_valid_len-IsUtf8 text u, eq-eqb (length text) (length text) refl, none)

    pub text-tree : (top : Members) → IsUtf8 text → parse_document text ≡ Some top → machine_of text ≡ answer (tree_faults top) (tree_machine top)
    unfolding machine_of
    text-tree top u is = rw (le-ltb 1048576 (length text) short, utf8_valid_len-IsUtf8 text u, eq-eqb (length text) (length text) refl, is)
