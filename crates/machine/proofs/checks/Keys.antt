-- A loop's turn over the keys of a table.
use Rattle.std.proofs.Common.{◌≡◌, ℕ, Bool, true, false, List, [], ◌∷◌, ◌++◌, map, Some, Bor, String, Global, string_bytes, sym, ◌∙◌}
use Rattle.std.specs.List.{list_any}
use Rattle.toml.specs.Data.{Members}
use Rattle.toml.specs.View.{members_view}
use Rattle.toml.specs.declared.value.Value.{Value}
use Rattle.toml.proofs.Views.{Entry}
use Rattle.reader_faults.specs.declared.machine.MachineFault.TheVariants.{UnknownKey}
use Rattle.machine_data.specs.Opcodes.{same_word}
use Rattle.machine.specs.inner.Reads.{first_fault}
use Rattle.machine.specs.MachineText.{unless, unknown_keys}
use Rattle.machine.proofs.texts.Texts.{list_any-map}

module _ (path : List ℕ) (known : List (Bor (List ℕ))) (all : Members) (es : List Entry) where
  abbrev pub KeysSoFar : Type 0
  KeysSoFar = unknown_keys path (map (λ (k : Bor (List ℕ)). k.now) known) (members_view es) ≡ unknown_keys path (map (λ (k : Bor (List ℕ)). k.now) known) all

  pub keys-all : es ≡ [] → KeysSoFar → unknown_keys path (map (λ (k : Bor (List ℕ)). k.now) known) all ≡ []
  unfolding unknown_keys
  keys-all none turn = sym (rw none at turn)

  module _ (k : String Global) (v : Value) (rest : List Entry) (word : List ℕ) (more : es ≡ (k, v) ∷ rest) (is : word ≡ string_bytes k) (turn : KeysSoFar) where
    at-key : (b : Bool) → b ≡ list_any (λ w. same_word word w.now) known → unknown_keys path (map (λ (w : Bor (List ℕ)). w.now) known) all ≡ unless b (UnknownKey (path ++ word)) ++ unknown_keys path (map (λ (w : Bor (List ℕ)). w.now) known) (members_view rest)
    unfolding unknown_keys
    at-key b e = sym turn ∙ rw (more, ← is, list_any-map (same_word word) (λ (w : Bor (List ℕ)). w.now) known, ← e)

    pub keys-fault : false ≡ list_any (λ w. same_word word w.now) known → first_fault (unknown_keys path (map (λ (w : Bor (List ℕ)). w.now) known) all) ≡ Some (UnknownKey (path ++ word))
    keys-fault e = rw (at-key false e)

    pub keys-more : true ≡ list_any (λ w. same_word word w.now) known → unknown_keys path (map (λ (w : Bor (List ℕ)). w.now) known) (members_view rest) ≡ unknown_keys path (map (λ (w : Bor (List ℕ)). w.now) known) all
    keys-more e = sym (at-key true e)
