-- A loop's turn over the elements of an array, whose faults come one after another.
use Rattle.std.proofs.Common.{◌≡◌, ℕ, suc, ◌+◌, ◌<◌, ◌≤◌, List, [], ◌∷◌, ◌++◌, length, get_or, take, drop, map, Some, Vec, Global, vec_len, refl, sym, ap, ◌∙◌, arith}
use Rattle.std.specs.List.{flat_map}
use Rattle.std.proofs.lemmas.List.{append-nil, append_assoc, drop_more, drop_all, take_more, take_all, map_push}
use Rattle.toml.specs.Data.{Data}
use Rattle.toml.specs.View.{view, items_view}
use Rattle.toml.specs.declared.value.Value.{Value}
use Rattle.reader_faults.specs.declared.machine.MachineFault.{MachineFault}
use Rattle.machine.specs.inner.Reads.{first_fault}
use Rattle.machine.specs.MachineText.{Faults, data_of, faults_in_turn}
use Rattle.machine.proofs.checks.Faults.{first-append}

pub data_of-view : (vs : List Value) → data_of (items_view vs) ≡ map view vs
data_of-view [] = refl
data_of-view (v ∷ vs) = ap (λ ds. view v ∷ ds) (data_of-view vs)

length-data_of : (vs : List Value) → length (data_of (items_view vs)) ≡ length vs
length-data_of [] = refl
length-data_of (v ∷ vs) = ap suc (length-data_of vs)

pub count-data_of : (vs : Vec Value Global) (n : ℕ) → n ≡ vec_len vs → length (data_of (items_view vs.items)) ≡ n
count-data_of vs n h = length-data_of vs.items ∙ omega (arith, vs.ok.0, h)

-- the values made of the elements before a place, after others
module _ {A : Type 0} (make : Data → A) (vs : List Value) (before : List A) where
  pub made-none : before ≡ before ++ map make (map view (take 0 vs))
  made-none = sym (append-nil before)

  pub made-more : (i : ℕ) (v : Value) (made : List A) → i < length vs → v ≡ get_or vs i v → made ≡ before ++ map make (map view (take i vs)) → made ++ make (view v) ∷ [] ≡ before ++ map make (map view (take (i + 1) vs))
  made-more i v made h is e =
      let one = sym (ap (map make) (map_push view (take i vs) v) ∙ map_push make (map view (take i vs)) (view v)) in
      rw (take_more vs i v h, ← is, e, append_assoc) (ap (λ ys. before ++ ys) one)

  pub made-all : (i : ℕ) (made : List A) → length vs ≤ i → made ≡ before ++ map make (map view (take i vs)) → made ≡ before ++ map make (map view vs)
  made-all i made h e = rw (take_all i vs h) at e

-- checks after what was made of the elements before, where those have no fault
module _ {A : Type 0} (check : List A → Data → Faults) (make : Data → A) (vs : List Value) (before : List A) where
  abbrev pub InTurn : ℕ → List A → Type 0
  InTurn i made = faults_in_turn check make made (map view (drop i vs)) ≡ faults_in_turn check make before (map view vs)

  module _ (i : ℕ) (v : Value) (made : List A) (within : i < length vs) (is : v ≡ get_or vs i v) (turn : InTurn i made) where
    at-turn : faults_in_turn check make before (map view vs) ≡ check made (view v) ++ faults_in_turn check make (made ++ make (view v) ∷ []) (map view (drop (i + 1) vs))
    at-turn = sym turn ∙ rw (drop_more vs i v within, ← is)

    pub turn-more : check made (view v) ≡ [] → InTurn (i + 1) (made ++ make (view v) ∷ [])
    turn-more none = sym (rw none at at-turn)

    pub turn-fault : (e : MachineFault) → first_fault (check made (view v)) ≡ Some e → first_fault (faults_in_turn check make before (map view vs)) ≡ Some e
    turn-fault e h = rw at-turn (first-append _ _ e h)

  pub turn-all : (i : ℕ) (made : List A) → length vs ≤ i → InTurn i made → faults_in_turn check make before (map view vs) ≡ []
  turn-all i made h turn = sym (rw (drop_all i vs h) at turn)

-- checks of each element alone
module _ (check : Data → Faults) (vs : List Value) where
  abbrev pub InEach : ℕ → Type 0
  InEach i = flat_map check (map view (drop i vs)) ≡ flat_map check (map view vs)

  module _ (i : ℕ) (v : Value) (within : i < length vs) (is : v ≡ get_or vs i v) (turn : InEach i) where
    at-each : flat_map check (map view vs) ≡ check (view v) ++ flat_map check (map view (drop (i + 1) vs))
    at-each = sym turn ∙ rw (drop_more vs i v within, ← is)

    pub each-more : check (view v) ≡ [] → InEach (i + 1)
    each-more none = sym (rw none at at-each)

    pub each-fault : (e : MachineFault) → first_fault (check (view v)) ≡ Some e → first_fault (flat_map check (map view vs)) ≡ Some e
    each-fault e h = rw at-each (first-append _ _ e h)

  pub each-all : (i : ℕ) → length vs ≤ i → InEach i → flat_map check (map view vs) ≡ []
  each-all i h turn = sym (rw (drop_all i vs h) at turn)
