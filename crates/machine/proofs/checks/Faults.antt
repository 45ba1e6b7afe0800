-- The first fault of checks that stand one after another, and the checks of a value by its kind.
use Rattle.std.proofs.Common.{◌≡◌, ◌≢◌, IsErrAnd, ℕ, ◌<◌, ◌^◌, Bool, true, false, not, ltb, nat_abs, inl, inr, List, [], ◌∷◌, ◌++◌, Some, None, Result, Ok, Err, ℤ, pos, negsuc, codes, refl, sym, ap, arith, lt-ltb}
use Rattle.std.proofs.lemmas.Bool.{and_right, cases_lt}
use Rattle.std.proofs.lemmas.Option.{same_Some}
use Rattle.std.specs.Int.{FitsUnsignedBits}
use Rattle.std.specs.Result.{OkIff, result_unwrap_or}
use Rattle.std.specs.List.{list_any}
use Rattle.toml.specs.Data.{Data, string, integer, float, boolean, datetime, array, table, Items, Members, as_str, as_integer, as_array, as_table}
use Rattle.reader_faults.specs.declared.machine.MachineFault.{MachineFault}
use Rattle.reader_faults.specs.declared.machine.MachineFault.TheVariants.{MissingKey, WrongType, RepeatedUnit, Limit, Memory}
use Rattle.machine_data.specs.Opcodes.{same_word}
use Rattle.machine.specs.inner.Reads.{first_fault, ReadsPart}
use Rattle.machine.specs.MachineText.{Faults, unless, within, is_unit_name, unit_faults, text_of, faults_of_number, number_in}

-- checks one after another

pub first-append : (F G : Faults) (e : MachineFault) → first_fault F ≡ Some e → first_fault (F ++ G) ≡ Some e
first-append [] G e h = cc
first-append (f ∷ F) G e h = h

pub first-then : (F G : Faults) (e : MachineFault) → F ≡ [] → first_fault G ≡ Some e → first_fault (F ++ G) ≡ Some e
first-then F G e none h = rw none h

pub none-append : (F G : Faults) → F ≡ [] → G ≡ [] → F ++ G ≡ []
none-append F G f g = rw f g

pub none-parts : (F G : Faults) → F ++ G ≡ [] → (F ≡ []) × (G ≡ [])
none-parts [] G h = (refl, h)
none-parts (f ∷ F) G h = cc

pub unless-passed : (b : Bool) (f : MachineFault) → unless b f ≡ [] → b ≡ true
unless-passed true f h = refl
unless-passed false f h = cc

-- values by their kinds

pub string-at : (d : Data) (text : List ℕ) → Some text ≡ as_str d → d ≡ string text
string-at (string s) text h = ap string (same_Some _ _ (sym h))
string-at (integer z) text h = cc
string-at (float x) text h = cc
string-at (boolean b) text h = cc
string-at (datetime t) text h = cc
string-at (array ds) text h = cc
string-at (table ms) text h = cc

pub integer-at : (d : Data) (z : ℤ) → Some z ≡ as_integer d → d ≡ integer z
integer-at (string s) z h = cc
integer-at (integer y) z h = ap integer (same_Some _ _ (sym h))
integer-at (float x) z h = cc
integer-at (boolean b) z h = cc
integer-at (datetime t) z h = cc
integer-at (array ds) z h = cc
integer-at (table ms) z h = cc

pub array-at : (d : Data) (ds : Items) → Some ds ≡ as_array d → d ≡ array ds
array-at (string s) ds h = cc
array-at (integer y) ds h = cc
array-at (float x) ds h = cc
array-at (boolean b) ds h = cc
array-at (datetime t) ds h = cc
array-at (array es) ds h = ap array (same_Some _ _ (sym h))
array-at (table ms) ds h = cc

pub table-at : (d : Data) (ms : Members) → Some ms ≡ as_table d → d ≡ table ms
table-at (string s) ms h = cc
table-at (integer y) ms h = cc
table-at (float x) ms h = cc
table-at (boolean b) ms h = cc
table-at (datetime t) ms h = cc
table-at (array es) ms h = cc
table-at (table ns) ms h = ap table (same_Some _ _ (sym h))

-- units

pub unit-wrong_type : (before : List (List ℕ)) (d : Data) → None ≡ as_str d → first_fault (unit_faults before d) ≡ Some (WrongType (codes "units"))
unfolding unit_faults
unit-wrong_type before (string s) h = cc
unit-wrong_type before (integer y) h = refl
unit-wrong_type before (float x) h = refl
unit-wrong_type before (boolean b) h = refl
unit-wrong_type before (datetime t) h = refl
unit-wrong_type before (array es) h = refl
unit-wrong_type before (table ns) h = refl

module _ (before : List (List ℕ)) (d : Data) (text : List ℕ) (is : Some text ≡ as_str d) where
  pub unit-limit : is_unit_name text ≡ false → first_fault (unit_faults before d) ≡ Some (Limit (codes "unit name"))
  unfolding unit_faults
  unit-limit h = rw (string-at d text is) (rw h)

  pub unit-repeated : is_unit_name text ≡ true → list_any (λ other. same_word other text) before ≡ true → first_fault (unit_faults before d) ≡ Some (RepeatedUnit text)
  unfolding unit_faults
  unit-repeated h k = rw (string-at d text is) (rw (h, k))

  pub unit-fine : is_unit_name text ≡ true → list_any (λ other. same_word other text) before ≡ false → unit_faults before d ≡ []
  unfolding unit_faults
  unit-fine h k = rw (string-at d text is) (rw (h, k))

  pub unit-text : text ≡ text_of d
  unit-text = rw (string-at d text is)

-- numbers

pub number-missing : (path limit : List ℕ) (high : ℕ) → first_fault (faults_of_number path limit 1 high None) ≡ Some (MissingKey path)
unfolding faults_of_number
number-missing path limit high = refl

pub number-wrong_type : (path limit : List ℕ) (high : ℕ) (d : Data) → None ≡ as_integer d → first_fault (faults_of_number path limit 1 high (Some d)) ≡ Some (WrongType path)
unfolding faults_of_number
number-wrong_type path limit high (string s) h = refl
number-wrong_type path limit high (integer y) h = cc
number-wrong_type path limit high (float x) h = refl
number-wrong_type path limit high (boolean b) h = refl
number-wrong_type path limit high (datetime t) h = refl
number-wrong_type path limit high (array es) h = refl
number-wrong_type path limit high (table ns) h = refl

-- the number as a `u16`, where it is one, and else 0, is outside the limits where the number is
u16-limit : {E : Type 0} (path limit : List ℕ) (high : ℕ) (z : ℤ) (r : Result ℕ E) → high < 2 ^ 16 → OkIff r (FitsUnsignedBits 16 z) (nat_abs z) → within 1 high (result_unwrap_or r 0) ≡ false → first_fault (faults_of_number path limit 1 high (Some (integer z))) ≡ Some (Limit limit)
unfolding faults_of_number
u16-limit path limit high (pos n) (Ok x) small h out = rw (← h.1) (rw out)
u16-limit path limit high (pos n) (Err e) small h out = elim (cases_lt high n) [
  | inl above ↦ rw (lt-ltb high n above, and_right (not (ltb n 1)) false refl)
  | inr below ↦ absurd (h (omega arith))
]
u16-limit path limit high (negsuc n) r small h out = refl

u16-fine : {E : Type 0} (path limit : List ℕ) (high : ℕ) (z : ℤ) (r : Result ℕ E) → OkIff r (FitsUnsignedBits 16 z) (nat_abs z) → within 1 high (result_unwrap_or r 0) ≡ true → (faults_of_number path limit 1 high (Some (integer z)) ≡ []) × (result_unwrap_or r 0 ≡ number_in (Some (integer z)))
unfolding faults_of_number
u16-fine path limit high (pos n) (Ok x) h in' = (rw (← h.1) (rw in'), h.1)
u16-fine path limit high (negsuc n) (Ok x) h in' = absurd h.0
u16-fine path limit high z (Err e) h in' = cc

module _ {E : Type 0} (path limit : List ℕ) (high : ℕ) (d : Data) (z : ℤ) (r : Result ℕ E) (is : Some z ≡ as_integer d) (tried : OkIff r (FitsUnsignedBits 16 z) (nat_abs z)) where
  pub number-limit : high < 2 ^ 16 → within 1 high (result_unwrap_or r 0) ≡ false → first_fault (faults_of_number path limit 1 high (Some d)) ≡ Some (Limit limit)
  number-limit small out = rw (integer-at d z is) (u16-limit path limit high z r small tried out)

  pub number-fine : within 1 high (result_unwrap_or r 0) ≡ true → (faults_of_number path limit 1 high (Some d) ≡ []) × (result_unwrap_or r 0 ≡ number_in (Some d))
  number-fine in' = rw (integer-at d z is) (u16-fine path limit high z r tried in')

-- the exit of a `?`

pub ReadsPart-err : {A : Type 0} (F : Faults) (IsRight : A → Type 0) (r : Result A MachineFault) (e : MachineFault) → IsErrAnd r (λ y. y ≡ e) → (e ≢ Memory → first_fault F ≡ Some e) → ReadsPart F IsRight r
ReadsPart-err F IsRight (Ok x) e h first = absurd h
ReadsPart-err F IsRight (Err y) e h first = rw h first
