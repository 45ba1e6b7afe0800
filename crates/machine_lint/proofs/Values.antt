-- Values by what the accessors of TOML's values give.
use Rattle.std.proofs.Common.{◌≡◌, ℕ, ◌≤◌, ◌&&◌, List, length, map, take, Some, None, Vec, Global, vec_len, inl, inr, refl, sym, ap, ◌∙◌, arith, not, ltb, leb, lt-ltb, le-ltb, le-leb}
use Rattle.std.proofs.lemmas.Bool.{cases_lt, lt-leb}
use Rattle.std.proofs.lemmas.List.{take-map, take_all}
use Rattle.std.specs.List.{list_any}
use Rattle.toml.specs.Data.{Data, string, integer, float, boolean, datetime, array, table, as_str, as_integer, as_array}
use Rattle.toml.specs.View.{array_view, view}
use Rattle.toml.specs.declared.value.Value.{Value}
use Rattle.machine.specs.MachineText.{within}
use Rattle.machine.proofs.checks.Faults.{array-at}
use Rattle.machine.proofs.checks.Turns.{count-data_of, data_of-view}
use Rattle.machine.proofs.texts.Texts.{list_any-map}
use Rattle.machine_lint.specs.Spots.{shown}
use Rattle.machine_lint.specs.Values.{counts, is_unit_of, items_in, same_text}
use Rattle.machine_lint.specs.declared.spots.Found.TheVariants as found

leb-not : (m n : ℕ) → leb m n ≡ not (ltb n m)
leb-not m n = elim (cases_lt n m) [
  | inl above ↦ rw (lt-leb m n above, lt-ltb n m above) refl
  | inr below ↦ rw (le-leb m n below, le-ltb n m below) refl
]

within-is : (high n : ℕ) → (leb 1 n && leb n high) ≡ within 1 high n
within-is high n = rw (leb-not 1 n, leb-not n high)

pub counts-some : (d : Data) (v : Vec Value Global) (n high : ℕ) → Some (array_view v) ≡ as_array d → n ≡ vec_len v → 1 ≤ n → leb n high ≡ counts high d
counts-some d v n high is len some = rw (array-at d (array_view v) is, count-data_of v n len) (let e = within-is high n in rw (le-leb 1 n some) at e)

pub shown-elements : (d : Data) (v : Vec Value Global) (n : ℕ) → Some (array_view v) ≡ as_array d → n ≡ vec_len v → found.Elements n ≡ shown d
shown-elements d v n is len = rw (array-at d (array_view v) is, count-data_of v n len)

pub shown-nothing : (d : Data) → None ≡ as_str d → None ≡ as_integer d → None ≡ as_array d → found.Nothing ≡ shown d
shown-nothing (string s) a b c = cc
shown-nothing (integer z) a b c = cc
shown-nothing (float x) a b c = refl
shown-nothing (boolean y) a b c = refl
shown-nothing (datetime t) a b c = refl
shown-nothing (array ds) a b c = cc
shown-nothing (table ms) a b c = refl

pub elements-some : (d : Data) (v : Vec Value Global) (most : ℕ) → Some (array_view v) ≡ as_array d → map view (take most v.items) ≡ take most (items_in d)
elements-some d v most is = rw (array-at d (array_view v) is, data_of-view v.items) (sym (take-map view most v.items))

pub elements-all : (d : Data) (v : Vec Value Global) (n most : ℕ) → Some (array_view v) ≡ as_array d → n ≡ vec_len v → n ≤ most → map view v.items ≡ take most (items_in d)
elements-all d v n most is len few =
    let short : length v.items ≤ most = omega (arith, v.ok.0, len) in
    sym (ap (map view) (take_all most v.items short)) ∙ elements-some d v most is

pub unit-of-some : (d : Data) (v : Vec Value Global) (name : List ℕ) → Some (array_view v) ≡ as_array d → list_any (λ unit. same_text (string name) (view unit)) v.items ≡ is_unit_of (Some d) name
unit-of-some d v name is = rw (array-at d (array_view v) is, data_of-view v.items) (sym (list_any-map (same_text (string name)) view v.items))
