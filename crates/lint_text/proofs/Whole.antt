-- A document has whole numbers alone.
use Rattle.std.proofs.Common.{◌≡◌, Bool, false, ◌||◌, List, [], ◌∷◌, ◌++◌, map, Option, Some, None, codes, refl, ap₂}
use Rattle.serde_json.specs.Data.{Data, array, member, no_members, object}
use Rattle.serde_json.specs.View.{items_of}
use Rattle.serde_json.specs.Written.{has_float, items_have_float}
use Rattle.loop_lint.specs.declared.lacks.LoopLint.{LoopLint}
use Rattle.machine_lint.specs.Hints.{declared_units}
use Rattle.machine_lint.specs.declared.place.MachineLint.{MachineLint}
use Rattle.lint_text.specs.Document.{loop_value, loop_values, machine_value, machine_values}
use Rattle.lint_text.specs.declared.printout.Named.{Named}

neither : (a b : Bool) → a ≡ false → b ≡ false → (a || b) ≡ false
neither a b p q = ap₂ (λ (x y : Bool). x || y) p q

mapped-then : {A : Type 0} (value : A → Data) (list : List A) (rest : List Data) → ((x : A) → has_float (value x) ≡ false) → items_have_float (items_of rest) ≡ false
    → items_have_float (items_of (map value list ++ rest)) ≡ false
mapped-then value [] rest each h = h
mapped-then value (x ∷ xs) rest each h = neither _ _ (each x) (mapped-then value xs rest each h)

mapped : {A : Type 0} (value : A → Data) (list : List A) → ((x : A) → has_float (value x) ≡ false) → items_have_float (items_of (map value list)) ≡ false
mapped value [] each = refl
mapped value (x ∷ xs) each = neither _ _ (each x) (mapped value xs each)

loops-whole : (loops : Option Named) (faults : List LoopLint) → items_have_float (items_of (loop_values loops faults)) ≡ false
loops-whole None faults = refl
loops-whole (Some named) faults = mapped (loop_value named.path.now named.text.now) faults (λ fault. refl)

pub all-whole : (machine loops : Option Named) (lints : List MachineLint) (faults : List LoopLint) → items_have_float (items_of (machine_values machine lints ++ loop_values loops faults)) ≡ false
all-whole None loops lints faults = loops-whole loops faults
all-whole (Some named) loops lints faults = mapped-then (machine_value named.path.now (declared_units named.text.now)) lints (loop_values loops faults) (λ lint. refl) (loops-whole loops faults)

pub document_whole : (values : List Data) → items_have_float (items_of values) ≡ false → has_float (object (member (codes "faults") (array (items_of values)) no_members)) ≡ false
document_whole values h = neither _ _ h refl
