-- The lines of a loop's arrays and parameters have no faults in its canonical text.
use Rattle.std.proofs.Common.{◌≡◌, ℕ, ℤ, ◌+◌, ◌<◌, ◌≤◌, ◌||◌, not, Bool, false, List, [], ◌∷◌, ◌++◌, length, map, Some, None, is_some, is_none, nat_lt, nat_le, refl, ◌∙◌, ap, arith}
use Rattle.std.specs.List.{list_any}
use Rattle.std.proofs.lemmas.Bool.{or_from, le-ltb, lt-leb}
use Rattle.std.proofs.lemmas.List.{length-map}
use Rattle.std.proofs.lemmas.List.Elements.{recursion_from_All}
use Rattle.reader_faults.specs.declared.loops.LoopFaultKind.{LoopFaultKind}
use Rattle.reader_faults.specs.declared.loops.LoopFaultKind.TheVariants.{Limit, RepeatedName}
use Rattle.loop_data.specs.declared.language.lists.Array.{Array}
use Rattle.loop_data.specs.declared.language.lists.Param.{Param}
use Rattle.loop_lines.specs.Forms.{Form}
use Rattle.loop_data.specs.Loops.{LoopData, IsLoop, IsName}
use Rattle.loop_reader.specs.Meaning.{Kinds, declared, is_array, is_long, is_param, is_statement, how_many, when}
use Rattle.loops.proofs.faultless.Insides.{IsFine, AreFine, fine-mapped}
use Rattle.loops.proofs.faultless.Lookups.{array-cut, declared-new, how_many-all, how_many-append, how_many-none, param-cut}
use Rattle.loops.proofs.Parts.{all-at, at-front, front-within, none-joined, none-made}
use Rattle.loops.proofs.faultless.ShortNames.{arrays-named, not-long, params-named}
use Rattle.loops.proofs.returned.Written.{array_form, param_form, body_forms}

-- faults

pub no-fault : (b : Bool) (kind : LoopFaultKind) → b ≡ false → when b kind ≡ []
no-fault b kind h = ap (λ t. when t kind) h

pub no-faults : (xs ys : Kinds) → xs ≡ [] → ys ≡ [] → xs ++ ys ≡ []
no-faults xs ys h k = ap (λ zs. zs ++ ys) h ∙ k

pub not-declared : (before : List Form) (name : List ℕ) → declared before name ≡ None → is_some (declared before name) ≡ false
not-declared before name none = ap (λ o. is_some o) none

-- arrays

array-fine : (l : LoopData) → IsLoop l → (front : List Array) (a : Array) (after : List Array) → l.arrays ≡ front ++ a ∷ after → IsFine (body_forms l) (map array_form front) (array_form a)
array-fine l is front a after e =
    let before : List Form = map array_form front in
    let at = at-front l.arrays front a after e in
    let named = all-at (λ (a : Array). IsName a.name) l.arrays (length front) a (arrays-named l is) at in
    let small : length a.cells ≤ 1024 = all-at (λ (a : Array). length a.cells ≤ 1024) l.arrays (length front) a (recursion_from_All (λ (a : Array). length a.cells ≤ 1024) l.arrays is.cells) at in
    let count : how_many is_array before ≡ length front = how_many-all is_array array_form front (λ a. refl) in
    let few : how_many is_array before < 32 = omega (arith, front-within l.arrays front a after e, is.arrays) in
    let size : length (map Some a.cells) ≤ 1024 = omega (arith, length-map a.cells (λ (c : ℤ). Some c)) in
    let cut = array-cut l front a after e in
    let new = declared-new l is before cut.0 (array_form a) a.name cut.1 refl in
    record {
      goes_on = refl;
      standing = ap not (none-made is_statement array_form (λ a. refl) front);
      faultless = no-faults
          (when (is_long a.name || list_any is_none (map Some a.cells) || nat_lt 1024 (length (map Some a.cells)) || nat_le 32 (how_many is_array before)) Limit) (when (is_some (declared before a.name)) RepeatedName)
          (no-fault (is_long a.name || list_any is_none (map Some a.cells) || nat_lt 1024 (length (map Some a.cells)) || nat_le 32 (how_many is_array before)) Limit
          (or_from (is_long a.name || list_any is_none (map Some a.cells) || nat_lt 1024 (length (map Some a.cells))) (nat_le 32 (how_many is_array before))
          (or_from (is_long a.name || list_any is_none (map Some a.cells)) (nat_lt 1024 (length (map Some a.cells)))
          (or_from (is_long a.name) (list_any is_none (map Some a.cells)) (not-long a.name named) (none-made is_none Some (λ c. refl) a.cells))
          (le-ltb 1024 (length (map Some a.cells)) size))
          (lt-leb 32 (how_many is_array before) few)))
          (no-fault (is_some (declared before a.name)) RepeatedName (not-declared before a.name new));
    }

pub arrays-fine : (l : LoopData) → IsLoop l → AreFine (body_forms l) [] (map array_form l.arrays)
arrays-fine l is = fine-mapped (body_forms l) [] array_form l.arrays (array-fine l is)

-- parameters

param-fine : (l : LoopData) → IsLoop l → (front : List Param) (p : Param) (after : List Param) → l.params ≡ front ++ p ∷ after
    → IsFine (body_forms l) (map array_form l.arrays ++ map param_form front) (param_form p)
param-fine l is front p after e =
    let arrays : List Form = map array_form l.arrays in
    let before : List Form = arrays ++ map param_form front in
    let named = all-at (λ (p : Param). IsName p.name) l.params (length front) p (params-named l is) (at-front l.params front p after e) in
    let none : how_many is_param arrays ≡ 0 = how_many-none is_param array_form l.arrays (λ a. refl) in
    let some : how_many is_param (map param_form front) ≡ length front = how_many-all is_param param_form front (λ p. refl) in
    let count : how_many is_param before ≡ how_many is_param arrays + how_many is_param (map param_form front) = how_many-append is_param arrays (map param_form front) in
    let few : how_many is_param before < 64 = omega (arith, front-within l.params front p after e, is.params) in
    let cut = param-cut l front p after e in
    let new = declared-new l is before cut.0 (param_form p) p.name cut.1 refl in
    record {
      goes_on = refl;
      standing = ap not (none-joined is_statement arrays (map param_form front) (none-made is_statement array_form (λ a. refl) l.arrays) (none-made is_statement param_form (λ p. refl) front));
      faultless = no-faults
          (when (is_long p.name || false || nat_le 64 (how_many is_param before)) Limit) (when (is_some (declared before p.name)) RepeatedName)
          (no-fault (is_long p.name || false || nat_le 64 (how_many is_param before)) Limit
          (or_from (is_long p.name || false) (nat_le 64 (how_many is_param before))
          (or_from (is_long p.name) false (not-long p.name named) refl)
          (lt-leb 64 (how_many is_param before) few)))
          (no-fault (is_some (declared before p.name)) RepeatedName (not-declared before p.name new));
    }

pub params-fine : (l : LoopData) → IsLoop l → AreFine (body_forms l) (map array_form l.arrays) (map param_form l.params)
params-fine l is = fine-mapped (body_forms l) (map array_form l.arrays) param_form l.params (param-fine l is)
