-- The names of a loop are names, of at most 16 bytes.
use Rattle.std.proofs.Common.{◌≡◌, ℕ, ◌<◌, false, List, ◌++◌, length, map, Some, sym, subst}
use Rattle.std.specs.List.{AllByRecursion, slice_get}
use Rattle.std.proofs.lemmas.Bool.{le-ltb}
use Rattle.std.proofs.lemmas.List.Elements.{recursion_from_All}
use Rattle.loop_data.specs.declared.language.lists.Array.{Array}
use Rattle.loop_data.specs.declared.language.lists.Param.{Param}
use Rattle.loop_data.specs.declared.language.statement.Statement.{Statement}
use Rattle.loop_data.specs.Loops.{LoopData, IsLoop, IsName, GivesValue, declared_names, value_names}
use Rattle.loop_reader.specs.Meaning.{is_long}
use Rattle.loops.specs.Text.{array_name, param_name, value_name}
use Rattle.loops.proofs.faultless.Lookups.{array_named, param_named, gives-named}
use Rattle.loops.proofs.Parts.{all-at, all-left, all-right, all-unmapped, all-unfiltered}
use Rattle.loop_data.proofs.Instances.{element_at}

pub not-long : (name : List ℕ) → IsName name → is_long name ≡ false
not-long name h = le-ltb 16 (length name) h.short

-- of arrays and parameters

heads-named : (l : LoopData) → IsLoop l → AllByRecursion IsName (map (λ (a : Array). a.name) l.arrays ++ map (λ (p : Param). p.name) l.params)
heads-named l is = all-left IsName (map (λ (a : Array). a.name) l.arrays ++ map (λ (p : Param). p.name) l.params) (value_names l) (recursion_from_All IsName (declared_names l) is.names)

pub arrays-named : (l : LoopData) → IsLoop l → AllByRecursion (λ (a : Array). IsName a.name) l.arrays
arrays-named l is = all-unmapped IsName (λ (a : Array). a.name) l.arrays (all-left IsName (map (λ (a : Array). a.name) l.arrays) (map (λ (p : Param). p.name) l.params) (heads-named l is))

pub params-named : (l : LoopData) → IsLoop l → AllByRecursion (λ (p : Param). IsName p.name) l.params
params-named l is = all-unmapped IsName (λ (p : Param). p.name) l.params (all-right IsName (map (λ (a : Array). a.name) l.arrays) (map (λ (p : Param). p.name) l.params) (heads-named l is))

pub array-short : (l : LoopData) → IsLoop l → (k : ℕ) → k < length l.arrays → IsName (array_name l k)
array-short l is k within =
    let a = element_at l.arrays k within in
    subst IsName (sym (array_named l k a.0 a.1)) (all-at (λ (a : Array). IsName a.name) l.arrays k a.0 (arrays-named l is) a.1)

pub param-short : (l : LoopData) → IsLoop l → (k : ℕ) → k < length l.params → IsName (param_name l k)
param-short l is k within =
    let p = element_at l.params k within in
    subst IsName (sym (param_named l k p.0 p.1)) (all-at (λ (p : Param). IsName p.name) l.params k p.0 (params-named l is) p.1)

-- of values

abbrev IsNamed : Statement → Type 0
IsNamed s = (name : List ℕ) → s.name ≡ Some name → IsName name

statements-named : (l : LoopData) → IsLoop l → AllByRecursion IsNamed l.statements
statements-named l is =
    all-unfiltered IsName (λ (s : Statement). s.name) l.statements
    (all-right IsName (map (λ (a : Array). a.name) l.arrays ++ map (λ (p : Param). p.name) l.params) (value_names l) (recursion_from_All IsName (declared_names l) is.names))

pub statement-named : (l : LoopData) → IsLoop l → (k : ℕ) (s : Statement) (name : List ℕ) → slice_get l.statements k ≡ Some s → s.name ≡ Some name → IsName name
statement-named l is k s name e named = all-at IsNamed l.statements k s (statements-named l is) e name named

pub value-short : (l : LoopData) → IsLoop l → (k : ℕ) → GivesValue l k → IsName (value_name l k)
value-short l is k gives = statement-named l is k gives.0 (value_name l k) gives.1 (gives-named l k gives)
