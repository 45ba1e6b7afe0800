-- Names and initial values are found among the lines of a loop's canonical text.
use Rattle.std.proofs.Common.{◌≡◌, ◌≢◌, ℕ, zero, suc, ◌+◌, ◌<◌, Bool, true, false, cond, ◌||◌, ◌==◌, List, [], ◌∷◌, ◌++◌, length, map, Option, Some, None, IsSome, unwrap_or, refl, sym, ap, ◌∙◌, subst, arith, append_assoc, length-append}
use Rattle.std.specs.List.{AllPairs, filter_map, cons_option, list_any, slice_get}
use Rattle.std.specs.Option.{option_or, option_map, option_and_then}
use Rattle.std.proofs.lemmas.Bool.{or_left, or_right, and_from, eq-eqb, false≢true}
use Rattle.std.proofs.lemmas.List.{map-append, append-nil, get_or_at, get_or_append_left}
use Rattle.std.proofs.lemmas.List.Elements.{filter_map-append}
use Rattle.std.proofs.lemmas.List.Folds.{list_any-append}
use Rattle.std.proofs.lemmas.List.Sums.{sum_by-append}
use Rattle.std.proofs.lemmas.Option.{none-some, same_Some, slice_get_within, get_or_from_slice_get}
use Rattle.machine_data.specs.Opcodes.{same_word}
use Rattle.loop_data.specs.declared.language.lists.Array.{Array}
use Rattle.loop_data.specs.declared.language.lists.Param.{Param}
use Rattle.loop_data.specs.declared.language.lists.Initial.{Initial}
use Rattle.loop_data.specs.declared.language.statement.Statement.{Statement}
use Rattle.loop_lines.specs.Forms.{Form, ArrayLine, ParamLine, StatementLine}
use Rattle.loop_data.specs.Loops.{LoopData, IsLoop, GivesValue, HasInitial, declared_names, value_names}
use Rattle.loop_reader.specs.Meaning.{Declared, AnArray, AParam, AValue, declared_by, first_declared, declared, how_many, is_array, is_param, is_statement, is_init, has_init, any_name}
use Rattle.loops.specs.Text.{array_name, param_name, value_name}
use Rattle.loop_reader.proofs.faults.Checking.{not-from}
use Rattle.loop_reader.proofs.lookups.Declared.{declared_after, declared-append, how_many-cons, same_word-here, same_word-yes}
use Rattle.loop_reader.proofs.making.Numbered.{Has, has-after, has-first}
use Rattle.loops.proofs.returned.Written.{array_form, param_form, init_form, statement_form, out_form, body_forms}
use Rattle.loops.proofs.spelling.LoopNames.{get-some}

-- lists cut at an element

-- an element with what stands before it and after it
abbrev pub CutAt : {X : Type 0} → List X → ℕ → X → Type 0
CutAt {X} xs k x = (front : List X) × (back : List X) × (xs ≡ front ++ x ∷ back) × (length front ≡ k)

pub cut-at : {X : Type 0} (xs : List X) (k : ℕ) (x : X) → slice_get xs k ≡ Some x → CutAt xs k x
cut-at [] k x e = absurd (none-some x e)
cut-at (y ∷ xs) zero x e = ([], xs, ap (λ z. z ∷ xs) (same_Some y x e), refl)
cut-at (y ∷ xs) (suc k) x e =
    let c = cut-at xs k x e in
    (y ∷ c.0, c.1, ap (λ zs. y ∷ zs) c.2, ap suc c.3)

cut-map : {X Y : Type 0} (f : X → Y) (xs : List X) (front : List X) (x : X) (back : List X) → xs ≡ front ++ x ∷ back → map f xs ≡ map f front ++ f x ∷ map f back
cut-map f xs front x back e = ap (map f) e ∙ map-append f front (x ∷ back)

cut-left : {X : Type 0} (xs ys front : List X) (x : X) (back : List X) → xs ≡ front ++ x ∷ back → xs ++ ys ≡ front ++ x ∷ (back ++ ys)
cut-left xs ys front x back e = ap (λ zs. zs ++ ys) e ∙ append_assoc front (x ∷ back) ys

cut-right : {X : Type 0} (xs ys front : List X) (x : X) (back : List X) → ys ≡ front ++ x ∷ back → xs ++ ys ≡ (xs ++ front) ++ x ∷ back
cut-right xs ys front x back e = ap (λ zs. xs ++ zs) e ∙ sym (append_assoc xs front (x ∷ back))

-- names that lines declare

-- the name that a line declares
abbrev pub name_in : Form → Option (List ℕ)
name_in (ArrayLine name cells) = Some name
name_in (ParamLine name value) = Some name
name_in (StatementLine source) = source.name
name_in _ = None

abbrev pub names_in : List Form → List (List ℕ)
names_in forms = filter_map name_in forms

other-declared : (b : Bool) (d : Declared) → b ≡ false → (cond b (Some d) None) ≡ None
other-declared true d h = cc
other-declared false d h = refl

no-any : (name : List ℕ) (o : Option (List ℕ)) → (o ≡ Some name → ⊥) → any_name (same_word name) o ≡ false
no-any name None h = refl
no-any name (Some other) h = not-from (same_word name other) (λ t. h (ap Some (sym (same_word-yes name other t))))

declared_by-none : (name : List ℕ) (a p s : ℕ) (form : Form) → (name_in form ≡ Some name → ⊥) → declared_by name a p s form ≡ None
declared_by-none name a p s (ArrayLine other cells) h = other-declared (same_word name other) (AnArray a) (no-any name (Some other) h)
declared_by-none name a p s (ParamLine other value) h = other-declared (same_word name other) (AParam p) (no-any name (Some other) h)
declared_by-none name a p s (StatementLine source) h = other-declared (any_name (same_word name) source.name) (AValue s) (no-any name source.name h)
declared_by-none name a p s _ h = refl

first_declared-none : (name : List ℕ) (before forms : List Form) → (Has (names_in forms) name → ⊥) → first_declared name before forms ≡ None
first_declared-none name before [] h = refl
first_declared-none name before (form ∷ forms) h =
    ap (λ o. option_or o (first_declared name (before ++ form ∷ []) forms))
    (declared_by-none name (how_many is_array before) (how_many is_param before) (how_many is_statement before) form (λ e. h (has-first (name_in form) (names_in forms) name e)))
    ∙ first_declared-none name (before ++ form ∷ []) forms (λ k. h (has-after (name_in form) (names_in forms) name k))

-- a name that no line declares
pub declared-none : (name : List ℕ) (forms : List Form) → (Has (names_in forms) name → ⊥) → declared forms name ≡ None
unfolding declared
declared-none name forms h = first_declared-none name [] forms h

-- the lines of the canonical text declare the names that the loop declares

names-map : {X Y : Type 0} (f : X → Form) (g : X → Option Y) (xs : List X) (h : Form → Option Y) → ((x : X) → h (f x) ≡ g x) → filter_map h (map f xs) ≡ filter_map g xs
names-map f g [] h e = refl
names-map f g (x ∷ xs) h e = ap (λ o. cons_option o (filter_map h (map f xs))) (e x) ∙ ap (cons_option (g x)) (names-map f g xs h e)

all-kept : {X Y : Type 0} (g : X → Y) (xs : List X) → filter_map (λ x. Some (g x)) xs ≡ map g xs
all-kept g [] = refl
all-kept g (x ∷ xs) = ap (λ ys. g x ∷ ys) (all-kept g xs)

none-kept : {X Y : Type 0} (xs : List X) → filter_map {Y = Y} (λ (x : X). None) xs ≡ []
none-kept [] = refl
none-kept (x ∷ xs) = none-kept xs

pub names-written : (l : LoopData) → names_in (body_forms l) ≡ declared_names l
names-written l =
    let a = map array_form l.arrays in
    let p = map param_form l.params in
    let i = map (init_form l) l.inits in
    let s = map (statement_form l) l.statements in
    let o = map (out_form l) l.outs in
    let na : names_in a ≡ map (λ (x : Array). x.name) l.arrays = names-map array_form (λ (x : Array). Some x.name) l.arrays name_in (λ x. refl) ∙ all-kept (λ (x : Array). x.name) l.arrays in
    let np : names_in p ≡ map (λ (x : Param). x.name) l.params = names-map param_form (λ (x : Param). Some x.name) l.params name_in (λ x. refl) ∙ all-kept (λ (x : Param). x.name) l.params in
    let ni : names_in i ≡ [] = names-map (init_form l) (λ x. None) l.inits name_in (λ x. refl) ∙ none-kept l.inits in
    let ns : names_in s ≡ value_names l = names-map (statement_form l) (λ (x : Statement). x.name) l.statements name_in (λ x. refl) in
    let no : names_in o ≡ [] = names-map (out_form l) (λ x. None) l.outs name_in (λ x. refl) ∙ none-kept l.outs in
    filter_map-append name_in (((a ++ p) ++ i) ++ s) o ∙ ap (λ z. names_in (((a ++ p) ++ i) ++ s) ++ z) no ∙ append-nil (names_in (((a ++ p) ++ i) ++ s))
    ∙ filter_map-append name_in ((a ++ p) ++ i) s ∙ ap (λ z. names_in ((a ++ p) ++ i) ++ z) ns
    ∙ ap (λ z. z ++ value_names l)
    (filter_map-append name_in (a ++ p) i ∙ ap (λ z. names_in (a ++ p) ++ z) ni ∙ append-nil (names_in (a ++ p))
    ∙ filter_map-append name_in a p ∙ ap (λ z. z ++ names_in p) na ∙ ap (λ z. map (λ (x : Array). x.name) l.arrays ++ z) np)

-- an element that stands later in a list without repetition stands nowhere before
apart-before : {X : Type 0} (xs : List X) (x : X) (ys : List X) → AllPairs (λ a b. a ≢ b) (xs ++ x ∷ ys) → Has xs x → ⊥
apart-before xs x ys apart h =
    let k = h.0 in
    let within = slice_get_within xs k x h.1 in
    let long = length-append xs (x ∷ ys) in
    apart k (length xs) x within (omega arith) (get_or_append_left xs (x ∷ ys) x k within ∙ get_or_from_slice_get xs k x x h.1 ∙ sym (get_or_at xs x ys x (length xs) refl))

names-cut : (l : LoopData) (before after : List Form) (form : Form) (name : List ℕ) → body_forms l ≡ before ++ form ∷ after → name_in form ≡ Some name → declared_names l ≡ names_in before ++ name ∷ names_in after
names-cut l before after form name split named =
    sym (names-written l) ∙ ap names_in split ∙ filter_map-append name_in before (form ∷ after) ∙ ap (λ o. names_in before ++ cons_option o (names_in after)) named

-- no name is declared twice
pub declared-new : (l : LoopData) → IsLoop l → (before after : List Form) (form : Form) (name : List ℕ) → body_forms l ≡ before ++ form ∷ after
    → name_in form ≡ Some name → declared before name ≡ None
declared-new l is before after form name split named =
    declared-none name before (apart-before (names_in before) name (names_in after) (subst (AllPairs (λ a b. a ≢ b)) (names-cut l before after form name split named) is.different))

-- what a line declares is found by its name
declared-there : (l : LoopData) → IsLoop l → (before after : List Form) (form : Form) (name : List ℕ) (d : Declared) → body_forms l ≡ before ++ form ∷ after
    → name_in form ≡ Some name → declared_after name before form ≡ Some d → declared (body_forms l) name ≡ Some d
declared-there l is before after form name d split named here =
    ap (λ b. declared b name) split ∙ declared-append name before (form ∷ after)
    ∙ ap (λ o. option_or o (first_declared name before (form ∷ after))) (declared-new l is before after form name split named)
    ∙ ap (λ o. option_or o (first_declared name (before ++ form ∷ []) after)) here

-- lines of one kind, counted

abbrev counted : Bool → ℕ
counted b = cond b 1 0

pub how_many-append : (p : Form → Bool) (xs ys : List Form) → how_many p (xs ++ ys) ≡ how_many p xs + how_many p ys
how_many-append p xs ys = sum_by-append (λ f. cond (p f) 1 0) xs ys

pub how_many-all : {X : Type 0} (p : Form → Bool) (f : X → Form) (xs : List X) → ((x : X) → p (f x) ≡ true) → how_many p (map f xs) ≡ length xs
how_many-all p f [] h = refl
how_many-all p f (x ∷ xs) h =
    let c = how_many-cons p (f x) (map f xs) in
    let one = ap counted (h x) in
    omega (arith, how_many-all p f xs h)

pub how_many-none : {X : Type 0} (p : Form → Bool) (f : X → Form) (xs : List X) → ((x : X) → p (f x) ≡ false) → how_many p (map f xs) ≡ 0
how_many-none p f [] h = refl
how_many-none p f (x ∷ xs) h =
    let c = how_many-cons p (f x) (map f xs) in
    let one = ap counted (h x) in
    omega (arith, how_many-none p f xs h)

-- where the lines of each kind stand

pub array-cut : (l : LoopData) (front : List Array) (a : Array) (back : List Array) → l.arrays ≡ front ++ a ∷ back
    → (after : List Form) × (body_forms l ≡ map array_form front ++ array_form a ∷ after)
array-cut l front a back e =
    let arrays = map array_form l.arrays in
    let params = map param_form l.params in
    let inits = map (init_form l) l.inits in
    let statements = map (statement_form l) l.statements in
    let outs = map (out_form l) l.outs in
    let f = map array_form front in
    let x = array_form a in
    let b = map array_form back in
    let one = cut-left arrays params f x b (cut-map array_form l.arrays front a back e) in
    let two = cut-left (arrays ++ params) inits f x (b ++ params) one in
    let three = cut-left ((arrays ++ params) ++ inits) statements f x ((b ++ params) ++ inits) two in
    (((((b ++ params) ++ inits) ++ statements) ++ outs), cut-left (((arrays ++ params) ++ inits) ++ statements) outs f x (((b ++ params) ++ inits) ++ statements) three)

pub param-cut : (l : LoopData) (front : List Param) (p : Param) (back : List Param) → l.params ≡ front ++ p ∷ back
    → (after : List Form) × (body_forms l ≡ (map array_form l.arrays ++ map param_form front) ++ param_form p ∷ after)
param-cut l front p back e =
    let arrays = map array_form l.arrays in
    let params = map param_form l.params in
    let inits = map (init_form l) l.inits in
    let statements = map (statement_form l) l.statements in
    let outs = map (out_form l) l.outs in
    let f = map param_form front in
    let x = param_form p in
    let b = map param_form back in
    let one = cut-right arrays params f x b (cut-map param_form l.params front p back e) in
    let two = cut-left (arrays ++ params) inits (arrays ++ f) x b one in
    let three = cut-left ((arrays ++ params) ++ inits) statements (arrays ++ f) x (b ++ inits) two in
    (((b ++ inits) ++ statements) ++ outs, cut-left (((arrays ++ params) ++ inits) ++ statements) outs (arrays ++ f) x ((b ++ inits) ++ statements) three)

pub init-cut : (l : LoopData) (front : List Initial) (i : Initial) (back : List Initial) → l.inits ≡ front ++ i ∷ back
    → (after : List Form) × (body_forms l ≡ ((map array_form l.arrays ++ map param_form l.params) ++ map (init_form l) front) ++ init_form l i ∷ after)
init-cut l front i back e =
    let front_lines = map array_form l.arrays ++ map param_form l.params in
    let inits = map (init_form l) l.inits in
    let statements = map (statement_form l) l.statements in
    let outs = map (out_form l) l.outs in
    let f = map (init_form l) front in
    let x = init_form l i in
    let b = map (init_form l) back in
    let one = cut-right front_lines inits f x b (cut-map (init_form l) l.inits front i back e) in
    let two = cut-left (front_lines ++ inits) statements (front_lines ++ f) x b one in
    ((b ++ statements) ++ outs, cut-left ((front_lines ++ inits) ++ statements) outs (front_lines ++ f) x (b ++ statements) two)

pub statement-cut : (l : LoopData) (front : List Statement) (s : Statement) (back : List Statement) → l.statements ≡ front ++ s ∷ back
    → (after : List Form) × (body_forms l ≡ (((map array_form l.arrays ++ map param_form l.params) ++ map (init_form l) l.inits) ++ map (statement_form l) front) ++ statement_form l s ∷ after)
statement-cut l front s back e =
    let api = (map array_form l.arrays ++ map param_form l.params) ++ map (init_form l) l.inits in
    let statements = map (statement_form l) l.statements in
    let outs = map (out_form l) l.outs in
    let f = map (statement_form l) front in
    let x = statement_form l s in
    let b = map (statement_form l) back in
    let one = cut-right api statements f x b (cut-map (statement_form l) l.statements front s back e) in
    (b ++ outs, cut-left (api ++ statements) outs (api ++ f) x b one)

-- arrays

pub array-found : (l : LoopData) → IsLoop l → (k : ℕ) (a : Array) → slice_get l.arrays k ≡ Some a → declared (body_forms l) a.name ≡ Some (AnArray k)
array-found l is k a e =
    let c = cut-at l.arrays k a e in
    let before = map array_form c.0 in
    let count = how_many-all is_array array_form c.0 (λ x. refl) ∙ c.3 in
    let split = array-cut l c.0 a c.1 c.2 in
    declared-there l is before split.0 (array_form a) a.name (AnArray k) split.1 refl
    (ap (λ b. cond b (Some (AnArray (how_many is_array before))) None) (same_word-here a.name) ∙ ap (λ n. Some (AnArray n)) count)

pub array_named : (l : LoopData) (k : ℕ) (a : Array) → slice_get l.arrays k ≡ Some a → array_name l k ≡ a.name
array_named l k a e = ap (λ o. unwrap_or (option_map (λ (a : Array). a.name) o) []) e

pub declared-array : (l : LoopData) → IsLoop l → (k : ℕ) → k < length l.arrays → declared (body_forms l) (array_name l k) ≡ Some (AnArray k)
declared-array l is k inside =
    let a = get-some l.arrays k inside in
    ap (declared (body_forms l)) (array_named l k a.0 a.1) ∙ array-found l is k a.0 a.1

-- parameters

pub param-found : (l : LoopData) → IsLoop l → (k : ℕ) (p : Param) → slice_get l.params k ≡ Some p → declared (body_forms l) p.name ≡ Some (AParam k)
param-found l is k p e =
    let c = cut-at l.params k p e in
    let arrays = map array_form l.arrays in
    let front = map param_form c.0 in
    let others = how_many-none is_param array_form l.arrays (λ x. refl) in
    let own = how_many-all is_param param_form c.0 (λ x. refl) in
    let joined = how_many-append is_param arrays front in
    let size = c.3 in
    let count : how_many is_param (arrays ++ front) ≡ k = omega arith in
    let split = param-cut l c.0 p c.1 c.2 in
    declared-there l is (arrays ++ front) split.0 (param_form p) p.name (AParam k) split.1 refl
    (ap (λ b. cond b (Some (AParam (how_many is_param (arrays ++ front)))) None) (same_word-here p.name) ∙ ap (λ n. Some (AParam n)) count)

pub param_named : (l : LoopData) (k : ℕ) (p : Param) → slice_get l.params k ≡ Some p → param_name l k ≡ p.name
param_named l k p e = ap (λ o. unwrap_or (option_map (λ (p : Param). p.name) o) []) e

pub declared-param : (l : LoopData) → IsLoop l → (k : ℕ) → k < length l.params → declared (body_forms l) (param_name l k) ≡ Some (AParam k)
declared-param l is k inside =
    let p = get-some l.params k inside in
    ap (declared (body_forms l)) (param_named l k p.0 p.1) ∙ param-found l is k p.0 p.1

-- values

pub value-found : (l : LoopData) → IsLoop l → (k : ℕ) (s : Statement) (name : List ℕ) → slice_get l.statements k ≡ Some s → s.name ≡ Some name → declared (body_forms l) name ≡ Some (AValue k)
value-found l is k s name e named =
    let c = cut-at l.statements k s e in
    let arrays = map array_form l.arrays in
    let params = map param_form l.params in
    let inits = map (init_form l) l.inits in
    let front = map (statement_form l) c.0 in
    let n1 = how_many-none is_statement array_form l.arrays (λ x. refl) in
    let n2 = how_many-none is_statement param_form l.params (λ x. refl) in
    let n3 = how_many-none is_statement (init_form l) l.inits (λ x. refl) in
    let n4 = how_many-all is_statement (statement_form l) c.0 (λ x. refl) in
    let j1 = how_many-append is_statement arrays params in
    let j2 = how_many-append is_statement (arrays ++ params) inits in
    let before = ((arrays ++ params) ++ inits) ++ front in
    let j3 = how_many-append is_statement ((arrays ++ params) ++ inits) front in
    let size = c.3 in
    let count : how_many is_statement before ≡ k = omega arith in
    let split = statement-cut l c.0 s c.1 c.2 in
    declared-there l is before split.0 (statement_form l s) name (AValue k) split.1 named
    (ap (λ o. cond (any_name (same_word name) o) (Some (AValue (how_many is_statement before))) None) named
    ∙ ap (λ b. cond b (Some (AValue (how_many is_statement before))) None) (same_word-here name) ∙ ap (λ n. Some (AValue n)) count)

some-there : {X : Type 0} (o : Option X) → IsSome o → (x : X) × (o ≡ Some x)
some-there None h = absurd (false≢true h)
some-there (Some x) h = (x, refl)

pub value_named : (l : LoopData) (k : ℕ) (s : Statement) (name : List ℕ) → slice_get l.statements k ≡ Some s → s.name ≡ Some name → value_name l k ≡ name
value_named l k s name e named = ap (λ o. unwrap_or (option_and_then (λ (s : Statement). s.name) o) []) e ∙ ap (λ o. unwrap_or o []) named

-- a statement that gives a value has the name by which that is written
pub gives-named : (l : LoopData) (k : ℕ) → (g : GivesValue l k) → g.0.name ≡ Some (value_name l k)
gives-named l k g =
    let name = some-there g.0.name g.2 in
    name.1 ∙ ap Some (sym (value_named l k g.0 name.0 g.1 name.1))

pub declared-value : (l : LoopData) → IsLoop l → (k : ℕ) → GivesValue l k → declared (body_forms l) (value_name l k) ≡ Some (AValue k)
declared-value l is k gives = value-found l is k gives.0 (value_name l k) gives.1 (gives-named l k gives)

-- initial values

pub any-at : (p : Form → Bool) (front : List Form) (x : Form) (back : List Form) → p x ≡ true → list_any p (front ++ x ∷ back) ≡ true
any-at p front x back h =
    list_any-append p front (x ∷ back) ∙ or_right (list_any p front) (p x || list_any p back) (or_left (p x) (list_any p back) h)

pub init-yes : (l : LoopData) (s n : ℕ) (i : Initial) → i.statement ≡ s → i.number ≡ n → is_init (value_name l s) (Some n) (init_form l i) ≡ true
init-yes l s n i same number =
    and_from (same_word (value_name l s) (value_name l i.statement)) (n == i.number)
    (ap (λ t. same_word (value_name l s) (value_name l t)) same ∙ same_word-here (value_name l s)) (eq-eqb n i.number (sym number))

pub has_init-there : (l : LoopData) (s n : ℕ) → HasInitial l s n → has_init (body_forms l) (value_name l s) n ≡ true
has_init-there l s n has =
    let i = has.1 in
    let c = cut-at l.inits has.0 i has.2 in
    let split = init-cut l c.0 i c.1 c.2 in
    let before = (map array_form l.arrays ++ map param_form l.params) ++ map (init_form l) c.0 in
    ap (λ b. has_init b (value_name l s) n) split.1 ∙ any-at (is_init (value_name l s) (Some n)) before (init_form l i) split.0 (init-yes l s n i has.3 has.4)
