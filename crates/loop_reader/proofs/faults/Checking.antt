-- The look-ups of the reader give the faults of a line.
use Rattle.std.proofs.Common.{◌≡◌, ◌⊎◌, ℕ, zero, suc, ℤ, ◌<◌, ◌≤◌, ◌==◌, ◌&&◌, ◌||◌, not, Bool, true, false, if◌then◌else◌, List, [], ◌∷◌, ◌++◌, length, Option, Some, None, is_some, is_none, refl, sym, ◌∙◌, ap, subst, inl, inr, ⊎_elim, nat_lt, nat_le, arith, append_assoc}
use Rattle.std.specs.Option.{option_or}
use Rattle.std.specs.List.{list_any, AllByRecursion}
use Rattle.std.proofs.lemmas.Bool.{false_from_ne_true, eq-eqb, eqb-true, false≢true}
use Rattle.std.proofs.lemmas.List.{append-nil}
use Rattle.std.proofs.lemmas.List.Folds.{list_any-append}
use Rattle.machine_data.specs.Opcodes.{same_word}
use Rattle.reader_faults.specs.declared.loops.LoopFaultKind.TheVariants.{Limit, RepeatedName, UnknownName, UseBeforeDefinition, MissingInit}
use Rattle.loop_reader.specs.declared.names.index.Counts.{Counts}
use Rattle.loop_lines.specs.Forms.{Form, LoopLine, ArrayLine, ParamLine, InitLine, StatementLine, OutLine, EndLine, Malformed, StatementForm, Use, Number, Plain, At}
use Rattle.loop_reader.specs.Meaning.{Declared, AnArray, AParam, AValue, declared, first_declared, how_many, is_array, is_param, is_statement, is_value, is_init, is_out_of, has_init, has_inits, has_statement, is_uncovered, is_wide, is_wide_place, is_unknown, is_unknown_place, is_early, stands, any_name, faults_of, when, is_long, is_outside, Kinds}
use Rattle.loop_reader.specs.inner.Blocks.{one_if}
use Rattle.loop_lines.specs.Near.{IsNear, IsNearForm, IsNearUse}
use Rattle.loop_reader.specs.inner.Checks.{is_that, is_given, is_live, covers, covers_name, lacks_init, kinds_at, IsCounted, IsGiven}
use Rattle.loop_reader.proofs.blocks.Reading.{is_end}
use Rattle.loop_reader.proofs.lookups.Declared.{declared-append, same_word-here, how_many-cons}
use Rattle.std.proofs.lemmas.List.Sums.{sum_by-append}

pub how_many-seam : (p : Form → Bool) (before : List Form) (form : Form) (forms : List Form) → p form ≡ true → how_many p before < how_many p (before ++ form ∷ forms)
how_many-seam p before form forms h =
    let a = sum_by-append (λ f. if p f then 1 else 0) before (form ∷ forms) in
    let b = how_many-cons p form forms in
    let c = ap one_if h in
    omega arith

below-either : (all : List Form) (b : Bool) (d : Declared) (rest : Option Declared) → IsCounted all (Some d) → IsCounted all rest → IsCounted all (option_or (if b then Some d else None) rest)
below-either all true d rest h k = h
below-either all false d rest h k = k

first-below : (q : List ℕ) (before : List Form) (form : Form) (forms : List Form) → IsCounted (before ++ form ∷ forms) (first_declared q (before ++ form ∷ []) forms) → IsCounted (before ++ form ∷ forms) (first_declared q before (form ∷ forms))
first-below q before (LoopLine n) forms rest = rest
first-below q before (ArrayLine n c) forms rest = below-either (before ++ ArrayLine n c ∷ forms) (same_word q n) (AnArray (how_many is_array before)) (first_declared q (before ++ ArrayLine n c ∷ []) forms) (how_many-seam is_array before (ArrayLine n c) forms refl) rest
first-below q before (ParamLine n v) forms rest = below-either (before ++ ParamLine n v ∷ forms) (same_word q n) (AParam (how_many is_param before)) (first_declared q (before ++ ParamLine n v ∷ []) forms) (how_many-seam is_param before (ParamLine n v) forms refl) rest
first-below q before (InitLine n m v) forms rest = rest
first-below q before (StatementLine s) forms rest = below-either (before ++ StatementLine s ∷ forms) (any_name (same_word q) s.name) (AValue (how_many is_statement before)) (first_declared q (before ++ StatementLine s ∷ []) forms) (how_many-seam is_statement before (StatementLine s) forms refl) rest
first-below q before (OutLine n) forms rest = rest
first-below q before EndLine forms rest = rest
first-below q before Malformed forms rest = rest

below-from : (q : List ℕ) (before forms : List Form) → IsCounted (before ++ forms) (first_declared q before forms)
below-from q before [] = tt
below-from q before (form ∷ forms) =
    first-below q before form forms (subst (λ all. IsCounted all (first_declared q (before ++ form ∷ []) forms)) (append_assoc before (form ∷ []) forms) (below-from q (before ++ form ∷ []) forms))

pub declared-below : (block : List Form) (q : List ℕ) → IsCounted block (declared block q)
unfolding declared
declared-below block q = below-from q [] block

pub counted-as : (block : List Form) (q : List ℕ) (d : Option Declared) → d ≡ declared block q → IsCounted block d
counted-as block q d e = subst (IsCounted block) (sym e) (declared-below block q)

-- a name is repeated where it does not stand for this line

apart : (m n : ℕ) → m < n → (n == m) ≡ false
apart m n h = false_from_ne_true (n == m) (λ e. absurd (omega (arith, eqb-true n m e)))

repeated : (b : Bool) → b ≡ true → true ≡ not (not b)
repeated b h = sym (ap (λ b. not (not b)) h)

that-array : (block : List Form) (d rest : Option Declared) → IsCounted block d → rest ≡ Some (AnArray (how_many is_array block)) → not (is_that (AnArray (how_many is_array block)) (option_or d rest)) ≡ is_some d
that-array block None rest h e = ap (λ r. not (is_that (AnArray (how_many is_array block)) r)) e ∙ ap not (eq-eqb (how_many is_array block) _ refl)
that-array block (Some (AnArray n)) rest h e = ap not (apart n (how_many is_array block) h)
that-array block (Some (AParam n)) rest h e = refl
that-array block (Some (AValue n)) rest h e = refl

that-param : (block : List Form) (d rest : Option Declared) → IsCounted block d → rest ≡ Some (AParam (how_many is_param block)) → not (is_that (AParam (how_many is_param block)) (option_or d rest)) ≡ is_some d
that-param block None rest h e = ap (λ r. not (is_that (AParam (how_many is_param block)) r)) e ∙ ap not (eq-eqb (how_many is_param block) _ refl)
that-param block (Some (AnArray n)) rest h e = refl
that-param block (Some (AParam n)) rest h e = ap not (apart n (how_many is_param block) h)
that-param block (Some (AValue n)) rest h e = refl

that-value : (block : List Form) (d rest : Option Declared) → IsCounted block d → rest ≡ Some (AValue (how_many is_statement block)) → not (is_that (AValue (how_many is_statement block)) (option_or d rest)) ≡ is_some d
that-value block None rest h e = ap (λ r. not (is_that (AValue (how_many is_statement block)) r)) e ∙ ap not (eq-eqb (how_many is_statement block) _ refl)
that-value block (Some (AnArray n)) rest h e = refl
that-value block (Some (AParam n)) rest h e = refl
that-value block (Some (AValue n)) rest h e = ap not (apart n (how_many is_statement block) h)

here-first : (b : Bool) (d : Declared) (rest : Option Declared) → b ≡ true → option_or (if b then Some d else None) rest ≡ Some d
here-first b d rest h = ap (λ b. option_or (if b then Some d else None) rest) h

pub repeated-array : (before after : List Form) (name : List ℕ) (cells : List (Option ℤ))
    → not (is_that (AnArray (how_many is_array before)) (declared (before ++ ArrayLine name cells ∷ after) name)) ≡ is_some (declared before name)
repeated-array before after name cells =
    ap (λ d. not (is_that (AnArray (how_many is_array before)) d)) (declared-append name before (ArrayLine name cells ∷ after))
    ∙ that-array before (declared before name) (first_declared name before (ArrayLine name cells ∷ after)) (declared-below before name)
    (here-first (same_word name name) (AnArray (how_many is_array before)) (first_declared name (before ++ ArrayLine name cells ∷ []) after) (same_word-here name))

pub repeated-param : (before after : List Form) (name : List ℕ) (value : Option ℤ)
    → not (is_that (AParam (how_many is_param before)) (declared (before ++ ParamLine name value ∷ after) name)) ≡ is_some (declared before name)
repeated-param before after name value =
    ap (λ d. not (is_that (AParam (how_many is_param before)) d)) (declared-append name before (ParamLine name value ∷ after))
    ∙ that-param before (declared before name) (first_declared name before (ParamLine name value ∷ after)) (declared-below before name)
    (here-first (same_word name name) (AParam (how_many is_param before)) (first_declared name (before ++ ParamLine name value ∷ []) after) (same_word-here name))

pub repeated-value : (before after : List Form) (source : StatementForm) (name : List ℕ) → source.name ≡ Some name
    → not (is_that (AValue (how_many is_statement before)) (declared (before ++ StatementLine source ∷ after) name)) ≡ is_some (declared before name)
repeated-value before after source name h =
    ap (λ d. not (is_that (AValue (how_many is_statement before)) d)) (declared-append name before (StatementLine source ∷ after))
    ∙ that-value before (declared before name) (first_declared name before (StatementLine source ∷ after)) (declared-below before name)
    (here-first (any_name (same_word name) source.name) (AValue (how_many is_statement before)) (first_declared name (before ++ StatementLine source ∷ []) after) (ap (any_name (same_word name)) h ∙ same_word-here name))

repeated-name : (before after : List Form) (source : StatementForm) (maybe : Option (List ℕ)) → source.name ≡ maybe
    → any_name (λ name. not (is_that (AValue (how_many is_statement before)) (declared (before ++ StatementLine source ∷ after) name))) maybe ≡ any_name (λ name. is_some (declared before name)) maybe
repeated-name before after source None h = refl
repeated-name before after source (Some name) h = repeated-value before after source name h

-- standing lines

abbrev pub IsStanding : List Form → List Form → Type 0
IsStanding before [] = Unit {0}
IsStanding before (form ∷ forms) = (stands before form ≡ true) × IsStanding (before ++ form ∷ []) forms

pub standing-at : (before front : List Form) (form : Form) (after : List Form) → IsStanding before (front ++ form ∷ after) → (stands (before ++ front) form ≡ true) × IsStanding ((before ++ front) ++ form ∷ []) after
standing-at before [] form after h = subst (λ b. (stands b form ≡ true) × IsStanding (b ++ form ∷ []) after) (sym (append-nil before)) h
standing-at before (f ∷ front) form after h = subst (λ b. (stands b form ≡ true) × IsStanding (b ++ form ∷ []) after) (append_assoc before (f ∷ []) front) (standing-at (before ++ f ∷ []) front form after h.1)

pub or-true : (b : Bool) → (b || true) ≡ true
or-true true = refl
or-true false = refl

statement-kept : (before : List Form) (form : Form) → has_statement before ≡ true → has_statement (before ++ form ∷ []) ≡ true
statement-kept before form h = list_any-append is_statement before (form ∷ []) ∙ ap (λ b. b || (is_statement form || false)) h

-- after a statement stands no initial value
no-init : (form : Form) (name : List ℕ) (number : Option ℕ) (before : List Form) → has_statement before ≡ true → stands before form ≡ true → is_init name number form ≡ false
no-init (LoopLine n) name number before h s = refl
no-init (ArrayLine n c) name number before h s = refl
no-init (ParamLine n v) name number before h s = refl
no-init (InitLine n m v) name number before h s = let e = ap not h in absurd (false≢true (sym e ∙ s))
no-init (StatementLine s) name number before h k = refl
no-init (OutLine n) name number before h s = refl
no-init EndLine name number before h s = refl
no-init Malformed name number before h s = refl

pub no-inits : (name : List ℕ) (number : Option ℕ) (before forms : List Form) → has_statement before ≡ true → IsStanding before forms → list_any (is_init name number) forms ≡ false
no-inits name number before [] h s = refl
no-inits name number before (form ∷ forms) h s =
    ap (λ b. b || list_any (is_init name number) forms) (no-init form name number before h s.0)
    ∙ no-inits name number (before ++ form ∷ []) forms (statement-kept before form h) s.1

pub or-none : (b : Bool) → (b || false) ≡ b
or-none true = refl
or-none false = refl

-- all initial values of a block stand before a line that comes after a statement or is one
inits-before : (name : List ℕ) (number : Option ℕ) (before : List Form) (form : Form) (after : List Form) → is_init name number form ≡ false → list_any (is_init name number) after ≡ false
    → list_any (is_init name number) (before ++ form ∷ after) ≡ list_any (is_init name number) before
inits-before name number before form after h k =
    list_any-append (is_init name number) before (form ∷ after)
    ∙ ap (λ b. list_any (is_init name number) before || (b || list_any (is_init name number) after)) h
    ∙ ap (λ b. list_any (is_init name number) before || b) k
    ∙ or-none (list_any (is_init name number) before)

-- one line's faults

none-some : (m : ℕ) → None ≡ Some (suc m) → ⊥
none-some m e = cc

some-same : (m n : ℕ) → Some m ≡ Some n → m ≡ n
some-same m n e = cc

zero-some : (m : ℕ) → Some zero ≡ Some (suc m) → ⊥
zero-some m e = omega (arith, some-same zero (suc m) e)

pub not-from : (b : Bool) → (b ≡ true → ⊥) → b ≡ false
not-from true h = absurd (h refl)
not-from false h = refl

pub value-of : (d : Option Declared) → (is_value d ≡ false) ⊎ ((k : ℕ) × (d ≡ Some (AValue k)))
value-of None = inl refl
value-of (Some (AnArray k)) = inl refl
value-of (Some (AParam k)) = inl refl
value-of (Some (AValue k)) = inr (k, refl)

not-given : (inits : List (Option ℤ)) (d : Option Declared) (number : Option ℕ) → is_value d ≡ false → is_given inits d number ≡ false
not-given inits None number h = refl
not-given inits (Some (AnArray k)) number h = refl
not-given inits (Some (AParam k)) number h = refl
not-given inits (Some (AValue k)) number h = cc

-- nothing was given to what is no value
unknown-init : (block before : List Form) (inits : List (Option ℤ)) (outs : List Bool) → IsGiven block before inits outs → (name : List ℕ) (number : Option ℕ) → is_value (declared block name) ≡ false → list_any (is_init name number) before ≡ false
unknown-init block before inits outs g name number h = not-from (list_any (is_init name number) before) (λ e. false≢true (sym h ∙ (g.known name number e).0))

given-init : (block before : List Form) (inits : List (Option ℤ)) (outs : List Bool) → IsGiven block before inits outs → (name : List ℕ) (k : ℕ) (number : Option ℕ) → IsNear number → declared block name ≡ Some (AValue k)
    → is_given inits (Some (AValue k)) number ≡ list_any (is_init name number) before
given-init block before inits outs g name k None near e = sym (not-from (list_any (is_init name None) before) (λ t. none-some (g.known name None t).1 (g.known name None t).2))
given-init block before inits outs g name k (Some zero) near e = sym (not-from (list_any (is_init name (Some zero)) before) (λ t. zero-some (g.known name (Some zero) t).1 (g.known name (Some zero) t).2))
given-init block before inits outs g name k (Some (suc m)) near e = ap is_some (g.slots name k m e (omega arith)) ∙ sym (g.valued name (suc m))

is-given : (block before : List Form) (inits : List (Option ℤ)) (outs : List Bool) → IsGiven block before inits outs → (name : List ℕ) (number : Option ℕ) → IsNear number
    → is_given inits (declared block name) number ≡ list_any (is_init name number) before
is-given block before inits outs g name number near =
    ⊎_elim (λ h. not-given inits (declared block name) number h ∙ sym (unknown-init block before inits outs g name number h))
    (λ v. ap (λ d. is_given inits d number) v.1 ∙ given-init block before inits outs g name v.0 number near v.1)
    (value-of (declared block name))

not-live : (outs : List Bool) (d : Option Declared) → is_value d ≡ false → is_live outs d ≡ false
not-live outs None h = refl
not-live outs (Some (AnArray k)) h = refl
not-live outs (Some (AParam k)) h = refl
not-live outs (Some (AValue k)) h = cc

is-live : (block before : List Form) (inits : List (Option ℤ)) (outs : List Bool) → IsGiven block before inits outs → (name : List ℕ) → is_live outs (declared block name) ≡ list_any (is_out_of name) before
is-live block before inits outs g name =
    ⊎_elim (λ h. not-live outs (declared block name) h ∙ sym (not-from (list_any (is_out_of name) before) (λ e. false≢true (sym h ∙ g.known_marks name e))))
    (λ v. ap (is_live outs) v.1 ∙ g.marks name v.0 v.1)
    (value-of (declared block name))

not-covered : (inits : List (Option ℤ)) (d : Option Declared) (n : ℕ) → is_value d ≡ false → covers_name inits d (suc n) ≡ false
not-covered inits None n h = refl
not-covered inits (Some (AnArray k)) n h = refl
not-covered inits (Some (AParam k)) n h = refl
not-covered inits (Some (AValue k)) n h = cc

covers-all : (block before : List Form) (inits : List (Option ℤ)) (outs : List Bool) → IsGiven block before inits outs → (name : List ℕ) (k : ℕ) → declared block name ≡ Some (AValue k)
    → ((number : ℕ) → has_init block name number ≡ list_any (is_init name (Some number)) before) → (d : ℕ) → d ≤ 16 → covers inits k d ≡ has_inits block name d
covers-all block before inits outs g name k e same zero near = refl
covers-all block before inits outs g name k e same (suc n) near =
    ap (λ b. b && covers inits k n) (ap is_some (g.slots name k n e (omega arith)) ∙ sym (g.valued name (suc n)) ∙ sym (same (suc n)))
    ∙ ap (λ b. has_init block name (suc n) && b) (covers-all block before inits outs g name k e same n (omega arith))

covers-name : (block before : List Form) (inits : List (Option ℤ)) (outs : List Bool) → IsGiven block before inits outs → (name : List ℕ)
    → ((number : ℕ) → has_init block name number ≡ list_any (is_init name (Some number)) before) → (d : ℕ) → d ≤ 16 → covers_name inits (declared block name) d ≡ has_inits block name d
covers-name block before inits outs g name same zero near = refl
covers-name block before inits outs g name same (suc n) near =
    ⊎_elim (λ h. not-covered inits (declared block name) n h ∙ sym (ap (λ b. b && has_inits block name n) (same (suc n) ∙ unknown-init block before inits outs g name (Some (suc n)) h)))
    (λ v. ap (λ d. covers_name inits d (suc n)) v.1 ∙ covers-all block before inits outs g name v.0 v.1 same (suc n) near)
    (value-of (declared block name))

lacks-one : (block before : List Form) (inits : List (Option ℤ)) (outs : List Bool) → IsGiven block before inits outs
    → ((name : List ℕ) (number : ℕ) → has_init block name number ≡ list_any (is_init name (Some number)) before) → (u : Use) → IsNearUse u → lacks_init block inits u ≡ is_uncovered block u
lacks-one block before inits outs g same (Number v) near = refl
lacks-one block before inits outs g same (Plain name) near = refl
lacks-one block before inits outs g same (At name None) near = refl
lacks-one block before inits outs g same (At name (Some d)) near = ap not (covers-name block before inits outs g name (same name) d near)

lacks-any : (block before : List Form) (inits : List (Option ℤ)) (outs : List Bool) → IsGiven block before inits outs
    → ((name : List ℕ) (number : ℕ) → has_init block name number ≡ list_any (is_init name (Some number)) before) → (us : List Use) → AllByRecursion IsNearUse us → list_any (lacks_init block inits) us ≡ list_any (is_uncovered block) us
lacks-any block before inits outs g same [] near = refl
lacks-any block before inits outs g same (u ∷ us) near =
    ap (λ b. b || list_any (lacks_init block inits) us) (lacks-one block before inits outs g same u near.0)
    ∙ ap (λ b. is_uncovered block u || b) (lacks-any block before inits outs g same us near.1)

and-true : (b : Bool) → b ≡ (b && true)
and-true true = refl
and-true false = refl

-- the faults by look-ups are the line's
pub kinds-same : (before : List Form) (form : Form) (after : List Form) (counts : Counts) (inits : List (Option ℤ)) (outs : List Bool)
    → how_many is_array before ≡ counts.arrays → how_many is_param before ≡ counts.params → how_many is_statement before ≡ counts.statements
    → IsGiven (before ++ form ∷ after) before inits outs → IsNearForm form → stands before form ≡ true → IsStanding (before ++ form ∷ []) after → is_end form ≡ false
    → kinds_at (before ++ form ∷ after) counts inits outs form ≡ faults_of before (before ++ form ∷ after) form
kinds-same before (LoopLine n) after counts inits outs ea ep es g near s later other = refl
kinds-same before Malformed after counts inits outs ea ep es g near s later other = refl
kinds-same before EndLine after counts inits outs ea ep es g near s later other = cc
kinds-same before (ArrayLine name cells) after counts inits outs ea ep es g near s later other =
    let block = before ++ ArrayLine name cells ∷ after in
    let P : ℕ → Kinds = λ n. when (is_long name || list_any is_none cells || nat_lt 1024 (length cells) || nat_le 32 n) Limit ++ when (not (is_that (AnArray n) (declared block name))) RepeatedName in
    sym (ap P ea) ∙ ap (λ b. when (is_long name || list_any is_none cells || nat_lt 1024 (length cells) || nat_le 32 (how_many is_array before)) Limit ++ when b RepeatedName) (repeated-array before after name cells)
kinds-same before (ParamLine name value) after counts inits outs ea ep es g near s later other =
    let block = before ++ ParamLine name value ∷ after in
    let P : ℕ → Kinds = λ n. when (is_long name || is_none value || nat_le 64 n) Limit ++ when (not (is_that (AParam n) (declared block name))) RepeatedName in
    sym (ap P ep) ∙ ap (λ b. when (is_long name || is_none value || nat_le 64 (how_many is_param before)) Limit ++ when b RepeatedName) (repeated-param before after name value)
kinds-same before (InitLine name number value) after counts inits outs ea ep es g near s later other =
    let block = before ++ InitLine name number value ∷ after in
    ap (λ b. when (is_long name || is_outside number || is_none value) Limit ++ when b RepeatedName ++ when (not (is_value (declared block name))) UnknownName)
    (is-given block before inits outs g name number near)
kinds-same before (StatementLine source) after counts inits outs ea ep es g near s later other =
    let block = before ++ StatementLine source ∷ after in
    let same : (name : List ℕ) (number : ℕ) → has_init block name number ≡ list_any (is_init name (Some number)) before = λ name number.
    inits-before name (Some number) before (StatementLine source) after refl (no-inits name (Some number) (before ++ StatementLine source ∷ []) after
    (list_any-append is_statement before (StatementLine source ∷ []) ∙ or-true (has_statement before)) later) in
    let P : ℕ → Kinds = λ n.
    when (any_name is_long source.name || is_wide_place source.place || list_any is_wide source.uses || nat_le 128 n) Limit
    ++ when (any_name (λ name. not (is_that (AValue n) (declared block name))) source.name) RepeatedName
    ++ when (is_unknown_place block source.place || list_any (is_unknown block) source.uses) UnknownName
    ++ when (list_any (is_early block n) source.uses) UseBeforeDefinition
    ++ when (list_any (lacks_init block inits) source.uses) MissingInit in
    let Q : Bool → Bool → Kinds = λ again lacking.
    when (any_name is_long source.name || is_wide_place source.place || list_any is_wide source.uses || nat_le 128 (how_many is_statement before)) Limit
    ++ when again RepeatedName
    ++ when (is_unknown_place block source.place || list_any (is_unknown block) source.uses) UnknownName
    ++ when (list_any (is_early block (how_many is_statement before)) source.uses) UseBeforeDefinition
    ++ when lacking MissingInit in
    sym (ap P es) ∙ ap (λ b. Q b (list_any (lacks_init block inits) source.uses)) (repeated-name before after source source.name refl)
    ∙ ap (Q (any_name (λ name. is_some (declared before name)) source.name)) (lacks-any block before inits outs g same source.uses near)
kinds-same before (OutLine name) after counts inits outs ea ep es g near s later other =
    let block = before ++ OutLine name ∷ after in
    let same : (number : ℕ) → has_init block name number ≡ list_any (is_init name (Some number)) before = λ number.
    inits-before name (Some number) before (OutLine name) after refl (no-inits name (Some number) (before ++ OutLine name ∷ []) after (statement-kept before (OutLine name) s) later) in
    let Q : Bool → Bool → Kinds = λ again covered.
    when (is_long name) Limit ++ when again RepeatedName ++ when (not (is_value (declared block name))) UnknownName ++ when (not covered) MissingInit in
    ap (λ b. Q b (covers_name inits (declared block name) 1)) (is-live block before inits outs g name)
    ∙ ap (Q (list_any (is_out_of name) before)) (covers-name block before inits outs g name same 1 (omega arith) ∙ sym (and-true (has_init block name 1)))
