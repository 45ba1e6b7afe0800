-- The lines of a loop's canonical text are one block, in which each of them stands.
use Rattle.std.proofs.Common.{◌≡◌, ℕ, ◌≤◌, ◌||◌, not, Bool, true, false, List, [], ◌∷◌, ◌++◌, length, map, Option, Some, refl, sym, ap, ◌∙◌, subst, arith, append_assoc}
use Rattle.std.specs.List.{AllByRecursion, list_any}
use Rattle.std.proofs.lemmas.Bool.{or_from, or_left, or_right, cond-true}
use Rattle.std.proofs.lemmas.List.{append-nil}
use Rattle.std.proofs.lemmas.List.Folds.{list_any-append}
use Rattle.loop_data.specs.declared.language.statement.Statement.{Statement}
use Rattle.loop_lines.specs.Forms.{Form, LoopLine, ArrayLine, ParamLine, InitLine, StatementLine, OutLine, EndLine, Malformed}
use Rattle.loop_data.specs.Loops.{LoopData, IsLoop}
use Rattle.loop_reader.specs.Meaning.{is_statement, is_out, has_statement, has_out, stands, with_line, blocks_of, blocks_from}
use Rattle.loop_reader.proofs.faults.Checking.{IsStanding}
use Rattle.loops.proofs.returned.Written.{array_form, param_form, init_form, statement_form, out_form, body_forms, written_forms, ended}

-- a line that ends no block
abbrev IsInner : Form → Type 0
IsInner EndLine = ⊥
IsInner _ = Unit {0}

block-joined : (name : List ℕ) (before : List Form) (form : Form) (lines : List (Option Form)) → stands before form ≡ true → blocks_from name (with_line before form) lines ≡ blocks_from name (before ++ form ∷ []) lines
block-joined name before form lines h = ap (λ b. blocks_from name b lines) (cond-true (stands before form) (before ++ form ∷ []) before h)

block-step : (name : List ℕ) (before : List Form) (form : Form) (lines : List (Option Form)) → stands before form ≡ true → IsInner form → blocks_from name before (Some form ∷ lines) ≡ blocks_from name (before ++ form ∷ []) lines
block-step name before EndLine lines h i = elim i [ ]
block-step name before (LoopLine n) lines h i = block-joined name before (LoopLine n) lines h
block-step name before (ArrayLine n c) lines h i = block-joined name before (ArrayLine n c) lines h
block-step name before (ParamLine n v) lines h i = block-joined name before (ParamLine n v) lines h
block-step name before (InitLine n m v) lines h i = block-joined name before (InitLine n m v) lines h
block-step name before (StatementLine s) lines h i = block-joined name before (StatementLine s) lines h
block-step name before (OutLine n) lines h i = block-joined name before (OutLine n) lines h
block-step name before Malformed lines h i = block-joined name before Malformed lines h

block-ended : (name : List ℕ) (before forms : List Form) → IsStanding before forms → AllByRecursion IsInner forms → blocks_from name before (ended forms) ≡ (name, before ++ forms) ∷ []
block-ended name before [] h i = ap (λ b. (name, b) ∷ []) (sym (append-nil before))
block-ended name before (form ∷ forms) h i =
    block-step name before form (ended forms) h.0 i.0 ∙ block-ended name (before ++ form ∷ []) forms h.1 i.1
    ∙ ap (λ b. (name, b) ∷ []) (append_assoc before (form ∷ []) forms)

-- lines of one kind after others

standing-join : (start xs ys : List Form) → IsStanding start xs → IsStanding (start ++ xs) ys → IsStanding start (xs ++ ys)
standing-join start [] ys h k = subst (λ b. IsStanding b ys) (append-nil start) k
standing-join start (x ∷ xs) ys h k = (h.0, standing-join (start ++ x ∷ []) xs ys h.1 (subst (λ b. IsStanding b ys) (sym (append_assoc start (x ∷ []) xs)) k))

inner-join : (xs ys : List Form) → AllByRecursion IsInner xs → AllByRecursion IsInner ys → AllByRecursion IsInner (xs ++ ys)
inner-join [] ys h k = k
inner-join (x ∷ xs) ys h k = (h.0, inner-join xs ys h.1 k)

inner-map : {X : Type 0} (f : X → Form) → ((x : X) → IsInner (f x)) → (xs : List X) → AllByRecursion IsInner (map f xs)
inner-map f h [] = tt
inner-map f h (x ∷ xs) = (h x, inner-map f h xs)

-- lines after which what they need is kept
standing-map : {X : Type 0} (Kept : List Form → Type 0) (f : X → Form) → ((before : List Form) (x : X) → Kept before → (stands before (f x) ≡ true) × Kept (before ++ f x ∷ []))
    → (xs : List X) (start : List Form) → Kept start → IsStanding start (map f xs) × Kept (start ++ map f xs)
standing-map Kept f step [] start h = (tt, subst Kept (sym (append-nil start)) h)
standing-map Kept f step (x ∷ xs) start h =
    let here = step start x h in
    let rest = standing-map Kept f step xs (start ++ f x ∷ []) here.1 in
    ((here.0, rest.0), subst Kept (append_assoc start (f x ∷ []) (map f xs)) rest.1)

any-kept : (p : Form → Bool) (before : List Form) (form : Form) (b : Bool) → list_any p before ≡ b → p form ≡ false → list_any p (before ++ form ∷ []) ≡ b
any-kept p before form true h k = list_any-append p before (form ∷ []) ∙ or_left (list_any p before) (p form || false) h
any-kept p before form false h k = list_any-append p before (form ∷ []) ∙ or_from (list_any p before) (p form || false) h (or_from (p form) false k refl)

-- no statement yet, and no live value
abbrev IsHead : List Form → Type 0
IsHead before = (has_statement before ≡ false) × (has_out before ≡ false)

head-step : (before : List Form) (form : Form) → IsHead before → is_statement form ≡ false → is_out form ≡ false → (not (has_statement before) ≡ true) × IsHead (before ++ form ∷ [])
head-step before form h s o = (ap not h.0, (any-kept is_statement before form false h.0 s, any-kept is_out before form false h.1 o))

some-statement : (l : LoopData) (statements : List Statement) → 1 ≤ length statements → has_statement (map (statement_form l) statements) ≡ true
some-statement l [] h = absurd (omega arith)
some-statement l (s ∷ statements) h = refl

any-after : (p : Form → Bool) (xs ys : List Form) → list_any p ys ≡ true → list_any p (xs ++ ys) ≡ true
any-after p xs ys h = list_any-append p xs ys ∙ or_right (list_any p xs) (list_any p ys) h

-- all lines of a loop

pub body-standing : (l : LoopData) → IsLoop l → IsStanding [] (body_forms l)
body-standing l is =
    let arrays = map array_form l.arrays in
    let params = map param_form l.params in
    let inits = map (init_form l) l.inits in
    let statements = map (statement_form l) l.statements in
    let outs = map (out_form l) l.outs in
    let a = standing-map IsHead array_form (λ before x h. head-step before (array_form x) h refl refl) l.arrays [] (refl, refl) in
    let p = standing-map IsHead param_form (λ before x h. head-step before (param_form x) h refl refl) l.params arrays a.1 in
    let i = standing-map IsHead (init_form l) (λ before x h. head-step before (init_form l x) h refl refl) l.inits (arrays ++ params) p.1 in
    let s = standing-map (λ before. has_out before ≡ false) (statement_form l) (λ before x h. (ap not h, any-kept is_out before (statement_form l x) false h refl)) l.statements ((arrays ++ params) ++ inits) i.1.1 in
    let some = any-after is_statement ((arrays ++ params) ++ inits) statements (some-statement l l.statements is.statements_some) in
    let o = standing-map (λ before. has_statement before ≡ true) (out_form l) (λ before x h. (h, any-kept is_statement before (out_form l x) true h refl)) l.outs (((arrays ++ params) ++ inits) ++ statements) some in
    standing-join [] (((arrays ++ params) ++ inits) ++ statements) outs
    (standing-join [] ((arrays ++ params) ++ inits) statements (standing-join [] (arrays ++ params) inits (standing-join [] arrays params a.0 p.0) i.0) s.0) o.0

body-inner : (l : LoopData) → AllByRecursion IsInner (body_forms l)
body-inner l =
    let arrays = map array_form l.arrays in
    let params = map param_form l.params in
    let inits = map (init_form l) l.inits in
    let statements = map (statement_form l) l.statements in
    let outs = map (out_form l) l.outs in
    inner-join (((arrays ++ params) ++ inits) ++ statements) outs
    (inner-join ((arrays ++ params) ++ inits) statements
    (inner-join (arrays ++ params) inits (inner-join arrays params (inner-map array_form (λ x. tt) l.arrays) (inner-map param_form (λ x. tt) l.params)) (inner-map (init_form l) (λ x. tt) l.inits))
    (inner-map (statement_form l) (λ x. tt) l.statements))
    (inner-map (out_form l) (λ x. tt) l.outs)

-- the block that the text is
pub blocks-written : (l : LoopData) → IsLoop l → blocks_of (map Some (written_forms l)) ≡ (l.name, body_forms l) ∷ []
blocks-written l is = block-ended l.name [] (body_forms l) (body-standing l is) (body-inner l)
