-- The lines of a loop's canonical text give that loop back.
use Rattle.std.proofs.Common.{◌≡◌, ℕ, zero, suc, ℤ, pos, List, [], ◌∷◌, ◌++◌, map, Option, Some, None, unwrap_or, refl, ap, ◌∙◌}
use Rattle.std.specs.List.{AllByRecursion, filter_map, cons_option, slice_get}
use Rattle.std.specs.Option.{option_map}
use Rattle.std.proofs.lemmas.List.{append-nil}
use Rattle.std.proofs.lemmas.List.Elements.{All-weaker, recursion_from_All, filter_map-append}
use Rattle.loop_data.specs.declared.language.lists.Array.{Array}
use Rattle.loop_data.specs.declared.language.lists.Param.{Param}
use Rattle.loop_data.specs.declared.language.lists.Initial.{Initial}
use Rattle.loop_data.specs.declared.language.statement.Operand.{Operand}
use Rattle.loop_data.specs.declared.language.statement.Operand.TheVariants.{Constant, Parameter, Value}
use Rattle.loop_data.specs.declared.language.statement.Place.{Place}
use Rattle.loop_data.specs.declared.language.statement.Statement.{Statement}
use Rattle.loop_lines.specs.Forms.{Form}
use Rattle.loop_data.specs.Loops.{LoopData, IsLoop, IsPlace, MayRead, GivesValue, HasInitial}
use Rattle.loop_reader.specs.Meaning.{number_at, reads, array_in, param_in, statement_in, out_in, place_at, operand_of, statement_of, inits_from, blocks_of, loop_of}
use Rattle.loops.proofs.returned.InitsBack.{inits-back}
use Rattle.loops.proofs.faultless.Lookups.{declared-array, declared-param, declared-value}
use Rattle.loops.proofs.returned.OneBlock.{blocks-written}
use Rattle.loops.proofs.returned.Written.{array_form, param_form, init_form, use_form, place_form, source_form, statement_form, out_form, body_forms, written_forms}
use Rattle.loops.proofs.Parts.{all-each}

-- what is kept of the lines of each kind

kept-same : {X : Type 0} (f : X → Form) (h : Form → Option X) (xs : List X) → AllByRecursion (λ x. h (f x) ≡ Some x) xs → filter_map h (map f xs) ≡ xs
kept-same f h [] each = refl
kept-same f h (x ∷ xs) each = ap (λ o. cons_option o (filter_map h (map f xs))) each.0 ∙ ap (λ ys. x ∷ ys) (kept-same f h xs each.1)

kept-made : {X Y : Type 0} (f : X → Form) (h : Form → Option Y) (g : X → Y) → ((x : X) → h (f x) ≡ Some (g x)) → (xs : List X) → filter_map h (map f xs) ≡ map g xs
kept-made f h g each [] = refl
kept-made f h g each (x ∷ xs) = ap (λ o. cons_option o (filter_map h (map f xs))) (each x) ∙ ap (λ ys. g x ∷ ys) (kept-made f h g each xs)

kept-nothing : {X Y : Type 0} (f : X → Form) (h : Form → Option Y) → ((x : X) → h (f x) ≡ None) → (xs : List X) → filter_map h (map f xs) ≡ []
kept-nothing f h none [] = refl
kept-nothing f h none (x ∷ xs) = ap (λ o. cons_option o (filter_map h (map f xs))) (none x) ∙ kept-nothing f h none xs

kept-body : {Y : Type 0} (h : Form → Option Y) (l : LoopData) → filter_map h (body_forms l)
    ≡ (((filter_map h (map array_form l.arrays) ++ filter_map h (map param_form l.params)) ++ filter_map h (map (init_form l) l.inits)) ++ filter_map h (map (statement_form l) l.statements))
    ++ filter_map h (map (out_form l) l.outs)
kept-body h l =
    let arrays = map array_form l.arrays in
    let params = map param_form l.params in
    let inits = map (init_form l) l.inits in
    let statements = map (statement_form l) l.statements in
    let outs = map (out_form l) l.outs in
    filter_map-append h (((arrays ++ params) ++ inits) ++ statements) outs
    ∙ ap (λ ys. ys ++ filter_map h outs)
    (filter_map-append h ((arrays ++ params) ++ inits) statements
    ∙ ap (λ ys. ys ++ filter_map h statements) (filter_map-append h (arrays ++ params) inits ∙ ap (λ ys. ys ++ filter_map h inits) (filter_map-append h arrays params)))

without : {X : Type 0} (xs ys : List X) → ys ≡ [] → xs ++ ys ≡ xs
without xs ys e = ap (λ zs. xs ++ zs) e ∙ append-nil xs

-- arrays and parameters

abbrev array_with : List ℕ → List ℤ → Array
array_with name cells = record { name = name; cells = cells }

cells-back : (cells : List ℤ) → map (λ (cell : Option ℤ). unwrap_or cell (pos 0)) (map Some cells) ≡ cells
cells-back [] = refl
cells-back (c ∷ cells) = ap (λ cs. c ∷ cs) (cells-back cells)

array-back : (a : Array) → array_in (array_form a) ≡ Some a
array-back a = ap (λ cells. Some (array_with a.name cells)) (cells-back a.cells)

arrays-back : (l : LoopData) → filter_map array_in (body_forms l) ≡ l.arrays
arrays-back l =
    let a = filter_map array_in (map array_form l.arrays) in
    let p = filter_map array_in (map param_form l.params) in
    let i = filter_map array_in (map (init_form l) l.inits) in
    let s = filter_map array_in (map (statement_form l) l.statements) in
    let o = filter_map array_in (map (out_form l) l.outs) in
    kept-body array_in l
    ∙ without (((a ++ p) ++ i) ++ s) o (kept-nothing (out_form l) array_in (λ x. refl) l.outs)
    ∙ without ((a ++ p) ++ i) s (kept-nothing (statement_form l) array_in (λ x. refl) l.statements)
    ∙ without (a ++ p) i (kept-nothing (init_form l) array_in (λ x. refl) l.inits)
    ∙ without a p (kept-nothing param_form array_in (λ x. refl) l.params)
    ∙ kept-same array_form array_in l.arrays (all-each (λ x. array_in (array_form x) ≡ Some x) array-back l.arrays)

params-back : (l : LoopData) → filter_map param_in (body_forms l) ≡ l.params
params-back l =
    let a = filter_map param_in (map array_form l.arrays) in
    let p = filter_map param_in (map param_form l.params) in
    let i = filter_map param_in (map (init_form l) l.inits) in
    let s = filter_map param_in (map (statement_form l) l.statements) in
    let o = filter_map param_in (map (out_form l) l.outs) in
    kept-body param_in l
    ∙ without (((a ++ p) ++ i) ++ s) o (kept-nothing (out_form l) param_in (λ x. refl) l.outs)
    ∙ without ((a ++ p) ++ i) s (kept-nothing (statement_form l) param_in (λ x. refl) l.statements)
    ∙ without (a ++ p) i (kept-nothing (init_form l) param_in (λ x. refl) l.inits)
    ∙ ap (λ ys. ys ++ p) (kept-nothing array_form param_in (λ x. refl) l.arrays)
    ∙ kept-same param_form param_in l.params (all-each (λ x. param_in (param_form x) ≡ Some x) (λ x. refl) l.params)

-- statements

use-back : (l : LoopData) → IsLoop l → (n : ℕ) (o : Operand) → MayRead l n o → operand_of (body_forms l) (use_form l o) ≡ o
use-back l is n (Constant value) may = refl
use-back l is n (Parameter number) may = ap (λ d. reads d 0) (declared-param l is number may)
use-back l is n (Value statement zero) may = ap (λ d. reads d 0) (declared-value l is statement may.0)
use-back l is n (Value statement (suc distance)) may = ap (λ d. reads d (suc distance)) (declared-value l is statement may.0)

uses-back : (l : LoopData) → IsLoop l → (n : ℕ) (operands : List Operand) → AllByRecursion (MayRead l n) operands → map (operand_of (body_forms l)) (map (use_form l) operands) ≡ operands
uses-back l is n [] may = refl
uses-back l is n (o ∷ operands) may =
    ap (λ x. x ∷ map (operand_of (body_forms l)) (map (use_form l) operands)) (use-back l is n o may.0) ∙ ap (λ xs. o ∷ xs) (uses-back l is n operands may.1)

abbrev place_with : Place → ℕ → Place
place_with p array = record { array = array; offset = p.offset }

place-back : (l : LoopData) → IsLoop l → (o : Option Place) → ((p : Place) → o ≡ Some p → IsPlace l p) → option_map (place_at (body_forms l)) (option_map (place_form l) o) ≡ o
place-back l is None there = refl
place-back l is (Some p) there = ap (λ d. Some (place_with p (number_at d))) (declared-array l is p.array (there p refl).array)

abbrev statement_with : Statement → Option Place → List Operand → Statement
statement_with s place operands = record { opcode = s.opcode; name = s.name; place = place; operands = operands }

statement-back : (l : LoopData) → IsLoop l → (n : ℕ) (s : Statement) → slice_get l.statements n ≡ Some s → statement_of (body_forms l) (source_form l s) ≡ s
statement-back l is n s e =
    let here = is.each n s e in
    ap (λ place. statement_with s place (map (operand_of (body_forms l)) (map (use_form l) s.operands))) (place-back l is s.place here.place)
    ∙ ap (λ operands. statement_with s s.place operands) (uses-back l is n s.operands (recursion_from_All (MayRead l n) s.operands here.operands))

mapped-back : {X Y : Type 0} (f : X → Y) (g : Y → X) (xs : List X) → ((k : ℕ) (x : X) → slice_get xs k ≡ Some x → g (f x) ≡ x) → map g (map f xs) ≡ xs
mapped-back f g [] each = refl
mapped-back f g (x ∷ xs) each = ap (λ y. y ∷ map g (map f xs)) (each zero x refl) ∙ ap (λ ys. x ∷ ys) (mapped-back f g xs (λ k y e. each (suc k) y e))

sources-back : (l : LoopData) → filter_map statement_in (body_forms l) ≡ map (source_form l) l.statements
sources-back l =
    let a = filter_map statement_in (map array_form l.arrays) in
    let p = filter_map statement_in (map param_form l.params) in
    let i = filter_map statement_in (map (init_form l) l.inits) in
    let s = filter_map statement_in (map (statement_form l) l.statements) in
    let o = filter_map statement_in (map (out_form l) l.outs) in
    kept-body statement_in l
    ∙ without (((a ++ p) ++ i) ++ s) o (kept-nothing (out_form l) statement_in (λ x. refl) l.outs)
    ∙ ap (λ ys. ys ++ s)
    (without (a ++ p) i (kept-nothing (init_form l) statement_in (λ x. refl) l.inits)
    ∙ without a p (kept-nothing param_form statement_in (λ x. refl) l.params)
    ∙ kept-nothing array_form statement_in (λ x. refl) l.arrays)
    ∙ kept-made (statement_form l) statement_in (source_form l) (λ x. refl) l.statements

statements-back : (l : LoopData) → IsLoop l → map (statement_of (body_forms l)) (map (source_form l) l.statements) ≡ l.statements
statements-back l is = mapped-back (source_form l) (statement_of (body_forms l)) l.statements (statement-back l is)

-- live values

out-back : (l : LoopData) → IsLoop l → (o : ℕ) → GivesValue l o × HasInitial l o 1 → out_in (body_forms l) (out_form l o) ≡ Some o
out-back l is o h = ap (λ d. Some (number_at d)) (declared-value l is o h.0)

outs-back : (l : LoopData) → IsLoop l → filter_map (out_in (body_forms l)) (body_forms l) ≡ l.outs
outs-back l is =
    let h = out_in (body_forms l) in
    let a = filter_map h (map array_form l.arrays) in
    let p = filter_map h (map param_form l.params) in
    let i = filter_map h (map (init_form l) l.inits) in
    let s = filter_map h (map (statement_form l) l.statements) in
    let o = filter_map h (map (out_form l) l.outs) in
    let P : ℕ → Type 0 = λ o. h (out_form l o) ≡ Some o in
    kept-body h l
    ∙ ap (λ ys. ys ++ o)
    (without ((a ++ p) ++ i) s (kept-nothing (statement_form l) h (λ x. refl) l.statements)
    ∙ without (a ++ p) i (kept-nothing (init_form l) h (λ x. refl) l.inits)
    ∙ without a p (kept-nothing param_form h (λ x. refl) l.params)
    ∙ kept-nothing array_form h (λ x. refl) l.arrays)
    ∙ kept-same (out_form l) h l.outs (recursion_from_All P l.outs (All-weaker (λ o. GivesValue l o × HasInitial l o 1) P (out-back l is) l.outs is.outs))

-- the loop

abbrev loop_with : List ℕ → List Array → List Param → List Statement → List Initial → List ℕ → LoopData
loop_with name arrays params statements inits outs = record { name = name; arrays = arrays; params = params; statements = statements; inits = inits; outs = outs }

loop-back : (l : LoopData) → IsLoop l → loop_of (l.name, body_forms l) ≡ l
unfolding loop_of
loop-back l is =
    let body = body_forms l in
    let params = filter_map param_in body in
    let sources = filter_map statement_in body in
    let outs = filter_map (out_in body) body in
    ap (λ x. loop_with l.name x params (map (statement_of body) sources) (inits_from body 0 sources) outs) (arrays-back l)
    ∙ ap (λ x. loop_with l.name l.arrays x (map (statement_of body) sources) (inits_from body 0 sources) outs) (params-back l)
    ∙ ap (λ x. loop_with l.name l.arrays l.params (map (statement_of body) x) (inits_from body 0 x) outs) (sources-back l)
    ∙ ap (λ x. loop_with l.name l.arrays l.params x (inits_from body 0 (map (source_form l) l.statements)) outs) (statements-back l is)
    ∙ ap (λ x. loop_with l.name l.arrays l.params l.statements x outs) (inits-back l is)
    ∙ ap (λ x. loop_with l.name l.arrays l.params l.statements l.inits x) (outs-back l is)

-- the lines of the text are one block, whose loop is the one that was written
pub loop-written : (l : LoopData) → IsLoop l → map loop_of (blocks_of (map Some (written_forms l))) ≡ l ∷ []
loop-written l is = ap (map loop_of) (blocks-written l is) ∙ ap (λ x. x ∷ []) (loop-back l is)
