-- A block of standing lines without a fault is a loop that the language allows.
use Rattle.std.proofs.Common.{◌≡◌, ◌≢◌, ℕ, zero, suc, pos, ◌+◌, ◌<◌, ◌≤◌, ◌≤ℤ◌, neg_ℤ, ◌&&◌, ◌||◌, Bool, true, false, List, [], ◌∷◌, ◌++◌, length, map, get_or, Option, Some, None, option_map, unwrap_or, refl, sym, ◌∙◌, ap, subst, ⊎_elim, arith, append_assoc, zero-add}
use Rattle.std.specs.List.{All, AllPairs, AllByRecursion, list_any, filter_map, slice_get}
use Rattle.std.proofs.lemmas.Bool.{false≢true, true≢false, and_parts, or_parts, not-false, leb-false, eq-eqb, cases_eq}
use Rattle.std.proofs.lemmas.List.{append-nil, length-map}
use Rattle.std.proofs.lemmas.List.Elements.{All-from_recursion}
use Rattle.std.proofs.lemmas.Option.{none-some, same_Some}
use Rattle.loop_data.specs.declared.language.lists.Array.{Array}
use Rattle.loop_data.specs.declared.language.lists.Param.{Param}
use Rattle.loop_data.specs.declared.language.lists.Initial.{Initial}
use Rattle.loop_data.specs.declared.language.statement.Operand.TheVariants.{Value}
use Rattle.loop_data.specs.declared.language.statement.Place.{Place}
use Rattle.loop_data.specs.declared.language.statement.Statement.{Statement}
use Rattle.loop_reader.specs.inner.Blocks.{one_if}
use Rattle.loop_reader.specs.inner.Checks.{IsBlock, IsCounted}
use Rattle.loop_lines.specs.Forms.{Form, StatementForm, Subscript, Use, Number, Plain, At}
use Rattle.loop_data.specs.Loops.{IsLoop, IsName, IsStatement, IsPlace, MayRead, GivesValue, IsLong, declared_names}
use Rattle.loop_reader.specs.Meaning.{Declared, AnArray, AParam, AValue, declared, how_many, number_at, is_array, is_param, is_statement, is_value, is_array_name, is_readable, is_value_from, same_number, has_init, has_inits, has_statement, is_long, faults_of, reads, array_in, param_in, statement_in, statement_of, operand_of, place_at, inits_from, loop_of}
use Rattle.loop_reader.proofs.faults.Checking.{declared-below, counted-as}
use Rattle.loop_reader.proofs.lookups.Declared.{how_many-cons}
use Rattle.loop_reader.proofs.making.Initials.{the_loop, gives-value, has-initial, inits-all, inits-ascend, inits-long, outs-different, outs-hold}
use Rattle.loop_reader.proofs.making.Lines.{IsClean, IsArrayAt, IsParamAt, IsStatementAt, IsUseAt, arrays-at, params-at, sources-at, numbered-length, array-agrees, param-agrees, source-agrees, kept-long, value-of}
use Rattle.loop_reader.proofs.making.Numbered.{EachFrom, each-get, each-weaker, each-map, each-all, each-length, all-join, all-mapped, all-filtered, Ascends, ascends-lower, ascends-append, ascends-pairs, mapped-ascends, filtered-ascends}
use Rattle.loop_reader.proofs.making.Spelled.{IsSpelled, block-spelled}

-- each line has no fault after the ones before it, in its block
abbrev pub IsFaultlessFrom : List Form → List Form → List Form → Type 0
IsFaultlessFrom block before [] = Unit {0}
IsFaultlessFrom block before (form ∷ forms) = (faults_of before block form ≡ []) × IsFaultlessFrom block (before ++ form ∷ []) forms

faultless-at : (block before front : List Form) (form : Form) (after : List Form) → IsFaultlessFrom block before (front ++ form ∷ after) → faults_of (before ++ front) block form ≡ []
faultless-at block before [] form after h = ap (λ b. faults_of b block form) (append-nil before) ∙ h.0
faultless-at block before (f ∷ front) form after h = sym (ap (λ b. faults_of b block form) (append_assoc before (f ∷ []) front)) ∙ faultless-at block (before ++ f ∷ []) front form after h.1

spelled-at : (front : List Form) (form : Form) (after : List Form) → AllByRecursion IsSpelled (front ++ form ∷ after) → IsSpelled form
spelled-at [] form after h = h.0
spelled-at (f ∷ front) form after h = spelled-at front form after h.1

pub clean-from : (block : List Form) → IsBlock block → IsFaultlessFrom block [] block → IsClean block
clean-from block is faultless =
    record {
      spelled = λ front form after e. spelled-at front form after (subst (AllByRecursion IsSpelled) e (block-spelled block is));
      faultless = λ front form after e. faultless-at block [] front form after (subst (λ b. IsFaultlessFrom block [] b) e faultless);
    }

-- counts

arrays-few : (block : List Form) → IsClean block → length (filter_map array_in block) ≤ 32
arrays-few block clean = let l = each-length (IsArrayAt block) 32 (λ m a h. h.few) 0 (filter_map array_in block) (omega arith) (arrays-at block clean) in omega arith

params-few : (block : List Form) → IsClean block → length (filter_map param_in block) ≤ 64
params-few block clean = let l = each-length (IsParamAt block) 64 (λ m p h. h.few) 0 (filter_map param_in block) (omega arith) (params-at block clean) in omega arith

statements-few : (block : List Form) → IsClean block → length (map (statement_of block) (filter_map statement_in block)) ≤ 128
statements-few block clean =
    let l = each-length (IsStatementAt block) 128 (λ m s h. h.few) 0 (filter_map statement_in block) (omega arith) (sources-at block clean) in
    let e = length-map (filter_map statement_in block) (statement_of block) in
    omega arith

counted-any : (p : Form → Bool) (forms : List Form) → list_any p forms ≡ true → 1 ≤ how_many p forms
counted-any p [] h = absurd (false≢true h)
counted-any p (form ∷ forms) h =
    let e = how_many-cons p form forms in
    let step : (b : Bool) → (b || list_any p forms) ≡ true → 1 ≤ one_if b + how_many p forms = λ b.
    elim b as (λ b. (b || list_any p forms) ≡ true → 1 ≤ one_if b + how_many p forms) [
      | true ↦ λ k. omega arith
      | false ↦ λ k. let r = counted-any p forms k in omega arith
    ] in
    let s = step (p form) h in
    omega arith

statements-some : (block : List Form) → has_statement block ≡ true → 1 ≤ length (map (statement_of block) (filter_map statement_in block))
statements-some block h =
    let a = counted-any is_statement block h in
    let b = numbered-length is_statement statement_in source-agrees block in
    let e = length-map (filter_map statement_in block) (statement_of block) in
    omega arith

-- names

name_rank : ℕ → ℕ → Option Declared → ℕ
name_rank a p None = 0
name_rank a p (Some (AnArray n)) = n
name_rank a p (Some (AParam n)) = a + n
name_rank a p (Some (AValue n)) = (a + p) + n

array-rank : (a p n : ℕ) → name_rank a p (Some (AnArray n)) ≡ 0 + n
unfolding name_rank
array-rank a p n = sym (zero-add n)

param-rank : (a p n : ℕ) → name_rank a p (Some (AParam n)) ≡ a + n
unfolding name_rank
param-rank a p n = refl

value-rank : (a p n : ℕ) → name_rank a p (Some (AValue n)) ≡ (a + p) + n
unfolding name_rank
value-rank a p n = refl

abbrev value_names_of : List Form → List (List ℕ)
value_names_of block = filter_map (λ (s : Statement). s.name) (map (statement_of block) (filter_map statement_in block))

values-from : (block : List Form) (P : ℕ → List ℕ → Type 0) → ((n : ℕ) (s : StatementForm) → IsStatementAt block n s → (name : List ℕ) → s.name ≡ Some name → P n name) → IsClean block
    → EachFrom (λ n (s : Statement). (name : List ℕ) → s.name ≡ Some name → P n name) 0 (map (statement_of block) (filter_map statement_in block))
values-from block P w clean =
    each-map (λ n (s : Statement). (name : List ℕ) → s.name ≡ Some name → P n name) (statement_of block) 0 (filter_map statement_in block)
    (each-weaker (IsStatementAt block) (λ n (s : StatementForm). (name : List ℕ) → s.name ≡ Some name → P n name) w 0 (filter_map statement_in block) (sources-at block clean))

all-names : (loop : List ℕ) (block : List Form) → IsClean block → All IsName (declared_names (the_loop loop block))
all-names loop block clean =
    let arrays = filter_map array_in block in
    let params = filter_map param_in block in
    let statements = map (statement_of block) (filter_map statement_in block) in
    All-from_recursion IsName (declared_names (the_loop loop block))
    (all-join IsName (map (λ (a : Array). a.name) arrays ++ map (λ (p : Param). p.name) params) (value_names_of block)
    (all-join IsName (map (λ (a : Array). a.name) arrays) (map (λ (p : Param). p.name) params)
    (all-mapped IsName (λ (a : Array). a.name) arrays (each-all (IsArrayAt block) (λ (a : Array). IsName a.name) (λ m a h. h.name) 0 arrays (arrays-at block clean)))
    (all-mapped IsName (λ (p : Param). p.name) params (each-all (IsParamAt block) (λ (p : Param). IsName p.name) (λ m p h. h.name) 0 params (params-at block clean))))
    (all-filtered IsName (λ (s : Statement). s.name) (λ (s : Statement). (name : List ℕ) → s.name ≡ Some name → IsName name) (λ s name q e. q name e) statements
    (each-all (λ n (s : Statement). (name : List ℕ) → s.name ≡ Some name → IsName name) (λ (s : Statement). (name : List ℕ) → s.name ≡ Some name → IsName name) (λ m s q. q) 0 statements
    (values-from block (λ n name. IsName name) (λ n s at. at.named) clean))))

names-ascend : (loop : List ℕ) (block : List Form) → IsClean block → (a p : ℕ) → a ≡ length (filter_map array_in block) → p ≡ length (filter_map param_in block)
    → Ascends (λ name. name_rank a p (declared block name)) 0 (declared_names (the_loop loop block)) ((a + p) + (0 + length (map (statement_of block) (filter_map statement_in block))))
names-ascend loop block clean a p ea ep =
    let rank : List ℕ → ℕ = λ name. name_rank a p (declared block name) in
    let arrays = filter_map array_in block in
    let params = filter_map param_in block in
    let statements = map (statement_of block) (filter_map statement_in block) in
    let xs = map (λ (a : Array). a.name) arrays in
    let ys = map (λ (p : Param). p.name) params in
    let zs = value_names_of block in
    let first : Ascends rank (0 + 0) xs (0 + (0 + length arrays)) = mapped-ascends rank (λ (a : Array). a.name) 0 0 arrays
    (each-weaker (IsArrayAt block) (λ m (x : Array). rank x.name ≡ 0 + m) (λ m x h. ap (name_rank a p) h.is ∙ array-rank a p m) 0 arrays (arrays-at block clean)) in
    let second : Ascends rank (a + 0) ys (a + (0 + length params)) = mapped-ascends rank (λ (p : Param). p.name) a 0 params
    (each-weaker (IsParamAt block) (λ m (x : Param). rank x.name ≡ a + m) (λ m x h. ap (name_rank a p) h.is ∙ param-rank a p m) 0 params (params-at block clean)) in
    let third : Ascends rank ((a + p) + 0) zs ((a + p) + (0 + length statements)) = filtered-ascends rank (λ (s : Statement). s.name) (a + p) 0 statements
    (values-from block (λ m name. rank name ≡ (a + p) + m) (λ m s h name e. ap (name_rank a p) (h.is name e) ∙ value-rank a p m) clean) in
    let l1 : 0 + (0 + length arrays) ≤ a + 0 = omega arith in
    let l2 : a + (0 + length params) ≤ (a + p) + 0 = omega arith in
    let l0 : 0 ≤ 0 + 0 = omega arith in
    let whole = ascends-append rank (0 + 0) (a + (0 + length params)) ((a + p) + (0 + length statements)) (xs ++ ys) zs
    (ascends-append rank (0 + 0) (0 + (0 + length arrays)) (a + (0 + length params)) xs ys first (ascends-lower rank (0 + (0 + length arrays)) (a + 0) ys (a + (0 + length params)) l1 second))
    (ascends-lower rank (a + (0 + length params)) ((a + p) + 0) zs ((a + p) + (0 + length statements)) l2 third) in
    ascends-lower rank 0 (0 + 0) ((xs ++ ys) ++ zs) ((a + p) + (0 + length statements)) l0 whole

names-different : (loop : List ℕ) (block : List Form) → IsClean block → AllPairs (λ a b. a ≢ b) (declared_names (the_loop loop block))
names-different loop block clean i j d l k same =
    let a = length (filter_map array_in block) in
    let p = length (filter_map param_in block) in
    let names = declared_names (the_loop loop block) in
    let rank : List ℕ → ℕ = λ name. name_rank a p (declared block name) in
    let up : rank (get_or names i d) < rank (get_or names j d) = ascends-pairs rank 0 names ((a + p) + (0 + length (map (statement_of block) (filter_map statement_in block)))) (names-ascend loop block clean a p refl refl) i j d l k in
    let e : rank (get_or names i d) ≡ rank (get_or names j d) = ap rank same in
    omega arith

-- statements

array-under : (block : List Form) (d : Option Declared) → IsCounted block d → is_array_name d ≡ true → number_at d < how_many is_array block
array-under block None h e = absurd (false≢true e)
array-under block (Some (AnArray n)) h e = h
array-under block (Some (AParam n)) h e = absurd (false≢true e)
array-under block (Some (AValue n)) h e = absurd (false≢true e)

place-is : (loop : List ℕ) (block : List Form) (n : ℕ) (s : StatementForm) → IsStatementAt block n s → (q : Subscript) → s.place ≡ Some q → IsPlace (the_loop loop block) (place_at block q)
place-is loop block n s at q e =
    let z = at.offset q e in
    let under = array-under block (declared block q.array) (declared-below block q.array) (at.array q e) in
    let count = numbered-length is_array array_in array-agrees block in
    let same : unwrap_or q.offset (pos 0) ≡ z.0 = ap (λ o. unwrap_or o (pos 0)) z.1 in
    record {
      array = omega arith;
      low = subst (λ w. neg_ℤ (pos 64) ≤ℤ w) (sym same) z.2.0;
      high = subst (λ w. w ≤ℤ pos 64) (sym same) z.2.1;
    }

place-in : (loop : List ℕ) (block : List Form) (o : Option Subscript) → ((q : Subscript) → o ≡ Some q → IsPlace (the_loop loop block) (place_at block q)) → (p : Place) → option_map (place_at block) o ≡ Some p → IsPlace (the_loop loop block) p
place-in loop block None is p e = absurd (none-some p e)
place-in loop block (Some q) is p e = subst (IsPlace (the_loop loop block)) (same_Some (place_at block q) p e) (is q refl)

inits-each : (block : List Form) (name : List ℕ) (d : ℕ) → has_inits block name d ≡ true → (m : ℕ) → 1 ≤ m → m ≤ d → has_init block name m ≡ true
inits-each block name zero h m l k = absurd (omega arith)
inits-each block name (suc n) h m l k =
    let parts = and_parts (has_init block name (suc n)) (has_inits block name n) h in
    ⊎_elim (λ e. ap (has_init block name) e ∙ parts.0) (λ ne. inits-each block name n parts.1 m l (omega arith)) (cases_eq m (suc n))

early-from : (d v n : ℕ) → (same_number (Some d) (Some 0) && is_value_from n (Some (AValue v))) ≡ false → d ≡ 0 → v < n
early-from d v n h e =
    let z : same_number (Some d) (Some 0) ≡ true = eq-eqb d 0 e in
    leb-false n v (sym (ap (λ b. b && is_value_from n (Some (AValue v))) z) ∙ h)

plain-read : (loop : List ℕ) (block : List Form) → IsClean block → (n : ℕ) (name : List ℕ) (d : Option Declared) → declared block name ≡ d → is_readable d ≡ true → is_value_from n d ≡ false → MayRead (the_loop loop block) n (reads d 0)
plain-read loop block clean n name None e h k = absurd (false≢true h)
plain-read loop block clean n name (Some (AnArray m)) e h k = absurd (false≢true h)
plain-read loop block clean n name (Some (AParam m)) e h k =
    let under : m < how_many is_param block = counted-as block name (Some (AParam m)) (sym e) in
    let count = numbered-length is_param param_in param-agrees block in
    omega arith
plain-read loop block clean n name (Some (AValue v)) e h k =
    (gives-value loop block name v e, omega arith, λ z. leb-false n v k, λ m low high. absurd (omega arith))

at-read : (loop : List ℕ) (block : List Form) → IsClean block → (n : ℕ) (name : List ℕ) (d v : ℕ) → declared block name ≡ Some (AValue v) → d ≤ 16 → (same_number (Some d) (Some 0) && is_value_from n (declared block name)) ≡ false
    → has_inits block name d ≡ true → MayRead (the_loop loop block) n (Value v d)
at-read loop block clean n name d v e near late inits = (
  gives-value loop block name v e,
  near,
  early-from d v n (sym (ap (λ o. same_number (Some d) (Some 0) && is_value_from n o) e) ∙ late),
  λ m low high. has-initial loop block clean name v m e low (omega arith) (inits-each block name d inits m low high),
)

use-read : (loop : List ℕ) (block : List Form) → IsClean block → (n : ℕ) (u : Use) → IsUseAt block n u → MayRead (the_loop loop block) n (operand_of block u)
use-read loop block clean n (Number value) at = kept-long value at.near
use-read loop block clean n (Plain name) at = plain-read loop block clean n name (declared block name) refl (not-false (is_readable (declared block name)) at.known) at.late
use-read loop block clean n (At name None) at = absurd (true≢false (or_parts (is_long name) true at.narrow).1)
use-read loop block clean n (At name (Some d)) at =
    let v = value-of (declared block name) (not-false (is_value (declared block name)) at.known) in
    subst (λ o. MayRead (the_loop loop block) n (reads o d)) (sym v.1)
    (at-read loop block clean n name d v.0 v.1 at.near at.late (not-false (has_inits block name d) at.covered))

uses-read : (loop : List ℕ) (block : List Form) → IsClean block → (n : ℕ) (uses : List Use) → AllByRecursion (IsUseAt block n) uses → AllByRecursion (MayRead (the_loop loop block) n) (map (operand_of block) uses)
uses-read loop block clean n [] at = tt
uses-read loop block clean n (u ∷ uses) at = (use-read loop block clean n u at.0, uses-read loop block clean n uses at.1)

statement-is : (loop : List ℕ) (block : List Form) → IsClean block → (n : ℕ) (s : StatementForm) → IsStatementAt block n s → IsStatement (the_loop loop block) n (statement_of block s)
statement-is loop block clean n s at =
    record {
      shape = at.shape;
      place = λ p e. place-in loop block s.place (place-is loop block n s at) p e;
      operands = All-from_recursion (MayRead (the_loop loop block) n) (map (operand_of block) s.uses) (uses-read loop block clean n s.uses at.uses);
    }

statements-are : (loop : List ℕ) (block : List Form) → IsClean block → (number : ℕ) (s : Statement) → slice_get (map (statement_of block) (filter_map statement_in block)) number ≡ Some s → IsStatement (the_loop loop block) number s
statements-are loop block clean number s e =
    let sources = filter_map statement_in block in
    let each = each-map (IsStatement (the_loop loop block)) (statement_of block) 0 sources
    (each-weaker (IsStatementAt block) (λ n s. IsStatement (the_loop loop block) n (statement_of block s)) (statement-is loop block clean) 0 sources (sources-at block clean)) in
    subst (λ n. IsStatement (the_loop loop block) n s) (zero-add number) (each-get (IsStatement (the_loop loop block)) 0 (map (statement_of block) sources) each number s e)

-- initial values

inits-are : (loop : List ℕ) (block : List Form) → IsClean block
    → AllByRecursion (λ (i : Initial). GivesValue (the_loop loop block) i.statement × (1 ≤ i.number) × (i.number ≤ 16)) (inits_from block 0 (filter_map statement_in block))
inits-are loop block clean =
    inits-all (GivesValue (the_loop loop block)) block 0 (filter_map statement_in block)
    (each-weaker (IsStatementAt block) (λ v (s : StatementForm). (name : List ℕ) → s.name ≡ Some name → GivesValue (the_loop loop block) v) (λ v s at name e. gives-value loop block name v (at.is name e)) 0 (filter_map statement_in block) (sources-at block clean))

cells-are : (block : List Form) → IsClean block → All (λ (a : Array). length a.cells ≤ 1024) (filter_map array_in block)
cells-are block clean =
    All-from_recursion (λ (a : Array). length a.cells ≤ 1024) (filter_map array_in block)
    (each-all (IsArrayAt block) (λ (a : Array). length a.cells ≤ 1024) (λ m a h. h.cells) 0 (filter_map array_in block) (arrays-at block clean))

abbrev AreLongCells : Array → Type 0
AreLongCells a = All IsLong a.cells

cells-long : (block : List Form) → IsClean block → All (λ (a : Array). All IsLong a.cells) (filter_map array_in block)
cells-long block clean =
    All-from_recursion AreLongCells (filter_map array_in block)
    (each-all (IsArrayAt block) AreLongCells (λ m a h. All-from_recursion IsLong a.cells h.values) 0 (filter_map array_in block) (arrays-at block clean))

params-long : (block : List Form) → IsClean block → All (λ (p : Param). IsLong p.value) (filter_map param_in block)
params-long block clean =
    All-from_recursion (λ (p : Param). IsLong p.value) (filter_map param_in block)
    (each-all (IsParamAt block) (λ (p : Param). IsLong p.value) (λ m p h. h.value) 0 (filter_map param_in block) (params-at block clean))

clean-loop : (loop : List ℕ) (block : List Form) → IsName loop → has_statement block ≡ true → IsClean block → IsLoop (the_loop loop block)
clean-loop loop block name some clean =
    record {
      name = name;
      arrays = arrays-few block clean;
      params = params-few block clean;
      statements_some = statements-some block some;
      statements_few = statements-few block clean;
      cells = cells-are block clean;
      cell_values = cells-long block clean;
      param_values = params-long block clean;
      names = all-names loop block clean;
      different = names-different loop block clean;
      each = statements-are loop block clean;
      inits = All-from_recursion (λ (i : Initial). GivesValue (the_loop loop block) i.statement × (1 ≤ i.number) × (i.number ≤ 16)) (inits_from block 0 (filter_map statement_in block)) (inits-are loop block clean);
      init_values = inits-long block clean;
      inits_ascend = inits-ascend (GivesValue (the_loop loop block)) block (filter_map statement_in block) (inits-are loop block clean);
      outs = outs-hold loop block clean;
      outs_different = outs-different block clean;
    }

-- a block of standing lines without a fault is a loop that the language allows
pub lawful : (name : List ℕ) (block : List Form) → IsName name → IsBlock block → has_statement block ≡ true → IsFaultlessFrom block [] block → IsLoop (loop_of (name, block))
unfolding loop_of
lawful name block named is some faultless = clean-loop name block named some (clean-from block is faultless)
