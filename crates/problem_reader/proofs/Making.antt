-- What makes the values of a problem.
use Rattle.std.proofs.Common.{◌≡◌, ℕ, suc, ◌+◌, ◌<◌, Bool, true, false, cond, List, [], ◌∷◌, ◌++◌, length, map, get_or, refl, sym, ap, ◌∙◌, arith, if◌then◌else◌, Some, None}
use Rattle.std.specs.Prelude.{◌||◌, ◌&&◌, nat_lt, count_by}
use Rattle.std.specs.List.{cons_option, filter_map, list_all}
use Rattle.std.proofs.lemmas.Bool.{false≢true, false_from_ne_true}
use Rattle.std.proofs.lemmas.Bool.Decides.{Decides-ltb}
use Rattle.std.proofs.lemmas.List.Folds.{list_any-append}
use Rattle.std.proofs.lemmas.List.Sums.{sum_by-append}
use Rattle.machine_data.specs.Opcodes.{same_word}
use Rattle.problem_lines.specs.Forms.{Form, MachineLine, UnitsLine, FileLine, KindLine, ProblemLine, OpLine, ValueLine, ReadLine, EdgeLine, EndLine}
use Rattle.problems.specs.declared.draft.Value.{Value}
use Rattle.problem_tables.specs.Names.{has_name, index_of}
use Rattle.problem_tables.specs.Tables.{any_value, made_before}
use Rattle.problem_tables.proofs.Naming.{same_word-sym, same_word-yes}
use Rattle.problem_reader.specs.Files.{value_in, read_in, order_in}
use Rattle.problem_reader.specs.Sofar.{is_edge, is_read, maker_name, value_name}

-- no name is there twice
abbrev pub AreOnce : List (List ℕ) → Type 0
AreOnce [] = Unit {0}
AreOnce (name ∷ names) = (has_name names name ≡ false) × AreOnce names

or-left : (a b : Bool) → (a || b) ≡ false → a ≡ false
or-left true b h = h
or-left false b h = refl

or-right : (a b : Bool) → (a || b) ≡ false → b ≡ false
or-right true b h = absurd (false≢true (sym h))
or-right false b h = h

or-both : (a b : Bool) → a ≡ false → b ≡ false → (a || (b || false)) ≡ false
or-both true b p q = p
or-both false true p q = q
or-both false false p q = refl

pub once-push : (names : List (List ℕ)) (name : List ℕ) → AreOnce names → has_name names name ≡ false → AreOnce (names ++ name ∷ [])
once-push [] name once absent = (refl, tt)
once-push (first ∷ names) name once absent = (
  list_any-append (same_word first) names (name ∷ [])
      ∙ or-both (has_name names first) (same_word first name) once.0 (same_word-sym first name ∙ or-left (same_word name first) (has_name names name) absent),
  once-push names name once.1 (or-right (same_word name first) (has_name names name) absent),
)

-- the values and their makers

less-suc : (i n : ℕ) → nat_lt (i + 1) (suc n) ≡ nat_lt i n
less-suc i n = elim (nat_lt i n) as (λ b. nat_lt i n ≡ b → nat_lt (i + 1) (suc n) ≡ b) [
  | true ↦ λ e. let low : i < n = (Decides-ltb i n).0 e in (Decides-ltb (i + 1) (suc n)).1 (omega (arith, low))
  | false ↦ λ e. false_from_ne_true (nat_lt (i + 1) (suc n)) (λ t. let low : i + 1 < suc n = (Decides-ltb (i + 1) (suc n)).0 t in false≢true (sym e ∙ (Decides-ltb i n).1 (omega (arith, low))))
] refl

less-zero : (n : ℕ) → nat_lt 0 (suc n) ≡ true
less-zero n = (Decides-ltb 0 (suc n)).1 (omega arith)

made-first : (value : Value) (values : List Value) (reader : ℕ) → made_before (value ∷ values) 0 reader ≡ nat_lt value.maker reader
made-first value values reader = ap (λ b. if b then nat_lt value.maker reader else true) (less-zero (length values))

made-more : (value : Value) (values : List Value) (i reader : ℕ) → made_before (value ∷ values) (i + 1) reader ≡ made_before values i reader
made-more value values i reader =
    ap (λ b. if b then nat_lt (get_or (value ∷ values) (i + 1) any_value).maker reader else true) (less-suc i (length values))
    ∙ ap (λ n. if nat_lt i (length values) then nat_lt (get_or (value ∷ values) n any_value).maker reader else true) (let s : i + 1 ≡ suc i = omega arith in s)

-- a value of another name, or none

-- one more maker, where the names are the same
abbrev filter_by : Bool → List ℕ → List (List ℕ) → List (List ℕ)
filter_by b maker rest = cons_option (if b then Some maker else None) rest

-- a name that there is not has no maker
pub no-maker : (q : List ℕ) (ls : List Form) → has_name (filter_map value_name ls) q ≡ false → filter_map (maker_name q) ls ≡ []
no-maker q [] absent = refl
no-maker q (MachineLine name ∷ ls) absent = no-maker q ls absent
no-maker q (UnitsLine names ∷ ls) absent = no-maker q ls absent
no-maker q (FileLine name storage ∷ ls) absent = no-maker q ls absent
no-maker q (KindLine name latency alternatives ∷ ls) absent = no-maker q ls absent
no-maker q (ProblemLine name ∷ ls) absent = no-maker q ls absent
no-maker q (OpLine name kind ∷ ls) absent = no-maker q ls absent
no-maker q (ValueLine name maker lands file out ∷ ls) absent =
    ap (λ b. filter_by b maker.bytes (filter_map (maker_name q) ls)) (or-left (same_word q name.bytes) (has_name (filter_map value_name ls) q) absent)
    ∙ no-maker q ls (or-right (same_word q name.bytes) (has_name (filter_map value_name ls) q) absent)
no-maker q (ReadLine reader value distance offset ∷ ls) absent = no-maker q ls absent
no-maker q (EdgeLine from to delay distance ∷ ls) absent = no-maker q ls absent
no-maker q (EndLine ∷ ls) absent = no-maker q ls absent

and-true : (b : Bool) → (b && true) ≡ b
and-true true = refl
and-true false = refl

-- the value that a name stands for is made before an operation just where all makers of that name come before it
makers-step : (b : Bool) (ops rest : List (List ℕ)) (maker : List ℕ) (value : Value) (values : List Value) (i reader : ℕ) → value.maker ≡ index_of ops maker
    → (b ≡ true → rest ≡ [])
    → list_all (λ m. nat_lt m reader) (map (index_of ops) rest) ≡ made_before values i reader
    → list_all (λ m. nat_lt m reader) (map (index_of ops) (filter_by b maker rest)) ≡ made_before (value ∷ values) (if b then 0 else i + 1) reader
makers-step true ops rest maker value values i reader is none h =
    ap (λ ms. nat_lt (index_of ops maker) reader && list_all (λ m. nat_lt m reader) (map (index_of ops) ms)) (none refl)
    ∙ and-true (nat_lt (index_of ops maker) reader) ∙ ap (λ k. nat_lt k reader) (sym is) ∙ sym (made-first value values reader)
makers-step false ops rest maker value values i reader is none h = h ∙ sym (made-more value values i reader)

none-made : (reader : ℕ) → true ≡ made_before [] 0 reader
none-made reader = refl

pub makers-are : (ops files : List (List ℕ)) (q : List ℕ) (reader : ℕ) (ls : List Form) → AreOnce (filter_map value_name ls)
    → list_all (λ m. nat_lt m reader) (map (index_of ops) (filter_map (maker_name q) ls)) ≡ made_before (filter_map (value_in ops files) ls) (index_of (filter_map value_name ls) q) reader
makers-are ops files q reader [] once = none-made reader
makers-are ops files q reader (MachineLine name ∷ ls) once = makers-are ops files q reader ls once
makers-are ops files q reader (UnitsLine names ∷ ls) once = makers-are ops files q reader ls once
makers-are ops files q reader (FileLine name storage ∷ ls) once = makers-are ops files q reader ls once
makers-are ops files q reader (KindLine name latency alternatives ∷ ls) once = makers-are ops files q reader ls once
makers-are ops files q reader (ProblemLine name ∷ ls) once = makers-are ops files q reader ls once
makers-are ops files q reader (OpLine name kind ∷ ls) once = makers-are ops files q reader ls once
makers-are ops files q reader (ValueLine name maker lands file out ∷ ls) once =
    makers-step (same_word q name.bytes) ops (filter_map (maker_name q) ls) maker.bytes (record { maker = index_of ops maker.bytes; lands = lands.value; out = out; file = index_of files file.bytes })
    (filter_map (value_in ops files) ls) (index_of (filter_map value_name ls) q) reader refl
    (λ e. no-maker q ls (ap (has_name (filter_map value_name ls)) (same_word-yes q name.bytes e) ∙ once.0))
    (makers-are ops files q reader ls once.1)
makers-are ops files q reader (ReadLine reader' value distance offset ∷ ls) once = makers-are ops files q reader ls once
makers-are ops files q reader (EdgeLine from to delay distance ∷ ls) once = makers-are ops files q reader ls once
makers-are ops files q reader (EndLine ∷ ls) once = makers-are ops files q reader ls once

-- how many reads and edges there are

pub reads-are : (ops values : List (List ℕ)) (ls : List Form) → count_by is_read ls ≡ length (filter_map (read_in ops values) ls)
reads-are ops values [] = refl
reads-are ops values (MachineLine name ∷ ls) = reads-are ops values ls
reads-are ops values (UnitsLine names ∷ ls) = reads-are ops values ls
reads-are ops values (FileLine name storage ∷ ls) = reads-are ops values ls
reads-are ops values (KindLine name latency alternatives ∷ ls) = reads-are ops values ls
reads-are ops values (ProblemLine name ∷ ls) = reads-are ops values ls
reads-are ops values (OpLine name kind ∷ ls) = reads-are ops values ls
reads-are ops values (ValueLine name maker lands file out ∷ ls) = reads-are ops values ls
reads-are ops values (ReadLine reader value distance offset ∷ ls) =
    let e : count_by is_read (ReadLine reader value distance offset ∷ ls) ≡ 1 + count_by is_read ls = sum_by-append (λ x. cond (is_read x) 1 0) (ReadLine reader value distance offset ∷ []) ls in
    let h = reads-are ops values ls in
    omega (arith, e, h)
reads-are ops values (EdgeLine from to delay distance ∷ ls) = reads-are ops values ls
reads-are ops values (EndLine ∷ ls) = reads-are ops values ls

pub edges-are : (ops : List (List ℕ)) (ls : List Form) → count_by is_edge ls ≡ length (filter_map (order_in ops) ls)
edges-are ops [] = refl
edges-are ops (MachineLine name ∷ ls) = edges-are ops ls
edges-are ops (UnitsLine names ∷ ls) = edges-are ops ls
edges-are ops (FileLine name storage ∷ ls) = edges-are ops ls
edges-are ops (KindLine name latency alternatives ∷ ls) = edges-are ops ls
edges-are ops (ProblemLine name ∷ ls) = edges-are ops ls
edges-are ops (OpLine name kind ∷ ls) = edges-are ops ls
edges-are ops (ValueLine name maker lands file out ∷ ls) = edges-are ops ls
edges-are ops (ReadLine reader value distance offset ∷ ls) = edges-are ops ls
edges-are ops (EdgeLine from to delay distance ∷ ls) =
    let e : count_by is_edge (EdgeLine from to delay distance ∷ ls) ≡ 1 + count_by is_edge ls = sum_by-append (λ x. cond (is_edge x) 1 0) (EdgeLine from to delay distance ∷ []) ls in
    let h = edges-are ops ls in
    omega (arith, e, h)
edges-are ops (EndLine ∷ ls) = edges-are ops ls
