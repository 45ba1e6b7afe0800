-- The initial values that a block without a fault gives to its statements, as the reader's table holds them.
use Rattle.std.proofs.Common.{◌≡◌, ℕ, zero, suc, ℤ, ◌+◌, ◌<◌, Bool, List, [], ◌∷◌, ◌++◌, Option, Some, None, option_map, refl, sym, ◌∙◌, ap, arith}
use Rattle.std.specs.Prelude.{option_to_list}
use Rattle.std.specs.List.{filter_map, cons_option}
use Rattle.loop_reader.specs.declared.lines.entry.LineEntry.{LineEntry}
use Rattle.reader_faults.specs.declared.loops.LoopFault.{LoopFault}
use Rattle.loop_data.specs.declared.language.lists.Initial.{Initial}
use Rattle.loop_reader.specs.inner.Blocks.{entry_faults, forms_in}
use Rattle.loop_reader.specs.inner.Building.{row_of, row_if, rows_of}
use Rattle.loop_reader.specs.inner.Checks.{IsBlock, IsGiven, slot}
use Rattle.loop_lines.specs.Forms.{Form, StatementForm}
use Rattle.loop_reader.specs.Meaning.{AValue, Kinds, at_line, declared, faults_of, init_value, inits_at, inits_from, statement_in}
use Rattle.loop_lines.specs.Parsed.{form_seen}
use Rattle.loop_reader.proofs.making.Lawful.{IsFaultlessFrom, clean-from}
use Rattle.loop_reader.proofs.making.Lines.{IsStatementAt, sources-at}
use Rattle.loop_reader.proofs.making.Numbered.{EachFrom}

one-on : (i : ℕ) → i + 1 ≡ suc i
one-on i = omega arith

-- a filtered list with one more element

cons-join : {Y : Type 0} (o : Option Y) (ys zs : List Y) → cons_option o (ys ++ zs) ≡ cons_option o ys ++ zs
cons-join None ys zs = refl
cons-join (Some y) ys zs = refl

cons-last : {Y : Type 0} (o : Option Y) → cons_option o [] ≡ option_to_list o
cons-last None = refl
cons-last (Some y) = refl

filtered-last : {X Y : Type 0} (g : X → Option Y) (xs : List X) (x : X) → filter_map g (xs ++ x ∷ []) ≡ filter_map g xs ++ option_to_list (g x)
filtered-last g [] x = cons-last (g x)
filtered-last g (y ∷ xs) x = ap (cons_option (g y)) (filtered-last g xs x) ∙ cons-join (g y) (filter_map g xs) (option_to_list (g x))

-- the initial values of one statement's value

abbrev initial : ℕ → ℕ → ℤ → Initial
initial statement number value = record { statement = statement; number = number; value = value }

abbrev numbers_to : ℕ → List ℕ
numbers_to zero = []
numbers_to (suc m) = numbers_to m ++ (m + 1) ∷ []

row-is : (inits : List (Option ℤ)) (statement : ℕ) (value : ℕ → Option ℤ) (n : ℕ) → ((m : ℕ) → m < n → slot inits statement m ≡ value (m + 1))
    → row_of inits statement n ≡ filter_map (λ number. option_map (initial statement number) (value number)) (numbers_to n)
row-is inits statement value zero h = refl
row-is inits statement value (suc m) h =
    ap (λ o. row_of inits statement m ++ option_to_list (option_map (initial statement (m + 1)) o)) (h m (omega arith))
    ∙ ap (λ xs. xs ++ option_to_list (option_map (initial statement (m + 1)) (value (m + 1)))) (row-is inits statement value m (λ k l. h k (omega arith)))
    ∙ sym (filtered-last (λ number. option_map (initial statement number) (value number)) (numbers_to m) (m + 1))

row-given : (block : List Form) (inits : List (Option ℤ)) (outs : List Bool) → IsGiven block block inits outs → (name : List ℕ) (n : ℕ) → declared block name ≡ Some (AValue n)
    → row_of inits n 16 ≡ inits_at block n (Some name)
row-given block inits outs given name n is =
    row-is inits n (λ m. init_value name m block) 16 (λ m l. given.slots name n m is l ∙ ap (λ k. init_value name k block) (sym (one-on m)))

row-named : (block : List Form) (inits : List (Option ℤ)) (outs : List Bool) → IsGiven block block inits outs → (n : ℕ) (o : Option (List ℕ))
    → ((name : List ℕ) → o ≡ Some name → declared block name ≡ Some (AValue n)) → row_if inits n o ≡ inits_at block n o
row-named block inits outs given n None is = refl
row-named block inits outs given n (Some name) is = row-given block inits outs given name n (is name refl)

-- those of each statement

rows-given : (block : List Form) (inits : List (Option ℤ)) (outs : List Bool) → IsGiven block block inits outs → (n : ℕ) (sources : List StatementForm) → EachFrom (IsStatementAt block) n sources
    → rows_of inits n sources ≡ inits_from block n sources
rows-given block inits outs given n [] each = refl
rows-given block inits outs given n (s ∷ sources) each =
    ap (λ xs. xs ++ rows_of inits (n + 1) sources) (row-named block inits outs given n s.name each.0.is)
    ∙ ap (λ xs. inits_at block n s.name ++ xs) (rows-given block inits outs given (n + 1) sources each.1)

pub inits-given : (block : List Form) (inits : List (Option ℤ)) (outs : List Bool) → IsBlock block → IsFaultlessFrom block [] block → IsGiven block block inits outs
    → rows_of inits 0 (filter_map statement_in block) ≡ inits_from block 0 (filter_map statement_in block)
inits-given block inits outs is faultless given = rows-given block inits outs given 0 (filter_map statement_in block) (sources-at block (clean-from block is faultless))

-- lines whose faults are none in a row have none each

line-faultless : (line : ℕ) (kinds : Kinds) (rest : List LoopFault) → at_line line kinds ++ rest ≡ [] → (kinds ≡ []) × (rest ≡ [])
line-faultless line [] rest h = (refl, h)
line-faultless line (kind ∷ kinds) rest h = cc

pub entries-faultless : (block before : List Form) (entries : List LineEntry) → entry_faults block before entries ≡ [] → IsFaultlessFrom block before (forms_in entries)
entries-faultless block before [] h = tt
entries-faultless block before (entry ∷ entries) h =
    let parts = line-faultless entry.line (faults_of before block (form_seen entry.form)) (entry_faults block (before ++ form_seen entry.form ∷ []) entries) h in
    (parts.0, entries-faultless block (before ++ form_seen entry.form ∷ []) entries parts.1)
