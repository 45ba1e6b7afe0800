-- The loop that is made of a block's parts.
use Rattle.std.proofs.Common.{◌≡◌, ℕ, ℤ, List, map, Option, refl, ap, ◌∙◌}
use Rattle.std.specs.List.{filter_map}
use Rattle.loop_lines.specs.Forms.{Form}
use Rattle.loop_reader.specs.inner.Building.{rows_of}
use Rattle.loop_data.specs.Loops.{LoopData}
use Rattle.loop_reader.specs.Meaning.{array_in, param_in, statement_in, out_in, statement_of, inits_from, loop_of}
use Rattle.loop_data.specs.declared.language.lists.Array.{Array}
use Rattle.loop_data.specs.declared.language.lists.Initial.{Initial}
use Rattle.loop_data.specs.declared.language.lists.Param.{Param}
use Rattle.loop_data.specs.declared.language.statement.Statement.{Statement}

abbrev pub loop_with : List ℕ → List Array → List Param → List Statement → List Initial → List ℕ → LoopData
loop_with name arrays params statements inits outs = record { name = name; arrays = arrays; params = params; statements = statements; inits = inits; outs = outs }

-- parts that are those of a block make the block's loop
pub made : (name : List ℕ) (block : List Form) (arrays : List Array) (params : List Param) (statements : List Statement) (inits : List Initial) (outs : List ℕ)
    → arrays ≡ filter_map array_in block → params ≡ filter_map param_in block → statements ≡ map (statement_of block) (filter_map statement_in block)
    → inits ≡ inits_from block 0 (filter_map statement_in block) → outs ≡ filter_map (out_in block) block
    → loop_with name arrays params statements inits outs ≡ loop_of (name, block)
unfolding loop_of
made name block arrays params statements inits outs a p s i o = rw (a, p, s, i, o) refl

-- the same where the lines are all of the block's, and the initial values come from a table that has them
pub made-of : (own name : List ℕ) (block done : List Form) (table : List (Option ℤ)) (arrays : List Array) (params : List Param) (statements : List Statement) (inits : List Initial) (outs : List ℕ)
    → own ≡ name → done ≡ block → arrays ≡ filter_map array_in done → params ≡ filter_map param_in done → statements ≡ map (statement_of block) (filter_map statement_in done)
    → inits ≡ rows_of table 0 (filter_map statement_in done) → outs ≡ filter_map (out_in block) done
    → rows_of table 0 (filter_map statement_in block) ≡ inits_from block 0 (filter_map statement_in block)
    → loop_with own arrays params statements inits outs ≡ loop_of (name, block)
made-of own name block done table arrays params statements inits outs n e a p s i o given =
    ap (λ called. loop_with called arrays params statements inits outs) n
    ∙ made name block arrays params statements inits outs (a ∙ ap (filter_map array_in) e) (p ∙ ap (filter_map param_in) e)
    (s ∙ ap (λ forms. map (statement_of block) (filter_map statement_in forms)) e) (i ∙ ap (λ forms. rows_of table 0 (filter_map statement_in forms)) e ∙ given) (o ∙ ap (filter_map (out_in block)) e)
