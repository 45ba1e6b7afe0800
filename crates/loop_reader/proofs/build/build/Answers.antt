use Rattle.std.proofs.Common.{ap, ◌∙◌, ◌++◌, sym, subst, length, take, [], arith}
use Rattle.std.proofs.lemmas.List.{length-map, take_all}
use Rattle.loop_reader.specs.Meaning.{array_in, param_in, statement_in, out_in, statement_of, how_many, is_statement}
use Rattle.loop_reader.specs.inner.Blocks.{forms_in}
use Rattle.loop_data.specs.Loops.{IsLoop}
use Rattle.loop_reader.proofs.making.Built.{extend-lines, extend-mapped, extend-rows, statement-placed}
use Rattle.loop_reader.specs.inner.Found.{AreFound}
use Rattle.loop_reader.specs.declared.lines.entry.LineEntry.{LineEntry}
use Rattle.loop_lines.specs.declared.form.Form.TheVariants as forms
use Rattle.loop_reader.specs.declared.names.found.Targets.{Targets}
use Rattle.loop_reader.specs.declared.names.found.Target.TheVariants as targets
use Rattle.loop_reader.proofs.lookups.Finding.{statement-by, out-by}
use Rattle.loop_reader.proofs.making.Few.{few, line-named}
use Rattle.loop_reader.proofs.making.Inits.{inits-given, entries-faultless}
use Rattle.loop_reader.proofs.making.Lawful.{lawful}
use Rattle.loop_reader.proofs.making.Made.{made-of}
use Rattle.loop_reader.proofs.build.build.Goals as goal

-- what stands past the last line
abbrev no-line : LineEntry
no-line = record { line = 0; form = forms.Loop (record { ref_ptr = (0, 0); now = [] }) }

-- and past what was found for it
abbrev none : Targets
none = record { number = 0; first = targets.Param 0; second = targets.Param 0; third = targets.Param 0 }

pub bounds-found-i : goal.bounds-found-i
bounds-found-i c =
    let small = few (forms_in c.args.index.now) c.requires.block (entries-faultless (forms_in c.args.index.now) [] c.args.index.now c.requires.faultless) in
    let found = c.requires.found small in
    let all = found.all in
    omega (arith, all, ap length c.loop-i.invariant.items, c.loop-i-test.true)

pub add-requires-clause-name : goal.add-requires-clause-name
add-requires-clause-name c = line-named c.args.index.now c.lines-lines.result.now c.requires.block c.requires.faultless c.loop-i.invariant.items c.loop-i.i _ c.loop-i-test.true

pub add-requires-clause-few : goal.add-requires-clause-few
add-requires-clause-few c =
    let small = few (forms_in c.args.index.now) c.requires.block (entries-faultless (forms_in c.args.index.now) [] c.args.index.now c.requires.faultless) in
    let most = small.statements in
    let placed = statement-placed c.lines-lines.result.now c.loop-i.i no-line (length c.loop-i.parts.statements.items) c.loop-i-test.true (ap length c.loop-i.invariant.statements ∙ length-map _ _) in
    let same = ap (λ ls. how_many is_statement (forms_in ls)) c.loop-i.invariant.items in
    omega (arith, most, placed, same)

pub add-requires-clause-room : goal.add-requires-clause-room
add-requires-clause-room c =
    let room = c.requires.given.room in
    let placed = statement-placed c.lines-lines.result.now c.loop-i.i no-line (length c.loop-i.parts.statements.items) c.loop-i-test.true (ap length c.loop-i.invariant.statements ∙ length-map _ _) in
    let same = ap (λ ls. how_many is_statement (forms_in ls)) c.loop-i.invariant.items in
    omega (arith, room, placed, same)

pub loop-i-preserved : goal.loop-i-preserved
loop-i-preserved c =
    let inv = c.loop-i.invariant in
    let h = c.loop-i-test.true in
    let add = c.in_ok-add.ensures in
    let block = forms_in c.args.index.now in
    let small = few block c.requires.block (entries-faultless block [] c.args.index.now c.requires.faultless) in
    let each = subst (λ ls. AreFound block ls c.args.found.now) (sym inv.items) (c.requires.found small) in
    let found = each.each c.loop-i.i _ none h in
    record {
      items = inv.items;
      arrays = extend-lines array_in _ _ _ _ _ h inv.arrays add.arrays;
      params = extend-lines param_in _ _ _ _ _ h inv.params add.params;
      statements = extend-mapped statement_in (statement_of (forms_in c.args.index.now)) _ _ _ _ _ h inv.statements (add.statements ∙ ap (λ xs. c.loop-i.parts.statements.items ++ xs) (statement-by block _ _ found));
      inits = extend-rows _ _ _ _ _ _ _ h (ap length inv.statements ∙ length-map _ _) inv.inits add.inits;
      outs = extend-lines (out_in (forms_in c.args.index.now)) _ _ _ _ _ h inv.outs (add.outs ∙ ap (λ xs. c.loop-i.parts.outs.items ++ xs) (out-by block _ _ found));
    }

pub new-requires-3 : goal.new-requires-3
new-requires-3 c =
    subst IsLoop (sym (made-of c.name_of.result c.args.name.now (forms_in c.args.index.now) (forms_in (take c.loop-i.i c.lines-lines.result.now)) c.args.given.now.inits _ _ _ _ _
    c.name_of.ensures (ap forms_in (take_all _ _ c.loop-i-test.false ∙ c.loop-i.invariant.items)) c.loop-i.invariant.arrays c.loop-i.invariant.params c.loop-i.invariant.statements c.loop-i.invariant.inits c.loop-i.invariant.outs
    (inits-given (forms_in c.args.index.now) c.args.given.now.inits c.args.given.now.outs.items c.requires.block (entries-faultless (forms_in c.args.index.now) [] c.args.index.now c.requires.faultless) c.requires.given)))
    (lawful c.args.name.now (forms_in c.args.index.now) c.requires.name c.requires.block c.requires.some (entries-faultless (forms_in c.args.index.now) [] c.args.index.now c.requires.faultless))

pub returns-clause-value : goal.returns-clause-value
returns-clause-value c =
    c.new-3.ensures ∙ made-of c.name_of.result c.args.name.now (forms_in c.args.index.now) (forms_in (take c.loop-i.i c.lines-lines.result.now)) c.args.given.now.inits _ _ _ _ _
    c.name_of.ensures (ap forms_in (take_all _ _ c.loop-i-test.false ∙ c.loop-i.invariant.items)) c.loop-i.invariant.arrays c.loop-i.invariant.params c.loop-i.invariant.statements c.loop-i.invariant.inits c.loop-i.invariant.outs
    (inits-given (forms_in c.args.index.now) c.args.given.now.inits c.args.given.now.outs.items c.requires.block (entries-faultless (forms_in c.args.index.now) [] c.args.index.now c.requires.faultless) c.requires.given)

pub returns-clause-well_formed : goal.returns-clause-well_formed
returns-clause-well_formed c =
    subst IsLoop (sym (c.new-3.ensures ∙ made-of c.name_of.result c.args.name.now (forms_in c.args.index.now) (forms_in (take c.loop-i.i c.lines-lines.result.now)) c.args.given.now.inits _ _ _ _ _
    c.name_of.ensures (ap forms_in (take_all _ _ c.loop-i-test.false ∙ c.loop-i.invariant.items)) c.loop-i.invariant.arrays c.loop-i.invariant.params c.loop-i.invariant.statements c.loop-i.invariant.inits c.loop-i.invariant.outs
    (inits-given (forms_in c.args.index.now) c.args.given.now.inits c.args.given.now.outs.items c.requires.block (entries-faultless (forms_in c.args.index.now) [] c.args.index.now c.requires.faultless) c.requires.given)))
    (lawful c.args.name.now (forms_in c.args.index.now) c.requires.name c.requires.block c.requires.some (entries-faultless (forms_in c.args.index.now) [] c.args.index.now c.requires.faultless))
