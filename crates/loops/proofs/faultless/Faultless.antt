-- The canonical text of a loop has no fault.
use Rattle.std.proofs.Common.{◌≡◌, ◌||◌, false, List, [], ◌∷◌, ◌++◌, map, Some, refl, ◌∙◌, ap}
use Rattle.std.proofs.lemmas.Bool.{or_from}
use Rattle.reader_faults.specs.declared.loops.LoopFault.{LoopFault}
use Rattle.reader_faults.specs.declared.loops.LoopFaultKind.TheVariants.{Limit}
use Rattle.loop_lines.specs.Forms.{Form}
use Rattle.loop_data.specs.Loops.{LoopData, IsLoop}
use Rattle.loop_reader.specs.Meaning.{at_line, inside_faults, is_long, opening_faults, outside_faults, when}
use Rattle.loops.proofs.faultless.HeadLines.{arrays-fine, params-fine, no-fault, no-faults}
use Rattle.loops.proofs.faultless.InitLines.{head_forms, inits-fine}
use Rattle.loops.proofs.faultless.Insides.{AreFine, fine-append, inside-fine}
use Rattle.loops.proofs.faultless.OutLines.{has-statement, main_forms, outs-fine}
use Rattle.loops.proofs.faultless.ShortNames.{not-long}
use Rattle.loops.proofs.faultless.StatementLines.{lead_forms, statements-fine}
use Rattle.loops.proofs.returned.Written.{array_form, param_form, init_form, statement_form, out_form, body_forms, written_forms, ended}

-- each line between the first and the last may stand where it does, and has no fault
pub body-fine : (l : LoopData) → IsLoop l → AreFine (body_forms l) [] (body_forms l)
body-fine l is =
    let block : List Form = body_forms l in
    let heads : AreFine block [] (head_forms l) = fine-append block [] (map array_form l.arrays) (map param_form l.params) (arrays-fine l is) (params-fine l is) in
    let leads : AreFine block [] (lead_forms l) = fine-append block [] (head_forms l) (map (init_form l) l.inits) heads (inits-fine l is) in
    let mains : AreFine block [] (main_forms l) = fine-append block [] (lead_forms l) (map (statement_form l) l.statements) leads (statements-fine l is) in
    fine-append block [] (main_forms l) (map (out_form l) l.outs) mains (outs-fine l is)

-- nor has the first
opening-fine : (l : LoopData) → IsLoop l → opening_faults [] l.name ≡ []
opening-fine l is =
    no-faults (when (is_long l.name || false) Limit) [] (no-fault (is_long l.name || false) Limit (or_from (is_long l.name) false (not-long l.name is.name) refl)) refl

pub faultless-written : (l : LoopData) → IsLoop l → outside_faults 1 [] (map Some (written_forms l)) ≡ []
faultless-written l is =
    let rest : List LoopFault = inside_faults 2 (l.name ∷ []) [] (ended (body_forms l)) in
    ap (λ kinds. at_line 1 kinds ++ rest) (opening-fine l is)
    ∙ inside-fine 2 (l.name ∷ []) (body_forms l) [] (body_forms l) refl (has-statement l is (map (out_form l) l.outs)) (body-fine l is)
