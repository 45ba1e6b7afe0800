-- The canonical text of a loop is read back as that loop alone.
use Rattle.std.proofs.Common.{◌≡◌, false, ltb, List, [], ◌∷◌, length, map, Some, ap, ◌∙◌}
use Rattle.std.specs.Prelude.{Result, Ok, Err}
use Rattle.std.proofs.lemmas.Bool.{le-ltb, cond-false}
use Rattle.reader_faults.specs.declared.loops.LoopFault.{LoopFault}
use Rattle.reader_faults.specs.declared.loops.LoopFaultKind.TheVariants.{Limit}
use Rattle.loop_data.specs.Loops.{LoopData, IsLoop}
use Rattle.loop_reader.specs.Meaning.{forms_of, outside_faults, blocks_of, loop_of, first_fault, loops_in}
use Rattle.loops.specs.Text.{text_of}
use Rattle.loops.proofs.returned.Written.{written_forms}
use Rattle.loops.proofs.spelling.Spelling.{forms-written}
use Rattle.loops.proofs.Sizes.{text-fits}
use Rattle.loops.proofs.faultless.Faultless.{faultless-written}
use Rattle.loops.proofs.returned.Returned.{loop-written}

pub read_back : (l : LoopData) → IsLoop l → loops_in (text_of l) ≡ Ok (l ∷ [])
unfolding loops_in
read_back l is =
    let forms : forms_of (text_of l) ≡ map Some (written_forms l) = forms-written l is in
    let fine : outside_faults 1 [] (forms_of (text_of l)) ≡ [] = ap (outside_faults 1 []) forms ∙ faultless-written l is in
    let back : map loop_of (blocks_of (forms_of (text_of l))) ≡ l ∷ [] = ap (λ fs. map loop_of (blocks_of fs)) forms ∙ loop-written l is in
    let short : ltb 1048576 (length (text_of l)) ≡ false = le-ltb 1048576 (length (text_of l)) (text-fits l is) in
    let found : Result (List LoopData) LoopFault = first_fault (outside_faults 1 [] (forms_of (text_of l))) (map loop_of (blocks_of (forms_of (text_of l)))) in
    cond-false (ltb 1048576 (length (text_of l))) (Err (record { line = 0; kind = Limit })) found short
    ∙ (ap (λ faults. first_fault faults (map loop_of (blocks_of (forms_of (text_of l))))) fine ∙ ap Ok back)
