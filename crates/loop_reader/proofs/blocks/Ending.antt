-- The first fault of a block, by where its lines stop.
use Rattle.std.proofs.Common.{◌≡◌, ℕ, ◌==◌, ◌+◌, ◌<◌, List, [], ◌∷◌, ◌++◌, take, Option, Some, None, Result, Ok, Err, sym, ◌∙◌, ap, subst, arith}
use Rattle.std.specs.Result.{IsErrAnd}
use Rattle.std.proofs.lemmas.Bool.{ne_eqb}
use Rattle.loop_lines.specs.Forms.{Form, EndLine}
use Rattle.loop_reader.specs.declared.lines.collect.Stop.{Stop}
use Rattle.loop_reader.specs.declared.lines.collect.Stop.TheVariants as stops
use Rattle.loop_reader.specs.declared.lines.entry.LineEntry.{LineEntry}
use Rattle.reader_faults.specs.declared.loops.LoopFault.{LoopFault}
use Rattle.reader_faults.specs.declared.loops.LoopFaultKind.TheVariants.{Syntax, NoEnd, Limit}
use Rattle.loop_reader.specs.declared.read.BlockRead.{BlockRead}
use Rattle.loop_reader.specs.Meaning.{forms_of, inside_faults, outside_faults, how_many, is_statement, at_line, when, faults_of}
use Rattle.loop_reader.specs.inner.Blocks.{forms_in, entry_faults, StopsBlock}
use Rattle.loop_reader.specs.inner.Checks.{first_in}
use Rattle.loop_reader.specs.inner.Texts.{UnlessMemory, AnswersBlock, AnswersEnd}
use Rattle.loop_reader.proofs.blocks.Blocking.{end-kinds, stop-front, first-front, after-front, first-end}
use Rattle.loop_reader.proofs.blocks.Memoryless.{unless, entry-kind}

module _ (number : ℕ) (lines : List (Option Form)) (entries : List LineEntry) (sound : ℕ) where
  abbrev IsFirst : LoopFault → Type 0
  IsFirst fault = UnlessMemory fault.kind fault ((names : List (List ℕ)) → first_in (inside_faults number names [] lines) ≡ Some fault)

  pub stop-fault : (first : Option LoopFault) (stop : Stop) (statements : ℕ) (fault : LoopFault) → StopsBlock number lines entries sound stop
      → first ≡ first_in (entry_faults (forms_in entries) [] (take sound entries)) → statements ≡ how_many is_statement (forms_in entries) → AnswersEnd first stop statements (Err fault) → IsFirst fault
  stop-fault (Some first) stop n fault stops is counted h =
      subst IsFirst h (unless first.kind first _ (entry-kind (forms_in entries) [] (take sound entries) first is) (λ names.
      let front = stop-front number lines entries sound stop stops names in
      first-front _ _ front.0 first front.1 is))
  stop-fault None (stops.Unfit line rest) n fault stops clean counted h =
      subst IsFirst h (λ names. ap first_in (after-front _ _ (record { line = line; kind = Syntax } ∷ (stops names).0) (stops names).1 clean))
  stop-fault None (stops.Open line) n fault stops clean counted h =
      subst IsFirst h (λ names. ap first_in (after-front _ _ (at_line line (NoEnd ∷ [])) (stops names) clean))
  stop-fault None (stops.End line rest) n fault stops clean counted h =
      let block = forms_in entries in
      let limit : Some Limit ≡ first_in (faults_of block block EndLine) = ap (λ k. first_in (when (k == 0) Limit)) (sym h.0) ∙ ap first_in (end-kinds block n counted) in
      subst IsFirst h.1 (λ names.
      let after = outside_faults (line + 1) names (forms_of rest.now) in
      ap first_in (after-front _ _ (at_line line (faults_of block block EndLine) ++ after) (stops.1 names) clean)
      ∙ first-end line (faults_of block block EndLine) Limit after limit)

pub no-limit : (n : ℕ) → 0 < n → None ≡ first_in (when (n == 0) Limit)
no-limit n h =
    let apart : n ≡ 0 → ⊥ = λ e. omega (arith, h, e) in
    rw (ne_eqb n 0 apart)

-- the exit of a `?`
pub handed-back : (name : List ℕ) (number : ℕ) (text : List ℕ) (r : Result BlockRead LoopFault) (fault : LoopFault) → IsErrAnd r (λ e. e ≡ fault) → AnswersBlock name number text (Err fault) → AnswersBlock name number text r
handed-back name number text (Ok block) fault h a = absurd h
handed-back name number text (Err e) fault h a = subst (λ x. AnswersBlock name number text (Err x)) (sym h) a
