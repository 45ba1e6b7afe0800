-- A block and the line where it stops.
use Rattle.std.proofs.Common.{◌≡◌, ℕ, ◌+◌, ◌==◌, not, Bool, true, false, List, [], ◌∷◌, ◌++◌, length, take, Option, Some, None, refl, sym, ◌∙◌, ap, arith, zero-add, ◌||◌}
use Rattle.std.specs.Borrow.{Bor}
use Rattle.std.specs.Option.{option_or}
use Rattle.std.proofs.Math.Seq.{take-append_seam}
use Rattle.std.proofs.lemmas.Bool.{eqb-true}
use Rattle.loop_reader.proofs.faults.Checking.{not-from}
use Rattle.loop_reader.specs.declared.lines.collect.Stop.{Stop}
use Rattle.loop_reader.specs.declared.lines.collect.Stop.TheVariants as stops
use Rattle.loop_reader.specs.declared.lines.entry.LineEntry.{LineEntry}
use Rattle.reader_faults.specs.declared.loops.LoopFault.{LoopFault}
use Rattle.reader_faults.specs.declared.loops.LoopFaultKind.{LoopFaultKind}
use Rattle.reader_faults.specs.declared.loops.LoopFaultKind.TheVariants.{Syntax, NoEnd, Limit}
use Rattle.loop_lines.specs.Forms.{Form, EndLine}
use Rattle.loop_reader.specs.Meaning.{whole, forms_of, inside_faults, outside_faults, how_many, is_statement, has_statement, at_line, when, faults_of, Kinds}
use Rattle.loop_reader.specs.inner.Blocks.{forms_in, entry_faults, StopsAt, StopsBlock, one_if}
use Rattle.loop_reader.specs.inner.Checks.{first_in}
use Rattle.loop_reader.proofs.lookups.Declared.{how_many-cons}

pub unfit-block : (number : ℕ) (lines : List (Option Form)) (old new more : List LineEntry) (n line : ℕ) (rest : Bor (List ℕ))
    → StopsAt number lines old (stops.Unfit line rest) → new ≡ old ++ more → forms_in new ≡ whole (forms_in old) (forms_of rest.now) → n ≡ length old → StopsBlock number lines new n (stops.Unfit line rest)
unfit-block number lines old new more n line rest h e w l = λ names.
    let others = (h.1 names).0 in
    let front : take n new ≡ old = ap (λ k. take k new) l ∙ ap (take (length old)) e ∙ take-append_seam old more in (
      others,
      (h.1 names).1
          ∙ ap (λ b. entry_faults b [] old ++ record { line = line; kind = Syntax } ∷ others) (h.0 ∙ sym w)
          ∙ ap (λ es. entry_faults (forms_in new) [] es ++ record { line = line; kind = Syntax } ∷ others) (sym front),
    )

pub first-append : (xs ys : List LoopFault) → first_in (xs ++ ys) ≡ option_or (first_in xs) (first_in ys)
first-append [] ys = refl
first-append (x ∷ xs) ys = refl

pub no-faults : (xs : List LoopFault) → None ≡ first_in xs → xs ≡ []
no-faults [] h = refl
no-faults (x ∷ xs) h = cc

-- the `end` of a block without a statement

none-or : (b : Bool) (forms : List Form) → (how_many is_statement forms == 0) ≡ not (has_statement forms) → ((one_if b + how_many is_statement forms) == 0) ≡ not (b || has_statement forms)
none-or true forms h = not-from ((1 + how_many is_statement forms) == 0) (λ e. absurd (omega (arith, eqb-true (1 + how_many is_statement forms) 0 e)))
none-or false forms h = ap (λ n. n == 0) (zero-add (how_many is_statement forms)) ∙ h

none-counted : (block : List Form) → (how_many is_statement block == 0) ≡ not (has_statement block)
none-counted [] = refl
none-counted (form ∷ forms) = ap (λ n. n == 0) (how_many-cons is_statement form forms) ∙ none-or (is_statement form) forms (none-counted forms)

pub end-kinds : (block : List Form) (n : ℕ) → n ≡ how_many is_statement block → when (n == 0) Limit ≡ faults_of block block EndLine
end-kinds block n e = ap (λ k. when (k == 0) Limit) e ∙ ap (λ b. when b Limit) (none-counted block)

there : (b : Bool) → None ≡ first_in (when (not b) Limit) → b ≡ true
there true h = refl
there false h = cc

-- a block whose `end` has no fault has a statement
pub statement-there : (block : List Form) (n : ℕ) → n ≡ how_many is_statement block → None ≡ first_in (when (n == 0) Limit) → has_statement block ≡ true
statement-there block n e h = there (has_statement block) (h ∙ ap first_in (end-kinds block n e))

-- whatever the block stops at, its faults begin with those of the lines before
pub stop-front : (number : ℕ) (lines : List (Option Form)) (entries : List LineEntry) (sound : ℕ) (stop : Stop) → StopsBlock number lines entries sound stop
    → (names : List (List ℕ)) → (others : List LoopFault) × (inside_faults number names [] lines ≡ entry_faults (forms_in entries) [] (take sound entries) ++ others)
stop-front number lines entries sound (stops.End line rest) h names =
    (at_line line (faults_of (forms_in entries) (forms_in entries) EndLine) ++ outside_faults (line + 1) names (forms_of rest.now), h.1 names)
stop-front number lines entries sound (stops.Unfit line rest) h names = (record { line = line; kind = Syntax } ∷ (h names).0, (h names).1)
stop-front number lines entries sound (stops.Open line) h names = (at_line line (NoEnd ∷ []), h names)

pub first-front : (all front others : List LoopFault) (fault : LoopFault) → all ≡ front ++ others → Some fault ≡ first_in front → first_in all ≡ Some fault
first-front all front others fault e f = ap first_in e ∙ first-append front others ∙ ap (λ o. option_or o (first_in others)) (sym f)

-- where the lines before have no fault, those of what follows are all
pub after-front : (all front others : List LoopFault) → all ≡ front ++ others → None ≡ first_in front → all ≡ others
after-front all front others e f = e ∙ ap (λ fs. fs ++ others) (no-faults front f)

kind-same : (k kind : LoopFaultKind) → Some k ≡ Some kind → k ≡ kind
kind-same k kind e = cc

abbrev fault-of : ℕ → LoopFaultKind → Option LoopFault
fault-of line kind = Some (record { line = line; kind = kind })

pub first-end : (line : ℕ) (kinds : Kinds) (kind : LoopFaultKind) (rest : List LoopFault) → Some kind ≡ first_in kinds → first_in (at_line line kinds ++ rest) ≡ Some (record { line = line; kind = kind })
first-end line [] kind rest h = cc
first-end line (k ∷ kinds) kind rest h = ap (fault-of line) (kind-same k kind (sym h))

pub no-end-kinds : (kinds : Kinds) → None ≡ first_in kinds → kinds ≡ []
no-end-kinds [] h = refl
no-end-kinds (k ∷ kinds) h = cc
