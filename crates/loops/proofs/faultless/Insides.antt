-- A block whose lines stand and have no faults, up to its `end`, has none.
use Rattle.std.proofs.Common.{◌≡◌, ℕ, ◌+◌, not, Bool, true, false, List, [], ◌∷◌, ◌++◌, map, Option, Some, refl, sym, ◌∙◌, ap, subst, append_assoc}
use Rattle.std.proofs.lemmas.Bool.{true≢false, cond-true}
use Rattle.std.proofs.lemmas.List.{append-nil, map-append}
use Rattle.reader_faults.specs.declared.loops.LoopFault.{LoopFault}
use Rattle.reader_faults.specs.declared.loops.LoopFaultKind.TheVariants.{Syntax, Limit}
use Rattle.loop_lines.specs.Forms.{Form, EndLine}
use Rattle.loop_reader.specs.Meaning.{stands, with_line, whole, has_statement, faults_of, line_faults, at_line, when, inside_faults}
use Rattle.loops.proofs.returned.Written.{ended}

abbrev pub is_end : Form → Bool
is_end EndLine = true
is_end _ = false

-- a line of a block that isn't its last one, may stand after these lines, and has no fault there
pub record IsFine (block before : List Form) (form : Form) : Type 0 where
  pub goes_on : is_end form ≡ false
  pub standing : stands before form ≡ true
  pub faultless : faults_of before block form ≡ []

-- each of these lines, after those before it
abbrev pub AreFine : List Form → List Form → List Form → Type 0
AreFine block before [] = Unit {0}
AreFine block before (form ∷ forms) = IsFine block before form × AreFine block (before ++ form ∷ []) forms

pub fine-append : (block before xs ys : List Form) → AreFine block before xs → AreFine block (before ++ xs) ys → AreFine block before (xs ++ ys)
fine-append block before [] ys h k = subst (λ b. AreFine block b ys) (append-nil before) k
fine-append block before (x ∷ xs) ys h k = (h.0, fine-append block (before ++ x ∷ []) xs ys h.1 (subst (λ b. AreFine block b ys) (sym (append_assoc before (x ∷ []) xs)) k))

-- lines made of the elements of a list

mapped-from : {X : Type 0} (block start : List Form) (g : X → Form) (xs : List X) → ((front : List X) (x : X) (after : List X) → xs ≡ front ++ x ∷ after → IsFine block (start ++ map g front) (g x))
    → (front rest : List X) → xs ≡ front ++ rest → AreFine block (start ++ map g front) (map g rest)
mapped-from block start g xs each front [] e = tt
mapped-from block start g xs each front (x ∷ rest) e =
    let next : start ++ map g (front ++ x ∷ []) ≡ (start ++ map g front) ++ g x ∷ [] = ap (λ fs. start ++ fs) (map-append g front (x ∷ [])) ∙ sym (append_assoc start (map g front) (g x ∷ [])) in
    (each front x rest e, subst (λ b. AreFine block b (map g rest)) next (mapped-from block start g xs each (front ++ x ∷ []) rest (e ∙ sym (append_assoc front (x ∷ []) rest))))

pub fine-mapped : {X : Type 0} (block start : List Form) (g : X → Form) (xs : List X) → ((front : List X) (x : X) (after : List X) → xs ≡ front ++ x ∷ after → IsFine block (start ++ map g front) (g x))
    → AreFine block start (map g xs)
fine-mapped block start g xs each = subst (λ b. AreFine block b (map g xs)) (append-nil start) (mapped-from block start g xs each [] xs refl)

-- lines up to an `end`

joined : (before : List Form) (form : Form) → stands before form ≡ true → with_line before form ≡ before ++ form ∷ []
joined before form h = cond-true (stands before form) (before ++ form ∷ []) before h

whole-step : (before : List Form) (form : Form) (lines : List (Option Form)) → is_end form ≡ false → whole before (Some form ∷ lines) ≡ whole (with_line before form) lines
whole-step before EndLine lines h = absurd (true≢false h)
whole-step before form lines h = refl

whole-fine : (block before forms : List Form) → AreFine block before forms → whole before (ended forms) ≡ before ++ forms
whole-fine block before [] h = sym (append-nil before)
whole-fine block before (form ∷ forms) h =
    whole-step before form (ended forms) h.0.goes_on ∙ ap (λ b. whole b (ended forms)) (joined before form h.0.standing)
    ∙ whole-fine block (before ++ form ∷ []) forms h.1 ∙ append_assoc before (form ∷ []) forms

inside-step : (line : ℕ) (names : List (List ℕ)) (before : List Form) (form : Form) (lines : List (Option Form)) → is_end form ≡ false
    → inside_faults line names before (Some form ∷ lines)
    ≡ at_line line (line_faults before (whole before (Some form ∷ lines)) form) ++ inside_faults (line + 1) names (with_line before form) lines
inside-step line names before EndLine lines h = absurd (true≢false h)
inside-step line names before form lines h = refl

-- the first of them has no fault
line-fine : (block before : List Form) (form : Form) → IsFine block before form → line_faults before block form ≡ []
line-fine block before form h = cond-true (stands before form) (faults_of before block form) (Syntax ∷ []) h.standing ∙ h.faultless

pub inside-fine : (line : ℕ) (names : List (List ℕ)) (block before forms : List Form) → block ≡ before ++ forms → has_statement block ≡ true → AreFine block before forms
    → inside_faults line names before (ended forms) ≡ []
inside-fine line names block before [] e some h =
    let here : has_statement before ≡ true = ap has_statement (sym (e ∙ append-nil before)) ∙ some in
    ap (λ b. at_line line (when (not b) Limit) ++ []) here
inside-fine line names block before (form ∷ forms) e some h =
    let rest : List LoopFault = inside_faults (line + 1) names (with_line before form) (ended forms) in
    let all : whole before (ended (form ∷ forms)) ≡ block = whole-fine block before (form ∷ forms) h ∙ sym e in
    inside-step line names before form (ended forms) h.0.goes_on
    ∙ ap (λ b. at_line line (line_faults before b form) ++ rest) all
    ∙ ap (λ kinds. at_line line kinds ++ rest) (line-fine block before form h.0)
    ∙ ap (λ b. inside_faults (line + 1) names b (ended forms)) (joined before form h.0.standing)
    ∙ inside-fine (line + 1) names block (before ++ form ∷ []) forms (e ∙ sym (append_assoc before (form ∷ []) forms)) some h.1
