-- The lines of a loop's live values have no faults in its canonical text.
use Rattle.std.proofs.Common.{◌≡◌, ◌≢◌, ℕ, ◌≤◌, not, true, false, List, [], ◌∷◌, ◌++◌, length, map, refl, sym, ap, subst, arith}
use Rattle.std.specs.List.{AllByRecursion, list_any}
use Rattle.std.proofs.lemmas.List.Elements.{recursion_from_All}
use Rattle.reader_faults.specs.declared.loops.LoopFaultKind.TheVariants.{Limit, RepeatedName, UnknownName, MissingInit}
use Rattle.loop_data.specs.declared.language.statement.Statement.{Statement}
use Rattle.loop_lines.specs.Forms.{Form}
use Rattle.loop_data.specs.Loops.{LoopData, IsLoop, GivesValue, HasInitial}
use Rattle.loop_reader.specs.Meaning.{declared, has_init, has_statement, is_long, is_out_of, is_statement, is_value, when}
use Rattle.loops.specs.Text.{value_name}
use Rattle.loops.proofs.faultless.HeadLines.{no-fault, no-faults}
use Rattle.loops.proofs.faultless.InitLines.{value-apart, value-known}
use Rattle.loops.proofs.faultless.Insides.{IsFine, AreFine, fine-mapped}
use Rattle.loops.proofs.faultless.Lookups.{has_init-there}
use Rattle.loops.proofs.Parts.{all-at, all-both, all-left, at-front, none-joined, none-made, none-mapped, pairs-front, some-left, some-right}
use Rattle.loops.proofs.faultless.ShortNames.{not-long, value-short}
use Rattle.loops.proofs.faultless.StatementLines.{lead_forms, lead-none}
use Rattle.loops.proofs.returned.Written.{statement_form, out_form, body_forms}

-- the lines before those of live values
abbrev pub main_forms : LoopData → List Form
main_forms l = lead_forms l ++ map (statement_form l) l.statements

some-statement : (l : LoopData) (xs : List Statement) → 1 ≤ length xs → list_any is_statement (map (statement_form l) xs) ≡ true
some-statement l [] h = absurd (omega arith)
some-statement l (x ∷ xs) h = refl

pub has-statement : (l : LoopData) → IsLoop l → (outs : List Form) → has_statement (main_forms l ++ outs) ≡ true
has-statement l is outs =
    some-left is_statement (main_forms l) outs (some-right is_statement (lead_forms l) (map (statement_form l) l.statements) (some-statement l l.statements is.statements_some))

abbrev IsLive : LoopData → ℕ → Type 0
IsLive l o = GivesValue l o × HasInitial l o 1

-- an earlier live value is another one
out-other : (l : LoopData) → IsLoop l → (o q : ℕ) → GivesValue l o → q ≢ o → IsLive l q → is_out_of (value_name l o) (out_form l q) ≡ false
out-other l is o q gives other live = value-apart l is o q gives live.0 (λ e. other (sym e))

out-fine : (l : LoopData) → IsLoop l → (front : List ℕ) (o : ℕ) (after : List ℕ) → l.outs ≡ front ++ o ∷ after → IsFine (body_forms l) (main_forms l ++ map (out_form l) front) (out_form l o)
out-fine l is front o after e =
    let before : List Form = main_forms l ++ map (out_form l) front in
    let name : List ℕ = value_name l o in
    let all : AllByRecursion (IsLive l) l.outs = recursion_from_All (IsLive l) l.outs is.outs in
    let live : IsLive l o = all-at (IsLive l) l.outs (length front) o all (at-front l.outs front o after e) in
    let earlier : AllByRecursion (IsLive l) front = all-left (IsLive l) front (o ∷ after) (subst (AllByRecursion (IsLive l)) e all) in
    let others = all-both (λ q. q ≢ o) (IsLive l) (λ q. is_out_of name (out_form l q) ≡ false) (λ q. out-other l is o q live.0) front
    (pairs-front (λ a b. a ≢ b) l.outs front o after is.outs_different e) earlier in
    let limit = when (is_long name) Limit in
    let repeated = when (list_any (is_out_of name) before) RepeatedName in
    let unknown = when (not (is_value (declared (body_forms l) name))) UnknownName in
    let missing = when (not (has_init (body_forms l) name 1)) MissingInit in
    let repeats = no-fault (list_any (is_out_of name) before) RepeatedName
    (none-joined (is_out_of name) (main_forms l) (map (out_form l) front)
    (none-joined (is_out_of name) (lead_forms l) (map (statement_form l) l.statements) (lead-none l (is_out_of name) (λ a. refl) (λ p. refl) (λ i. refl)) (none-made (is_out_of name) (statement_form l) (λ s. refl) l.statements))
    (none-mapped (is_out_of name) (out_form l) front others)) in
    record {
      goes_on = refl;
      standing = has-statement l is (map (out_form l) front);
      faultless = no-faults ((limit ++ repeated) ++ unknown) missing
          (no-faults (limit ++ repeated) unknown (no-faults limit repeated (no-fault (is_long name) Limit (not-long name (value-short l is o live.0))) repeats)
          (no-fault (not (is_value (declared (body_forms l) name))) UnknownName (value-known l is o live.0)))
          (no-fault (not (has_init (body_forms l) name 1)) MissingInit (ap not (has_init-there l o 1 live.1)));
    }

pub outs-fine : (l : LoopData) → IsLoop l → AreFine (body_forms l) (main_forms l) (map (out_form l) l.outs)
outs-fine l is = fine-mapped (body_forms l) (main_forms l) (out_form l) l.outs (out-fine l is)
