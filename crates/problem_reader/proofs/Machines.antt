-- The machine under way with one more line.
use Rattle.std.proofs.Common.{◌≡◌, ℕ, ◌<◌, List, [], ◌∷◌, ◌++◌, length, map, refl, sym, ap, ◌∙◌, Some}
use Rattle.std.specs.Prelude.{option_to_list}
use Rattle.std.specs.List.{All, filter_map, flat_map}
use Rattle.std.proofs.lemmas.Bool.Decides.{Decides-ltb}
use Rattle.std.proofs.lemmas.List.{append-nil}
use Rattle.std.proofs.lemmas.List.Elements.{All-head, All-tail}
use Rattle.problem_lines.specs.Forms.{Form, MachineLine, UnitsLine, FileLine, KindLine, ProblemLine, OpLine, ValueLine, ReadLine, EdgeLine, EndLine, HoldForm}
use Rattle.problems.specs.declared.draft.Hold.{Hold}
use Rattle.problem_tables.specs.Data.{KindData, hold_in}
use Rattle.problem_tables.specs.Names.{bytes_of, index_of}
use Rattle.problem_tables.specs.Tables.{MachineParts, with_file, with_kind}
use Rattle.problem_tables.proofs.Naming.{below-has, index-more}
use Rattle.problem_reader.specs.Files.{file_in, kind_in}
use Rattle.problem_reader.specs.Sofar.{file_name, kind_name, unit_names}
use Rattle.problem_reader.proofs.Pushes.{Stable, filter-push, filter-stable, flat-push}

-- the machine that these lines are of
abbrev pub machine_in : List Form → MachineParts
machine_in ls = record {
  units = flat_map unit_names ls;
  files = filter_map file_in ls;
  file_names = filter_map file_name ls;
  kinds = filter_map (kind_in (flat_map unit_names ls)) ls;
  kind_names = filter_map kind_name ls;
}

-- with what a line adds
abbrev pub machine_with : MachineParts → Form → MachineParts
machine_with m form = record {
  units = m.units ++ unit_names form;
  files = m.files ++ option_to_list (file_in form);
  file_names = m.file_names ++ option_to_list (file_name form);
  kinds = m.kinds ++ option_to_list (kind_in m.units form);
  kind_names = m.kind_names ++ option_to_list (kind_name form);
}

pub machine-same : (a b : MachineParts) → a.units ≡ b.units → a.files ≡ b.files → a.file_names ≡ b.file_names → a.kinds ≡ b.kinds → a.kind_names ≡ b.kind_names → a ≡ b
machine-same a b u f g k l =
    ap (λ x. record { units = x; files = a.files; file_names = a.file_names; kinds = a.kinds; kind_names = a.kind_names }) u
    ∙ ap (λ x. record { units = b.units; files = x; file_names = a.file_names; kinds = a.kinds; kind_names = a.kind_names }) f
    ∙ ap (λ x. record { units = b.units; files = b.files; file_names = x; kinds = a.kinds; kind_names = a.kind_names }) g
    ∙ ap (λ x. record { units = b.units; files = b.files; file_names = b.file_names; kinds = x; kind_names = a.kind_names }) k
    ∙ ap (λ x. record { units = b.units; files = b.files; file_names = b.file_names; kinds = b.kinds; kind_names = x }) l

-- holds and kinds of units that there are

abbrev pub IsHeld : ℕ → Hold → Type 0
IsHeld units hold = hold.unit < units

abbrev pub IsKindOf : ℕ → KindData → Type 0
IsKindOf units kind = All (All (IsHeld units)) kind.alternatives

pub index-kept : (names more : List (List ℕ)) (q : List ℕ) → index_of names q < length names → index_of (names ++ more) q ≡ index_of names q
index-kept names more q low = index-more names more q (sym (below-has names q) ∙ (Decides-ltb (index_of names q) (length names)).1 low)

hold-kept : (units more : List (List ℕ)) (hold : HoldForm) → IsHeld (length units) (hold_in units hold) → hold_in (units ++ more) hold ≡ hold_in units hold
hold-kept units more hold low = ap (λ n. record { unit = n; offset = (hold_in units hold).offset }) (index-kept units more hold.unit.bytes low)

holds-kept : (units more : List (List ℕ)) (holds : List HoldForm) → All (IsHeld (length units)) (map (hold_in units) holds) → map (hold_in (units ++ more)) holds ≡ map (hold_in units) holds
holds-kept units more [] all = refl
holds-kept units more (hold ∷ holds) all =
    ap (λ h. h ∷ map (hold_in (units ++ more)) holds) (hold-kept units more hold (All-head (IsHeld (length units)) (hold_in units hold) (map (hold_in units) holds) all))
    ∙ ap (λ hs. hold_in units hold ∷ hs) (holds-kept units more holds (All-tail (IsHeld (length units)) (hold_in units hold) (map (hold_in units) holds) all))

alternatives-kept : (units more : List (List ℕ)) (alternatives : List (List HoldForm)) → All (All (IsHeld (length units))) (map (map (hold_in units)) alternatives)
    → map (map (hold_in (units ++ more))) alternatives ≡ map (map (hold_in units)) alternatives
alternatives-kept units more [] all = refl
alternatives-kept units more (holds ∷ alternatives) all =
    ap (λ h. h ∷ map (map (hold_in (units ++ more))) alternatives)
    (holds-kept units more holds (All-head (All (IsHeld (length units))) (map (hold_in units) holds) (map (map (hold_in units)) alternatives) all))
    ∙ ap (λ hs. map (hold_in units) holds ∷ hs)
    (alternatives-kept units more alternatives (All-tail (All (IsHeld (length units))) (map (hold_in units) holds) (map (map (hold_in units)) alternatives) all))

kind-stable : (units more : List (List ℕ)) (form : Form) → Stable (IsKindOf (length units)) (kind_in units form) (kind_in (units ++ more) form)
kind-stable units more (MachineLine name) = refl
kind-stable units more (UnitsLine names) = refl
kind-stable units more (FileLine name storage) = refl
kind-stable units more (KindLine name latency alternatives) = λ all. ap (λ alts. Some (record { latency = latency.value; alternatives = alts })) (alternatives-kept units more alternatives all)
kind-stable units more (ProblemLine name) = refl
kind-stable units more (OpLine name kind) = refl
kind-stable units more (ValueLine name maker lands file out) = refl
kind-stable units more (ReadLine reader value distance offset) = refl
kind-stable units more (EdgeLine from to delay distance) = refl
kind-stable units more EndLine = refl

-- of one line: it names no unit where it is a kind
kind-here : (units : List (List ℕ)) (form : Form) → kind_in (units ++ unit_names form) form ≡ kind_in units form
kind-here units (MachineLine name) = refl
kind-here units (UnitsLine names) = refl
kind-here units (FileLine name storage) = refl
kind-here units (KindLine name latency alternatives) = ap (λ us. kind_in us (KindLine name latency alternatives)) (append-nil units)
kind-here units (ProblemLine name) = refl
kind-here units (OpLine name kind) = refl
kind-here units (ValueLine name maker lands file out) = refl
kind-here units (ReadLine reader value distance offset) = refl
kind-here units (EdgeLine from to delay distance) = refl
kind-here units EndLine = refl

pub machine-push : (ls : List Form) (form : Form) → All (IsKindOf (length (machine_in ls).units)) (machine_in ls).kinds → machine_in (ls ++ form ∷ []) ≡ machine_with (machine_in ls) form
machine-push ls form known =
    let units = flat_map unit_names ls in
    let more : flat_map unit_names (ls ++ form ∷ []) ≡ units ++ unit_names form = flat-push unit_names ls form in
    machine-same (machine_in (ls ++ form ∷ [])) (machine_with (machine_in ls) form) more (filter-push file_in ls form) (filter-push file_name ls form)
    (ap (λ us. filter_map (kind_in us) (ls ++ form ∷ [])) more
    ∙ filter-push (kind_in (units ++ unit_names form)) ls form
    ∙ ap (λ ks. ks ++ option_to_list (kind_in (units ++ unit_names form) form)) (filter-stable (IsKindOf (length units)) (kind_in units) (kind_in (units ++ unit_names form)) (kind-stable units (unit_names form)) ls known)
    ∙ ap (λ o. filter_map (kind_in units) ls ++ option_to_list o) (kind-here units form))
    (filter-push kind_name ls form)

-- a line that says nothing of the machine
abbrev pub machine_step : MachineParts → Form → MachineParts
machine_step m (UnitsLine names) = record m { units = m.units ++ bytes_of names }
machine_step m (FileLine name storage) = with_file m name storage
machine_step m (KindLine name latency alternatives) = with_kind m name latency alternatives
machine_step m form = m

nothing-more : (m : MachineParts) → record { units = m.units ++ []; files = m.files ++ []; file_names = m.file_names ++ []; kinds = m.kinds ++ []; kind_names = m.kind_names ++ [] } ≡ m
nothing-more m = machine-same _ m (append-nil m.units) (append-nil m.files) (append-nil m.file_names) (append-nil m.kinds) (append-nil m.kind_names)

pub machine-with : (m : MachineParts) (form : Form) → machine_with m form ≡ machine_step m form
machine-with m (MachineLine name) = nothing-more m
machine-with m (UnitsLine names) = machine-same (machine_with m (UnitsLine names)) (machine_step m (UnitsLine names)) refl (append-nil m.files) (append-nil m.file_names) (append-nil m.kinds) (append-nil m.kind_names)
machine-with m (FileLine name storage) = machine-same (machine_with m (FileLine name storage)) (machine_step m (FileLine name storage)) (append-nil m.units) refl refl (append-nil m.kinds) (append-nil m.kind_names)
machine-with m (KindLine name latency alternatives) =
    machine-same (machine_with m (KindLine name latency alternatives)) (machine_step m (KindLine name latency alternatives)) (append-nil m.units) (append-nil m.files) (append-nil m.file_names) refl refl
machine-with m (ProblemLine name) = nothing-more m
machine-with m (OpLine name kind) = nothing-more m
machine-with m (ValueLine name maker lands file out) = nothing-more m
machine-with m (ReadLine reader value distance offset) = nothing-more m
machine-with m (EdgeLine from to delay distance) = nothing-more m
machine-with m EndLine = nothing-more m
