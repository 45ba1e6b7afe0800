-- The parts of a loop, line by line.
use Rattle.std.proofs.Common.{◌≡◌, ℕ, ◌+◌, ◌<◌, ◌≤◌, ℤ, List, [], ◌∷◌, ◌++◌, length, map, take, drop, get_or, Option, Some, None, refl, sym, ap, ◌∙◌, append_assoc, arith, Bool, length-append}
use Rattle.std.specs.Prelude.{option_to_list, if◌then◌else◌}
use Rattle.std.specs.List.{filter_map}
use Rattle.std.proofs.lemmas.List.{map-append, take-append-drop}
use Rattle.std.proofs.lemmas.List.Elements.{filter_map-append}
use Rattle.loop_lines.specs.Forms.{Form, LoopLine, ArrayLine, ParamLine, InitLine, StatementLine, OutLine, EndLine, Malformed, StatementForm}
use Rattle.loop_reader.specs.Meaning.{statement_in, is_statement, how_many}
use Rattle.loop_reader.specs.inner.Blocks.{forms_in, one_if}
use Rattle.loop_reader.specs.inner.Building.{rows_of, row_if}
use Rattle.loop_lines.specs.Parsed.{form_seen}
use Rattle.loop_reader.specs.declared.lines.entry.LineEntry.{LineEntry}
use Rattle.loop_data.specs.declared.language.lists.Initial.{Initial}
use Rattle.loop_reader.proofs.lookups.Declared.{forms-more, how_many-cons, how_many-push}
use Rattle.std.proofs.lemmas.List.Sums.{sum_by-append}

one-kept : {Y : Type 0} (o : Option Y) → filter_map (λ (x : Option Y). x) (o ∷ []) ≡ option_to_list o
one-kept None = refl
one-kept (Some y) = refl

kept-one : {Y : Type 0} (f : Form → Option Y) (form : Form) → filter_map f (form ∷ []) ≡ option_to_list (f form)
kept-one f form = one-kept (f form)

-- what the lines give with one more of them
kept-more : {Y : Type 0} (f : Form → Option Y) (lines : List LineEntry) (i : ℕ) (d : LineEntry) → i < length lines
    → filter_map f (forms_in (take (i + 1) lines)) ≡ filter_map f (forms_in (take i lines)) ++ option_to_list (f (form_seen (get_or lines i d).form))
kept-more f lines i d h =
    ap (filter_map f) (forms-more lines i d h) ∙ filter_map-append f (forms_in (take i lines)) (form_seen (get_or lines i d).form ∷ [])
    ∙ ap (λ ys. filter_map f (forms_in (take i lines)) ++ ys) (kept-one f (form_seen (get_or lines i d).form))

pub extend-lines : {Y : Type 0} (f : Form → Option Y) (lines : List LineEntry) (i : ℕ) (d : LineEntry) (old new : List Y) → i < length lines → old ≡ filter_map f (forms_in (take i lines))
    → new ≡ old ++ option_to_list (f (form_seen (get_or lines i d).form)) → new ≡ filter_map f (forms_in (take (i + 1) lines))
extend-lines f lines i d old new h before now =
    now ∙ ap (λ ys. ys ++ option_to_list (f (form_seen (get_or lines i d).form))) before ∙ sym (kept-more f lines i d h)

pub extend-mapped : {X Y : Type 0} (f : Form → Option X) (g : X → Y) (lines : List LineEntry) (i : ℕ) (d : LineEntry) (old new : List Y) → i < length lines → old ≡ map g (filter_map f (forms_in (take i lines)))
    → new ≡ old ++ map g (option_to_list (f (form_seen (get_or lines i d).form))) → new ≡ map g (filter_map f (forms_in (take (i + 1) lines)))
extend-mapped f g lines i d old new h before now =
    now ∙ ap (λ ys. ys ++ map g (option_to_list (f (form_seen (get_or lines i d).form)))) before
    ∙ sym (ap (map g) (kept-more f lines i d h) ∙ map-append g (filter_map f (forms_in (take i lines))) (option_to_list (f (form_seen (get_or lines i d).form))))

-- the initial values of statements and of more after them
rows_of-append : (inits : List (Option ℤ)) (k : ℕ) (xs ys : List StatementForm) → rows_of inits k (xs ++ ys) ≡ rows_of inits k xs ++ rows_of inits (k + length xs) ys
rows_of-append inits k [] ys = ap (λ n. rows_of inits n ys) (omega arith)
rows_of-append inits k (x ∷ xs) ys =
    let e : (k + 1) + length xs ≡ k + length (x ∷ xs) = omega arith in
    ap (λ r. row_if inits k x.name ++ r) (rows_of-append inits (k + 1) xs ys ∙ ap (λ n. rows_of inits (k + 1) xs ++ rows_of inits n ys) e)
    ∙ sym (append_assoc (row_if inits k x.name) (rows_of inits (k + 1) xs) (rows_of inits (k + length (x ∷ xs)) ys))

pub extend-rows : (inits : List (Option ℤ)) (lines : List LineEntry) (i : ℕ) (d : LineEntry) (n : ℕ) (old new : List Initial) → i < length lines
    → n ≡ length (filter_map statement_in (forms_in (take i lines)))
    → old ≡ rows_of inits 0 (filter_map statement_in (forms_in (take i lines)))
    → new ≡ old ++ rows_of inits n (option_to_list (statement_in (form_seen (get_or lines i d).form)))
    → new ≡ rows_of inits 0 (filter_map statement_in (forms_in (take (i + 1) lines)))
extend-rows inits lines i d n old new h count before now =
    let done = filter_map statement_in (forms_in (take i lines)) in
    let more = option_to_list (statement_in (form_seen (get_or lines i d).form)) in
    let e : 0 + length done ≡ n = omega (arith, count) in
    now ∙ ap (λ ys. ys ++ rows_of inits n more) before
    ∙ sym (ap (rows_of inits 0) (kept-more statement_in lines i d h) ∙ rows_of-append inits 0 done more ∙ ap (λ m. rows_of inits 0 done ++ rows_of inits m more) e)

source-counts : (form : Form) → length (option_to_list (statement_in form)) ≡ one_if (is_statement form)
source-counts (LoopLine n) = refl
source-counts (ArrayLine n c) = refl
source-counts (ParamLine n v) = refl
source-counts (InitLine n m v) = refl
source-counts (StatementLine s) = refl
source-counts (OutLine n) = refl
source-counts EndLine = refl
source-counts Malformed = refl

kept-front : {Y : Type 0} (f : Form → Option Y) (form : Form) (forms : List Form) → filter_map f (form ∷ forms) ≡ option_to_list (f form) ++ filter_map f forms
kept-front f form forms = filter_map-append f (form ∷ []) forms ∙ ap (λ ys. ys ++ filter_map f forms) (kept-one f form)

pub sources-counted : (forms : List Form) → length (filter_map statement_in forms) ≡ how_many is_statement forms
sources-counted [] = refl
sources-counted (form ∷ forms) =
    let a = ap length (kept-front statement_in form forms) in
    let b = length-append (option_to_list (statement_in form)) (filter_map statement_in forms) in
    let c = how_many-cons is_statement form forms in
    omega (arith, a, b, c, source-counts form, sources-counted forms)

front-counted : (p : Form → Bool) (xs ys : List Form) → how_many p xs ≤ how_many p (xs ++ ys)
front-counted p xs ys = let e = sum_by-append (λ f. if p f then 1 else 0) xs ys in omega arith

forms-split : (lines : List LineEntry) (i : ℕ) → forms_in (take i lines) ++ forms_in (drop i lines) ≡ forms_in lines
forms-split lines i = sym (map-append (λ (e : LineEntry). form_seen e.form) (take i lines) (drop i lines)) ∙ ap forms_in (take-append-drop i lines)

-- the statements so far, and the line at hand, are statements of the block
pub statement-placed : (lines : List LineEntry) (i : ℕ) (d : LineEntry) (n : ℕ) → i < length lines → n ≡ length (filter_map statement_in (forms_in (take i lines)))
    → n + one_if (is_statement (form_seen (get_or lines i d).form)) ≤ how_many is_statement (forms_in lines)
statement-placed lines i d n h count =
    let a = sources-counted (forms_in (take i lines)) in
    let b = ap (how_many is_statement) (forms-more lines i d h) ∙ how_many-push is_statement (forms_in (take i lines)) (form_seen (get_or lines i d).form) in
    let c = front-counted is_statement (forms_in (take (i + 1) lines)) (forms_in (drop (i + 1) lines)) in
    let e = ap (how_many is_statement) (forms-split lines (i + 1)) in
    omega (arith, a, b, c, e, count)
