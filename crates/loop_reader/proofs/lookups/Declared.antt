-- The first declaration of a name in a block.
use Rattle.std.proofs.Common.{◌≡◌, ℕ, ◌+◌, ◌<◌, ◌≤◌, Bool, true, false, cond, List, [], ◌∷◌, ◌++◌, Option, Some, None, refl, sym, ◌∙◌, ap, arith, append_assoc}
use Rattle.std.proofs.Common.{Decides, if◌then◌else◌}
use Rattle.std.specs.Borrow.{Bor}
use Rattle.std.specs.BTreeMap.{BTreeMap, get_by}
use Rattle.std.specs.Cmp.Lexicographic.{slice_cmp}
use Rattle.std.specs.Option.{option_or}
use Rattle.std.specs.Ordering.{nat_cmp}
use Rattle.std.proofs.Common.{take, get_or, length}
use Rattle.std.proofs.lemmas.List.{take_more, map-append}
use Rattle.std.proofs.lemmas.List.Sums.{sum_by_push}
use Rattle.loop_reader.specs.declared.lines.entry.LineEntry.{LineEntry}
use Rattle.loop_lines.specs.Parsed.{form_seen}
use Rattle.loop_reader.specs.inner.Blocks.{forms_in, one_if}
use Rattle.std.proofs.Common.{zero-add}
use Rattle.loop_reader.specs.Meaning as meaning
use Rattle.std.specs.Map.{update}
use Rattle.std.specs.Str.{bytes_eq}
use Rattle.std.proofs.lemmas.Slice.Eq.{bytes_eq-Decides}
use Rattle.std.proofs.lemmas.Bool.Decides.{same_from_decides}
use Rattle.std.proofs.lemmas.List.Sums.{sum_by-append}
use Rattle.std.proofs.lemmas.List.{append-nil}
use Rattle.machine_data.specs.Opcodes.{same_word}
use Rattle.loop_lines.specs.Forms.{Form}
use Rattle.loop_reader.specs.Meaning.{Declared, declared_by, first_declared, declared, how_many, is_array, is_param, is_statement}

pub option_or-none : {T : Type 0} (a : Option T) → option_or a None ≡ a
option_or-none None = refl
option_or-none (Some x) = refl

pub option_or-assoc : {T : Type 0} (a b c : Option T) → option_or a (option_or b c) ≡ option_or (option_or a b) c
option_or-assoc None b c = refl
option_or-assoc (Some x) b c = refl

-- a declaration after these lines
abbrev pub declared_after : List ℕ → List Form → Form → Option Declared
declared_after q before form = declared_by q (how_many is_array before) (how_many is_param before) (how_many is_statement before) form

-- the same by counts of these lines
pub declared-counted : (q : List ℕ) (before : List Form) (form : Form) (a p s : ℕ) → a ≡ how_many is_array before → p ≡ how_many is_param before → s ≡ how_many is_statement before
    → declared_by q a p s form ≡ declared_after q before form
declared-counted q before form a p s ea ep es =
    ap (λ n. declared_by q n p s form) ea
    ∙ ap (λ n. declared_by q (how_many is_array before) n s form) ep
    ∙ ap (λ n. declared_by q (how_many is_array before) (how_many is_param before) n form) es

pub first_declared-append : (q : List ℕ) (before xs ys : List Form) → first_declared q before (xs ++ ys) ≡ option_or (first_declared q before xs) (first_declared q (before ++ xs) ys)
first_declared-append q before [] ys = ap (λ b. first_declared q b ys) (sym (append-nil before))
first_declared-append q before (x ∷ xs) ys =
    ap (λ r. option_or (declared_after q before x) r) (first_declared-append q (before ++ x ∷ []) xs ys)
    ∙ option_or-assoc (declared_after q before x) (first_declared q (before ++ x ∷ []) xs) (first_declared q ((before ++ x ∷ []) ++ xs) ys)
    ∙ ap (λ b. option_or (option_or (declared_after q before x) (first_declared q (before ++ x ∷ []) xs)) (first_declared q b ys)) (append_assoc before (x ∷ []) xs)

-- with one more line
pub declared-push : (q : List ℕ) (before : List Form) (form : Form) → declared (before ++ form ∷ []) q ≡ option_or (declared before q) (declared_after q before form)
unfolding declared
declared-push q before form =
    first_declared-append q [] before (form ∷ [])
    ∙ ap (option_or (first_declared q [] before)) (option_or-none (declared_after q before form))

-- of joined lines
pub declared-append : (q : List ℕ) (before rest : List Form) → declared (before ++ rest) q ≡ option_or (declared before q) (first_declared q before rest)
unfolding declared
declared-append q before rest = first_declared-append q [] before rest

-- tables of names

-- what a map has at a name
abbrev pub at : {X : Type 0} → BTreeMap (Bor (List ℕ)) X → List ℕ → Option X
at m q = get_by (λ k. slice_cmp nat_cmp q k.now) m

same_word-Decides : (xs ys : List ℕ) → Decides (same_word xs ys) (xs ≡ ys)
same_word-Decides xs ys = bytes_eq-Decides xs ys

pub same_word-here : (xs : List ℕ) → same_word xs xs ≡ true
same_word-here xs = (same_word-Decides xs xs).1 refl

pub same_word-yes : (xs ys : List ℕ) → same_word xs ys ≡ true → xs ≡ ys
same_word-yes xs ys h = (same_word-Decides xs ys).0 h

pub same_word-sym : (xs ys : List ℕ) → same_word xs ys ≡ same_word ys xs
same_word-sym xs ys = same_from_decides _ _ (same_word-Decides xs ys) ((λ h. sym ((same_word-Decides ys xs).0 h)), (λ h. (same_word-Decides ys xs).1 (sym h)))

-- a name that was not there is added
pub added : {X : Type 0} (old new : List ℕ → Option X) (name : List ℕ) (what : X) → None ≡ old name
    → ((q : List ℕ) → new q ≡ update bytes_eq old name (Some what) q)
    → (q : List ℕ) → new q ≡ option_or (old q) (if same_word q name then Some what else None)
added {X} old new name what none is q =
    let by_case : (b : Bool) → same_word q name ≡ b → new q ≡ option_or (old q) (if b then Some what else None) = λ b.
    elim b as (λ b. same_word q name ≡ b → new q ≡ option_or (old q) (if b then Some what else None)) [
      | true ↦ λ h. is q ∙ ap (λ t. cond t (Some what) (old q)) (same_word-sym name q ∙ h) ∙ ap (λ o. option_or o (Some what)) (none ∙ ap old (sym (same_word-yes q name h)))
      | false ↦ λ h. is q ∙ ap (λ t. cond t (Some what) (old q)) (same_word-sym name q ∙ h) ∙ sym (option_or-none (old q))
    ] in
    by_case (same_word q name) refl

-- a name that was there is put back
pub kept : {X : Type 0} (old new again : List ℕ → Option X) (name : List ℕ) (what first : X) → Some first ≡ old name
    → ((q : List ℕ) → new q ≡ update bytes_eq old name (Some what) q)
    → ((q : List ℕ) → again q ≡ update bytes_eq new name (Some first) q)
    → (q : List ℕ) → again q ≡ option_or (old q) (if same_word q name then Some what else None)
kept {X} old new again name what first some is was q =
    let by_case : (b : Bool) → same_word q name ≡ b → again q ≡ option_or (old q) (if b then Some what else None) = λ b.
    elim b as (λ b. same_word q name ≡ b → again q ≡ option_or (old q) (if b then Some what else None)) [
      | true ↦ λ h. was q ∙ ap (λ t. cond t (Some first) (new q)) (same_word-sym name q ∙ h) ∙ ap (λ o. option_or o (Some what)) (some ∙ ap old (sym (same_word-yes q name h)))
      | false ↦ λ h. was q ∙ ap (λ t. cond t (Some first) (new q)) (same_word-sym name q ∙ h) ∙ is q ∙ ap (λ t. cond t (Some what) (old q)) (same_word-sym name q ∙ h) ∙ sym (option_or-none (old q))
    ] in
    by_case (same_word q name) refl

-- the forms of one more line
pub forms-more : (lines : List LineEntry) (i : ℕ) (d : LineEntry) → i < length lines → forms_in (take (i + 1) lines) ≡ forms_in (take i lines) ++ form_seen (get_or lines i d).form ∷ []
forms-more lines i d h = ap forms_in (take_more lines i d h) ∙ map-append (λ (e : LineEntry). form_seen e.form) (take i lines) (get_or lines i d ∷ [])

pub how_many-push : (p : Form → Bool) (before : List Form) (form : Form) → how_many p (before ++ form ∷ []) ≡ how_many p before + one_if (p form)
how_many-push p before form = sum_by_push (λ f. if p f then 1 else 0) before form

pub how_many-more : (p : Form → Bool) (lines : List LineEntry) (i : ℕ) (d : LineEntry) (n m : ℕ) → i < length lines
    → n ≡ how_many p (forms_in (take i lines)) → m ≡ n + one_if (p (form_seen (get_or lines i d).form))
    → m ≡ how_many p (forms_in (take (i + 1) lines))
how_many-more p lines i d n m h e f =
    f ∙ ap (λ k. k + one_if (p (form_seen (get_or lines i d).form))) e
    ∙ sym (ap (how_many p) (forms-more lines i d h) ∙ how_many-push p (forms_in (take i lines)) (form_seen (get_or lines i d).form))

pub one_if-le : (b : Bool) → one_if b ≤ 1
one_if-le true = omega arith
one_if-le false = omega arith

-- a table of the names of some lines becomes one of the names of one more
pub declared-more : (lines : List LineEntry) (i : ℕ) (d : LineEntry) (old new : List ℕ → Option meaning.Declared) (a p s : ℕ) → i < length lines
    → ((q : List ℕ) → old q ≡ declared (forms_in (take i lines)) q)
    → a ≡ how_many is_array (forms_in (take i lines)) → p ≡ how_many is_param (forms_in (take i lines)) → s ≡ how_many is_statement (forms_in (take i lines))
    → ((q : List ℕ) → new q ≡ option_or (old q) (declared_by q a p s (form_seen (get_or lines i d).form)))
    → (q : List ℕ) → new q ≡ declared (forms_in (take (i + 1) lines)) q
declared-more lines i d old new a p s h was ea ep es is q =
    let before = forms_in (take i lines) in
    let form = form_seen (get_or lines i d).form in
    is q ∙ ap (λ o. option_or o (declared_by q a p s form)) (was q)
    ∙ ap (option_or (declared before q)) (declared-counted q before form a p s ea ep es)
    ∙ sym (declared-push q before form)
    ∙ sym (ap (λ fs. declared fs q) (forms-more lines i d h))

pub how_many-cons : (p : Form → Bool) (form : Form) (forms : List Form) → how_many p (form ∷ forms) ≡ one_if (p form) + how_many p forms
how_many-cons p form forms = sum_by-append (λ f. if p f then 1 else 0) (form ∷ []) forms ∙ ap (λ n. n + how_many p forms) (zero-add (one_if (p form)))
