-- Blocks that declare no name twice.
use Rattle.std.proofs.Common.{◌≡◌, ℕ, ◌+◌, ◌<◌, ◌⊎◌, inl, inr, true, false, not, List, [], ◌∷◌, ◌++◌, length, get_or, take, Some, None, refl, sym, ◌∙◌, ap, subst}
use Rattle.std.specs.Option.{option_or}
use Rattle.std.proofs.lemmas.Bool.{eq-eqb}
use Rattle.loop_lines.specs.Forms.{Form}
use Rattle.loop_lines.specs.Parsed.{form_seen}
use Rattle.loop_reader.specs.declared.lines.entry.LineEntry.{LineEntry}
use Rattle.loop_reader.specs.Meaning.{Declared, AnArray, AParam, AValue, declared, declared_by, how_many, is_array, is_param, is_statement}
use Rattle.loop_reader.specs.inner.Blocks.{forms_in, DeclaresOnce, IsDeclaredIn}
use Rattle.loop_reader.specs.inner.Checks.{is_that}
use Rattle.loop_reader.proofs.lookups.Declared.{declared_after, declared-counted, declared-push, forms-more}

nowhere : (before after : List Form) (form : Form) → [] ≡ before ++ form ∷ after → ⊥
nowhere [] after form e = cc
nowhere (one ∷ before) after form e = cc

pub once-none : DeclaresOnce []
once-none name what d = absurd (nowhere d.2.0 d.2.1 d.1 d.2.2)

-- a line of some lines and one more is the last, or one of the others
last-or-not : (xs ys zs : List Form) (x y : Form) → xs ++ x ∷ [] ≡ ys ++ y ∷ zs → ((ys ≡ xs) × (y ≡ x)) ⊎ ((rest : List Form) × (xs ≡ ys ++ y ∷ rest))
last-or-not [] [] zs x y e = let same : y ≡ x = cc in inl (refl, same)
last-or-not [] (one ∷ ys) zs x y e = let rest : [] ≡ ys ++ y ∷ zs = cc in absurd (nowhere ys zs y rest)
last-or-not (one ∷ xs) [] zs x y e = let same : one ≡ y = cc in inr (xs, ap (λ f. f ∷ xs) same)
last-or-not (one ∷ xs) (other ∷ ys) zs x y e =
    let same : one ≡ other = cc in
    let rest : xs ++ x ∷ [] ≡ ys ++ y ∷ zs = cc in
    elim (last-or-not xs ys zs x y rest) [
      | inl h ↦ let before = h.0 in let line = h.1 in inl (cc, line)
      | inr h ↦ let others = h.1 in inr (h.0, cc)
    ]

-- with one more line, whose name no other declares
pub once-more : (before : List Form) (form : Form) → DeclaresOnce before → ((q : List ℕ) (what : Declared) → declared_after q before form ≡ Some what → declared before q ≡ None)
    → DeclaresOnce (before ++ form ∷ [])
once-more before form once fresh name what d =
    let line = d.2 in
    let counted = line.3 in
    let is : declared_after name line.0 d.1 ≡ Some what = sym (declared-counted name line.0 d.1 _ _ _ counted.arrays counted.params counted.statements) ∙ d.3 in
    declared-push name before form
    ∙ elim (last-or-not before line.0 line.1 form d.1 line.2) [
      | inl h ↦
          let here : declared_after name before form ≡ Some what = ap (λ b. declared_after name b form) (sym h.0) ∙ ap (declared_after name line.0) (sym h.1) ∙ is in
          ap (λ o. option_or o (declared_after name before form)) (fresh name what here) ∙ here
      | inr h ↦ ap (λ o. option_or o (declared_after name before form)) (once name what (d.0, d.1, (line.0, h.0, h.1, counted), d.3))
    ]

-- the same for the lines as they are kept
pub once-lines : (lines : List LineEntry) (i : ℕ) (d : LineEntry) (a p s : ℕ) → i < length lines
    → a ≡ how_many is_array (forms_in (take i lines)) → p ≡ how_many is_param (forms_in (take i lines)) → s ≡ how_many is_statement (forms_in (take i lines))
    → DeclaresOnce (forms_in (take i lines))
    → ((q : List ℕ) (what : Declared) → declared_by q a p s (form_seen (get_or lines i d).form) ≡ Some what → declared (forms_in (take i lines)) q ≡ None)
    → DeclaresOnce (forms_in (take (i + 1) lines))
once-lines lines i d a p s h ea ep es once fresh =
    let before = forms_in (take i lines) in
    let form = form_seen (get_or lines i d).form in
    subst DeclaresOnce (sym (forms-more lines i d h))
    (once-more before form once (λ q what is. fresh q what (declared-counted q before form a p s ea ep es ∙ is)))

-- such a name stands for its only declaration

that-same : (what : Declared) → is_that what (Some what) ≡ true
that-same (AnArray n) = eq-eqb n n refl
that-same (AParam n) = eq-eqb n n refl
that-same (AValue n) = eq-eqb n n refl

pub not-repeated : (block : List Form) (name : List ℕ) (what : Declared) → DeclaresOnce block → IsDeclaredIn block name what → not (is_that what (declared block name)) ≡ false
not-repeated block name what once d = ap (λ o. not (is_that what o)) (once name what d) ∙ ap not (that-same what)
