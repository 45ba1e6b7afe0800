-- A set of names, with one more.
use Rattle.std.proofs.Common.{◌≡◌, ℕ, Bool, true, false, cond, ◌||◌, List, refl, sym, ap, ◌∙◌}
use Rattle.std.proofs.lemmas.Bool.Decides.{same_from_decides}
use Rattle.std.proofs.lemmas.Map.Text.{is_eq-slice_cmp}
use Rattle.std.proofs.lemmas.Slice.Eq.{bytes_eq-Decides}
use Rattle.std.specs.Borrow.{Bor}
use Rattle.std.specs.BTreeSet.{BTreeSet, UpdatesBy}
use Rattle.std.specs.Cmp.Lexicographic.{slice_cmp}
use Rattle.std.specs.Ordering.{nat_cmp, is_eq}
use Rattle.machine_data.specs.Opcodes.{same_word}
use Rattle.loop_lint.specs.inner.Names.{is_among}

same_word-sym : (xs ys : List ℕ) → same_word xs ys ≡ same_word ys xs
same_word-sym xs ys = same_from_decides _ _ (bytes_eq-Decides xs ys) ((λ h. sym ((bytes_eq-Decides ys xs).0 h)), (λ h. (bytes_eq-Decides ys xs).1 (sym h)))

or-late : (a b : Bool) → cond a true b ≡ (b || a)
or-late true true = refl
or-late true false = refl
or-late false true = refl
or-late false false = refl

pub among_more : (old new : BTreeSet (Bor (List ℕ))) (name : List ℕ) → UpdatesBy (λ (x y : Bor (List ℕ)). slice_cmp nat_cmp x.now y.now) (λ k. slice_cmp nat_cmp name k.now) old new true
    → (q : List ℕ) → is_among new q ≡ (is_among old q || same_word q name)
among_more old new name updates q =
    let other : Bor (List ℕ) = record { ref_ptr = (0, 0); now = q } in
    let at : is_eq (slice_cmp nat_cmp name q) ≡ same_word q name = is_eq-slice_cmp name q ∙ same_word-sym name q in
    updates.0 other ∙ ap (λ t. cond t true (is_among old q)) at ∙ or-late (same_word q name) (is_among old q)
