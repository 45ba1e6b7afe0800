-- The pieces of a text, found one after another.
use Rattle.std.proofs.Common.{◌≡◌, ◌∙◌, ℕ, List, [], ◌∷◌, ◌++◌, sym, ap, subst, append_assoc}
use Rattle.std.proofs.lemmas.List.{append-nil}
use Rattle.std.specs.Borrow.{Bor}
use Rattle.workers.specs.Apart.{EndsLine}
use Rattle.workers.specs.inner.Pieces.{IsCut}

-- with the pieces of what is left, those so far are the pieces of the text
abbrev pub CutSoFar : List ℕ → List (Bor (List ℕ)) → List ℕ → Type 0
CutSoFar text pieces left = (more : List (Bor (List ℕ))) → IsCut left more → IsCut text (pieces ++ more)

pub cut-none : (text : List ℕ) (pieces : List (Bor (List ℕ))) → pieces ≡ [] → CutSoFar text pieces text
cut-none text pieces none more h = subst (λ (ps : List (Bor (List ℕ))). IsCut text (ps ++ more)) (sym none) h

in-front : (left after : List ℕ) (piece : Bor (List ℕ)) (more : List (Bor (List ℕ))) → EndsLine piece.now → left ≡ piece.now ++ after → IsCut after more → IsCut left (piece ∷ more)
in-front left after piece [] h e k = e ∙ ap (λ (a : List ℕ). piece.now ++ a) k ∙ append-nil piece.now
in-front left after piece (next ∷ more) h e k = (h, (after, e, k))

-- one more piece
pub cut-more : (text left after : List ℕ) (pieces found : List (Bor (List ℕ))) (piece : Bor (List ℕ)) → CutSoFar text pieces left → EndsLine piece.now → left ≡ piece.now ++ after
    → found ≡ pieces ++ piece ∷ [] → CutSoFar text found after
cut-more text left after pieces found piece f h e added more k =
    subst (λ (ps : List (Bor (List ℕ))). IsCut text (ps ++ more)) (sym added)
    (subst (IsCut text) (sym (append_assoc pieces (piece ∷ []) more)) (f (piece ∷ more) (in-front left after piece more h e k)))

-- .. and the last one
pub cut-last : (text left : List ℕ) (pieces found : List (Bor (List ℕ))) (last : Bor (List ℕ)) → CutSoFar text pieces left → left ≡ last.now → found ≡ pieces ++ last ∷ [] → IsCut text found
cut-last text left pieces found last f e added = subst (IsCut text) (sym added) (f (last ∷ []) e)
