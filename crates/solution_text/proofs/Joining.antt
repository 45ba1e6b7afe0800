-- Parts of texts, one after another.
use Rattle.std.proofs.Common.{◌≡◌, ℕ, ◌+◌, ◌<◌, List, [], ◌∷◌, ◌++◌, length, get_or, take, refl, sym, ap, ◌∙◌, append_assoc}
use Rattle.std.proofs.lemmas.List.{take_more}
use Rattle.problems.specs.declared.draft.Draft.{Draft}
use Rattle.solution_text.specs.declared.parts.Part.{Part}
use Rattle.solution_text.specs.inner.Parts.{followed, joined, part_text}

followed-push : (draft : Draft) (text : List ℕ) (parts : List Part) (part : Part) → followed draft text (parts ++ part ∷ []) ≡ followed draft text parts ++ part_text draft part
followed-push draft text [] part = refl
followed-push draft text (p ∷ parts) part = followed-push draft (text ++ part_text draft p) parts part

joined-push : (draft : Draft) (parts : List Part) (part : Part) → joined draft (parts ++ part ∷ []) ≡ joined draft parts ++ part_text draft part
joined-push draft [] part = refl
joined-push draft (p ∷ parts) part = followed-push draft (part_text draft p) parts part

-- one part more
pub joined-more : (draft : Draft) (old before new : List ℕ) (parts : List Part) (i : ℕ) (d : Part) → i < length parts → before ≡ old ++ joined draft (take i parts)
    → new ≡ before ++ part_text draft (get_or parts i d) → new ≡ old ++ joined draft (take (i + 1) parts)
joined-more draft old before new parts i d within b n =
    n ∙ ap (λ t. t ++ part_text draft (get_or parts i d)) b ∙ append_assoc old (joined draft (take i parts)) (part_text draft (get_or parts i d))
    ∙ ap (λ (t : List ℕ). old ++ t) (sym (joined-push draft (take i parts) (get_or parts i d)) ∙ ap (joined draft) (sym (take_more parts i d within)))
