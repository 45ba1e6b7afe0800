-- Three parts, pushed one after another.
use Rattle.std.proofs.Common.{◌≡◌, ℕ, List, ◌++◌, append_assoc, ◌∙◌, ap}

pub three_parts : (old a b c first second last : List ℕ) → first ≡ old ++ a → second ≡ first ++ b → last ≡ second ++ c → last ≡ old ++ ((a ++ b) ++ c)
three_parts old a b c first second last h i j =
    j ∙ ap (λ t. t ++ c) (i ∙ ap (λ t. t ++ b) h ∙ append_assoc old a b) ∙ append_assoc old (a ++ b) c
