-- Texts that are pushed one after another.
use Rattle.std.proofs.Common.{◌≡◌, ℕ, List, ◌++◌, ap, ◌∙◌, append_assoc}

pub joined : (old a b d one two three : List ℕ) → one ≡ old ++ a → two ≡ one ++ b → three ≡ two ++ d → three ≡ old ++ (a ++ (b ++ d))
joined old a b d one two three p q r = r ∙ ap (λ t. t ++ d) (q ∙ ap (λ t. t ++ b) p) ∙ append_assoc (old ++ a) b d ∙ append_assoc old a (b ++ d)

pub regrouped : (old a b d e f g : List ℕ) → (((old ++ (a ++ (b ++ d))) ++ e) ++ f) ++ g ≡ old ++ (a ++ (b ++ (d ++ (e ++ (f ++ g)))))
regrouped old a b d e f g = simp append_assoc
