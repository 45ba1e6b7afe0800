-- Objects of loops, and the document of them.
use Rattle.std.proofs.Common.{◌≡◌, ℕ, ◌+◌, ◌<◌, List, [], ◌∷◌, ◌++◌, length, get_or, map, take, sym, ap, ap₂, ◌∙◌, subst, append_assoc}
use Rattle.std.specs.Prelude.{codes}
use Rattle.std.specs.List.{AllZip, join_by}
use Rattle.std.proofs.lemmas.List.{take_more}
use Rattle.lower_bounds.proofs.Texts.{all_zip-push}
use Rattle.json_objects.specs.Documents.{document_of, head_text, tail_text}
use Rattle.json_objects.proofs.Joined.{join-map}
use Rattle.explain_printouts.specs.declared.objects.Object.{Object}
use Rattle.explain_printouts.specs.ExplainDocuments.{document_text, number_failed, number_met}

-- one more is right
pub each-more : {A B : Type 0} (R : A → B → Type 0) (xs : List A) (ys new : List B) (i : ℕ) (a : A) (b : B) → i < length xs → a ≡ get_or xs i a → AllZip R (take i xs) ys → R a b
    → new ≡ ys ++ b ∷ [] → AllZip R (take (i + 1) xs) new
each-more {A} {B} R xs ys new i a b low at are is n =
    subst (λ (zs : List B). AllZip R (take (i + 1) xs) zs) (sym n)
    (subst (λ (zs : List A). AllZip R zs (ys ++ b ∷ [])) (ap (λ q. take i xs ++ q ∷ []) at ∙ sym (take_more xs i a low)) (all_zip-push R (take i xs) ys a b are is))

-- the parts of the document, one after another
pub document-joined : (objects : List Object) (failed met : ℕ) (a b c : List ℕ) → failed ≡ number_failed objects → met ≡ number_met objects → a ≡ head_text failed
    → b ≡ a ++ join_by (λ (object : Object). object.text.items) (codes ",") objects → c ≡ b ++ tail_text met → c ≡ document_text objects
document-joined objects failed met a b c is_failed is_met is_a is_b is_c =
    let joined = join_by (λ (object : Object). object.text.items) (codes ",") objects in
    is_c ∙ ap (λ (t : List ℕ). t ++ tail_text met) (is_b ∙ ap (λ (t : List ℕ). t ++ joined) is_a)
    ∙ append_assoc (head_text failed) joined (tail_text met)
    ∙ ap (λ (t : List ℕ). head_text failed ++ (t ++ tail_text met)) (sym (join-map (λ (object : Object). object.text.items) (codes ",") objects))
    ∙ ap₂ (λ (f m : ℕ). document_of (map (λ (object : Object). object.text.items) objects) m f) is_failed is_met
