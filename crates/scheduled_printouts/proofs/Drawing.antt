-- The graphs of loops with their schedules, one after another.
use Rattle.std.proofs.Common.{◌≡◌, ◌&&◌, ℕ, ◌+◌, ◌<◌, Bool, true, false, List, [], ◌∷◌, ◌++◌, length, get_or, take, refl, sym, ap, ◌∙◌, subst}
use Rattle.std.proofs.lemmas.List.{take_more}
use Rattle.std.specs.List.{list_all}
use Rattle.lower_bounds.proofs.Texts.{all_zip-push, zipped-push}
use Rattle.writing.proofs.Beginnings.{two_pushed}
use Rattle.loop_schedules.specs.Problems.{ProblemData}
use Rattle.loop_listings.specs.Listings.{is_met}
use Rattle.scheduled_printouts.specs.Graphs.{AreDrawn, DrawnData, IsDrawn}

and-true : (b : Bool) → b && true ≡ b
and-true true = refl
and-true false = refl

and-again : (a b c : Bool) → a && (b && c) ≡ (a && b) && c
and-again true b c = refl
and-again false b c = refl

-- all of them, and one more
abbrev all_met_of : List DrawnData → Bool
all_met_of all = list_all (λ (e : DrawnData). is_met e.choice) all

met-push : (all : List DrawnData) (d : DrawnData) → all_met_of (all ++ d ∷ []) ≡ all_met_of all && is_met d.choice
met-push [] d = and-true (is_met d.choice)
met-push (e ∷ all) d = ap (λ b. is_met e.choice && b) (met-push all d) ∙ and-again (is_met e.choice) (all_met_of all) (is_met d.choice)

pub drawn-none : AreDrawn [] [] true
drawn-none = record { graphs = record { values = []; are_right = tt; is_text = refl }; all_met = refl }

-- one loop more
pub drawn-push : (problems : List ProblemData) (text : List ℕ) (met more : Bool) (p : ProblemData) (d : DrawnData) → AreDrawn problems text met → IsDrawn p d → more ≡ is_met d.choice
    → AreDrawn (problems ++ p ∷ []) (text ++ d.text) (met && more)
drawn-push problems text met more p d h is same =
    let text_of = λ (q : ProblemData) (e : DrawnData). e.text in
    let values = h.graphs.values in
    record {
      graphs = record {
        values = values ++ d ∷ [];
        are_right = all_zip-push IsDrawn problems values p d h.graphs.are_right is;
        is_text = ap (λ t. t ++ d.text) h.graphs.is_text ∙ sym (zipped-push IsDrawn text_of problems values p d h.graphs.are_right);
      };
      all_met = ap (λ b. b && more) h.all_met ∙ ap (λ b. list_all (λ (e : DrawnData). is_met e.choice) values && b) same ∙ sym (met-push values d);
    }

-- .. of a list
pub drawn-next : (problems : List ProblemData) (i : ℕ) (p : ProblemData) (old mid new before : List ℕ) (met more both : Bool) (d : DrawnData) → i < length problems → AreDrawn (take i problems) before met
    → mid ≡ old ++ before → IsDrawn (get_or problems i p) d → more ≡ is_met d.choice → new ≡ mid ++ d.text → both ≡ met && more
    → (part : List ℕ) × AreDrawn (take (i + 1) problems) part both × (new ≡ old ++ part)
drawn-next problems i p old mid new before met more both d within h e is same n b = (
  before ++ d.text,
  subst (λ (m : Bool). AreDrawn (take (i + 1) problems) (before ++ d.text) m) (sym b)
      (subst (λ (ps : List ProblemData). AreDrawn ps (before ++ d.text) (met && more)) (sym (take_more problems i p within)) (drawn-push (take i problems) before met more (get_or problems i p) d h is same)),
  two_pushed old before d.text mid new e n,
)
