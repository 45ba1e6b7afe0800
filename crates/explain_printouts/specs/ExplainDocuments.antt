-- What `explain` writes as JSON, and as a page.
use Rattle.std.specs.Prelude.{◌≡◌, ℕ, ◌==◌, not, List, Vec, map, count_by}
use Rattle.std.specs.Global.{Global}
use Rattle.std.specs.List.{AllZip}
use Rattle.machine.specs.Machines.{MachineData}
use Rattle.loop_data.specs.Loops.{LoopData}
use Rattle.loop_schedules.specs.Problems.{ProblemData, IsProblemOf}
use Rattle.loop_listings.specs.declared.choices.Choice.{Choice}
use Rattle.loop_listings.specs.Listings.{is_met}
use Rattle.explain_printouts.specs.Objects.{IsObjectOn}
use Rattle.json_objects.specs.Documents.{document_of}
use Rattle.report_page.specs.Pages.{page_of}
use Rattle.explain_printouts.specs.declared.objects.Object.{Object}
use Rattle.written.specs.Written.{Written}

-- the object of a problem, with whether its choice is a kernel
pub record IsObjectOf (machine : MachineData) (problem : ProblemData) (object : Object) : Type 0 where
  pub choice : Choice
  pub is_object : IsObjectOn machine problem choice object.text.items
  pub met : object.met ≡ is_met choice

-- the objects of loops, by the problem of each on the machine
pub record AreObjectsOf (ratio ceiling : ℕ) (machine : MachineData) (loops : List LoopData) (objects : List Object) : Type 0 where
  pub problems : List ProblemData
  pub each_problem : AllZip (λ loop problem. IsProblemOf machine loop ratio ceiling problem) loops problems
  pub each_object : AllZip (IsObjectOf machine) problems objects

abbrev pub AreObjects : ℕ → ℕ → MachineData → List LoopData → Vec Object Global → Type 0
AreObjects ratio ceiling machine loops objects = AreObjectsOf ratio ceiling machine loops objects.items

-- how many loops have a kernel, and how many have none
abbrev pub number_met : List Object → ℕ
number_met objects = count_by (λ (object : Object). object.met) objects

abbrev pub number_failed : List Object → ℕ
number_failed objects = count_by (λ (object : Object). not object.met) objects

-- the document of objects
abbrev pub document_text : List Object → List ℕ
document_text objects = document_of (map (λ (object : Object). object.text.items) objects) (number_met objects) (number_failed objects)

-- the document of all loops, with whether every loop has a kernel
pub record IsExplainDocument (ratio ceiling : ℕ) (machine : MachineData) (loops : List LoopData) (written : Written) : Type 0 where
  pub objects : List Object
  pub are_objects : AreObjectsOf ratio ceiling machine loops objects
  pub is_text : written.text ≡ document_text objects
  pub met : written.all_met ≡ (number_failed objects == 0)

-- the page that shows that document
pub record IsExplainPage (ratio ceiling : ℕ) (machine : MachineData) (loops : List LoopData) (written : Written) : Type 0 where
  pub document : Written
  pub is_document : IsExplainDocument ratio ceiling machine loops document
  pub is_text : written.text ≡ page_of document.text
  pub met : written.all_met ≡ document.all_met
