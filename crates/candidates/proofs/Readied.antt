-- Loops prepared one after another.
use Rattle.std.proofs.Common.{◌≡◌, ℕ, List, [], ◌∷◌, ◌++◌, length, refl, sym, ap, ◌∙◌, subst, arith, append_assoc, append-nil}
use Rattle.std.specs.Prelude.{Option, Some, None, Ok, Err}
use Rattle.machine_data.specs.declared.opcode.Opcode.{Opcode}
use Rattle.machine_data.specs.Machines.{MachineData}
use Rattle.loop_data.specs.Loops.{LoopData}
use Rattle.graph.specs.TablesAnswer.{TablesAnswer}
use Rattle.graph.specs.declared.fault.GraphFault.TheVariants as graph_fault
use Rattle.graph.specs.Units.{first_without_table, first_lacking, lacking_or}
use Rattle.loop_schedules.specs.Problems.{ProblemData, IsProblemOf}
use Rattle.file_faults.specs.declared.fault.FileFault.TheVariants.{NoTable}
use Rattle.candidates.specs.Files.{AnswersOn, ArePrepared}

module _ {A : Type 0} (P : A → Type 0) (name : List ℕ) where
  pub one_ok : (missing : Option Opcode) (x : A) → TablesAnswer missing P (Ok x) → AnswersOn P (lacking_or name missing None) (Ok x)
  one_ok None x a = a
  one_ok (Some o) x a = cc

  pub one_fault : (missing : Option Opcode) (o : Opcode) → TablesAnswer missing P (Err (graph_fault.NoTable o)) → AnswersOn P (lacking_or name missing None) (Err (NoTable name o))
  one_fault None o a = absurd a
  one_fault (Some p) o a = cc

  -- what is answered was right, and no opcode was lacking
  pub ok_of : (missing : Option Opcode) (x : A) → AnswersOn P (lacking_or name missing None) (Ok x) → (missing ≡ None) × P x
  ok_of None x a = (refl, a)
  ok_of (Some o) x a = cc

-- the first loops are prepared, and none of them lacks a table
pub record Readied (machine : MachineData) (ratio ceiling : ℕ) (all left : List LoopData) (problems : List ProblemData) : Type 0 where
  pub zip : (more : List ProblemData) → ArePrepared machine ratio ceiling left more → ArePrepared machine ratio ceiling all (problems ++ more)
  pub lacking : first_lacking machine all ≡ first_lacking machine left

pub readied_on : (machine : MachineData) (ratio ceiling : ℕ) (all before left : List LoopData) (problems after : List ProblemData) (x : LoopData) (p : ProblemData)
    → Readied machine ratio ceiling all before problems → before ≡ x ∷ left → after ≡ problems ++ p ∷ []
    → AnswersOn (IsProblemOf machine x ratio ceiling) (lacking_or x.name (first_without_table machine x) None) (Ok p)
    → Readied machine ratio ceiling all left after
readied_on machine ratio ceiling all before left problems after x p r at added a =
    let is = ok_of (IsProblemOf machine x ratio ceiling) x.name (first_without_table machine x) p a in
    record {
      zip = λ more h. subst (ArePrepared machine ratio ceiling all) (sym (append_assoc problems (p ∷ []) more) ∙ ap (λ ps. ps ++ more) (sym added))
          (r.zip (p ∷ more) (subst (λ ls. ArePrepared machine ratio ceiling ls (p ∷ more)) (sym at) (is.1, h)));
      lacking = r.lacking ∙ ap (first_lacking machine) at ∙ ap (λ m. lacking_or x.name m (first_lacking machine left)) is.0;
    }

pub nil_of : {X : Type 0} (xs : List X) → length xs ≡ 0 → xs ≡ []
nil_of [] h = refl
nil_of (x ∷ xs) h = absurd (omega arith)

pub readied_all : (machine : MachineData) (ratio ceiling : ℕ) (all left : List LoopData) (problems : List ProblemData) → Readied machine ratio ceiling all left problems → length left ≡ 0
    → (ArePrepared machine ratio ceiling all problems) × (first_lacking machine all ≡ None)
readied_all machine ratio ceiling all left problems r long =
    let none = nil_of left long in (
      subst (ArePrepared machine ratio ceiling all) (append-nil problems) (r.zip [] (subst (λ ls. ArePrepared machine ratio ceiling ls []) (sym none) tt)),
      r.lacking ∙ ap (first_lacking machine) none,
    )
