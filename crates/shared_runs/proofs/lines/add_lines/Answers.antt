use Rattle.std.proofs.Common.{◌∙◌, ◌++◌, List, ℕ, sym, ap}
use Rattle.std.specs.Prelude.{Vec}
use Rattle.std.specs.Global.{Global}
use Rattle.text_parts.specs.Parted.{joined_text}
use Rattle.shared_runs.specs.declared.lines.Lines.{Lines}
use Rattle.shared_runs.specs.inner.Lines.{bytes_in, bytes_left}
use Rattle.shared_runs.proofs.lines.add_lines.Goals as goal
use Rattle.shared_runs.proofs.lines.add_lines.Goals.{in-Written+in_ok-add_text-in-Written, in-Left+in_ok-add_text-in-Left}

pub returns : goal.returns
returns c = λ e.
    let before : List ℕ = joined_text c.args.texts.now.items in
    let joined : Vec (Vec ℕ Global) Global → List ℕ = λ texts. joined_text texts.items in
    elim c.match-lines.branch [
      | in-Written+in_ok-add_text-in-Written w ↦
          ap joined w.texts-is ∙ w.in_ok-add_text-in-Written.ensures ∙ ap (λ (l : Lines). before ++ bytes_in e l) (sym w.in-Written.is)
      | in-Left+in_ok-add_text-in-Left w ↦
          ap joined w.texts-is ∙ w.in_ok-add_text-in-Left.ensures ∙ ap (λ t. before ++ t) (c.requires e ∙ ap (bytes_left e) w.in-Left.is ∙ sym (ap (bytes_in e) w.in-Left.is))
    ]
