use Rattle.graph.specs.Units.{first_lacking}
use Rattle.explain.specs.Explanations.{IsExplanationOf}
use Rattle.file_faults.proofs.Answering.{text_written}
use Rattle.explain_printouts.specs.Explain.{IsExplainText}
use Rattle.explain_printouts.proofs.explaining.explain_text.Goals as goal

pub returns : goal.returns
returns c =
    let r = c.args.settings.now.ratio in
    let k = c.args.settings.now.ceiling in
    let m = c.args.machine.now in
    let ls = c.args.loops.items in
    let explained = c.in_ok-explained.explained in
    text_written (IsExplanationOf m r k ls) (IsExplainText r k m ls) (first_lacking m ls) explained c.new.result
    (λ e. record { explained = explained; is_explained = e; is_text = c.new.ensures.text; met = c.new.ensures.all_met }) c.in_ok-explained.ensures.exact
