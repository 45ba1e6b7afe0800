use Rattle.std.proofs.Common.{◌≡◌, true, arith, sym, ap, get_or}
use Rattle.std.proofs.lemmas.List.Sums.{position_or_len_is}
use Rattle.loop_lines.specs.Words.{stops_word}
use Rattle.problem_lines.proofs.Cuts.{named_all, named_goes_on}
use Rattle.problem_lines.proofs.scan.count_word.Goals as goal

pub returns-then-count-text-clause-count : goal.returns-then-count-text-clause-count
returns-then-count-text-clause-count c =
    let v = c.count_named-count.ensures in
    sym (position_or_len_is stops_word c.args.text.now c.count_named-count.result 0 v.within (named_goes_on c.args.text.now c.count_named-count.result v.named) (λ lt. absurd (omega arith)))

pub returns-then-count-text-clause-printable : goal.returns-then-count-text-clause-printable
returns-then-count-text-clause-printable c = named_all c.args.text.now c.count_named-count.result c.count_named-count.ensures.within c.count_named-count.ensures.named

pub returns-then-text-count-eq32-clause-count : goal.returns-then-text-count-eq32-clause-count
returns-then-text-count-eq32-clause-count c =
    let v = c.count_named-count.ensures in
    let blank : stops_word (get_or c.args.text.now c.count_named-count.result 0) ≡ true = ap stops_word c.if-text-count-eq32.true in
    sym (position_or_len_is stops_word c.args.text.now c.count_named-count.result 0 v.within (named_goes_on c.args.text.now c.count_named-count.result v.named) (λ _. blank))

pub returns-then-text-count-eq32-clause-printable : goal.returns-then-text-count-eq32-clause-printable
returns-then-text-count-eq32-clause-printable c = named_all c.args.text.now c.count_named-count.result c.count_named-count.ensures.within c.count_named-count.ensures.named
