use Rattle.mrt.proofs.slots.Laying.{AreTimes-new, none_set-new}
use Rattle.mrt.proofs.words.timelines.TimelinesLayout.sizes.Goals as goal

pub returns-clause-laid : goal.returns-clause-laid
returns-clause-laid c =
    let words = c.words_at-words.ensures in
    AreTimes-new c.args.ii c.words_at-words.result c.requires.some words.one words.reach words.few words.least

pub returns-clause-clear : goal.returns-clause-clear
returns-clause-clear c =
    let words = c.words_at-words.ensures in
    none_set-new c.args.ii c.words_at-words.result c.requires.some words.one words.reach
