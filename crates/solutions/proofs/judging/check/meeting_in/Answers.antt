use Rattle.std.proofs.Common.{◌≡◌, ◌<◌, List, Some, length, take, refl, sym, ap, ◌∙◌, subst, arith}
use Rattle.std.specs.Prelude.{slice_index}
use Rattle.std.specs.List.{All}
use Rattle.problems.specs.declared.draft.File.{File}
use Rattle.registers.specs.declared.lifetime.Lifetime.{Lifetime}
use Rattle.registers.specs.Meetings.{IsFirstMeeting}
use Rattle.registers.specs.Residues.{IsLifeSpan}
use Rattle.registers.proofs.allotted.Least.{place-within}
use Rattle.solutions.specs.declared.judging.broken.Broken.TheVariants.{Registers}
use Rattle.solutions.specs.Files.{in_file, place_in}
use Rattle.solutions.specs.Solutions.{IsNumberIn}
use Rattle.solutions.specs.inner.Judging.{Meets}
use Rattle.solutions.proofs.Filing.{All-in_file, below-in_file, length-in_file}
use Rattle.solutions.proofs.judging.check.meeting_in.Goals as goal

pub first_meeting-requires-clause-lives : goal.first_meeting-requires-clause-lives
first_meeting-requires-clause-lives c =
    subst (All IsLifeSpan) (sym c.gather-count.ensures.entries) (All-in_file IsLifeSpan c.args.files.now c.args.file c.args.lives.now c.requires.lives)

pub first_meeting-requires-clause-there : goal.first_meeting-requires-clause-there
first_meeting-requires-clause-there c =
    let files = c.args.files.now in
    let owned : take c.gather-count.result c.gather.new.into ≡ in_file files c.args.file c.args.numbers.now
    = ap (λ n. take n c.gather.new.into) (c.gather-count.ensures.counted ∙ sym c.gather.ensures.counted) ∙ c.gather.ensures.entries in
    subst (All (λ n. n < c.in-Rotating.registers)) (sym owned)
    (below-in_file files c.args.file c.in-Rotating.registers c.args.numbers.now c.requires.each
    (λ value lt is. subst (λ (kind : File). IsNumberIn (Some kind) (slice_index c.args.numbers.now value)) c.in-Rotating.is (c.requires.right value lt is)))

pub value_at-requires : goal.value_at-requires
value_at-requires c =
    let met = c.in-Some.ensures.exact.meet in
    let lives = in_file c.args.files.now c.args.file c.args.lives.now in
    let there = place-within _ met.one c.in-Some.meeting.earlier met.is_one in
    let same = ap length c.gather-count.ensures.entries in
    let long = length-in_file c.args.files.now c.args.file c.args.lives.now c.requires.each_life in
    omega arith

pub value_at-requires-in-Some : goal.value_at-requires-in-Some
value_at-requires-in-Some c =
    let met = c.in-Some.ensures.exact.meet in
    let there = place-within _ met.other c.in-Some.meeting.later met.is_other in
    let same = ap length c.gather-count.ensures.entries in
    let long = length-in_file c.args.files.now c.args.file c.args.lives.now c.requires.each_life in
    omega arith

pub returns-in-Some : goal.returns-in-Some
returns-in-Some c =
    let files = c.args.files.now in
    let file = c.args.file in
    let m = c.in-Some.meeting in
    let lives = in_file files file c.args.lives.now in
    let numbers = in_file files file c.args.numbers.now in
    let registers = c.in-Rotating.registers in
    let owned : take c.gather-count.result c.gather.new.into ≡ numbers
    = ap (λ n. take n c.gather.new.into) (c.gather-count.ensures.counted ∙ sym c.gather.ensures.counted) ∙ c.gather.ensures.entries in
    let first : IsFirstMeeting c.args.ii registers lives numbers m
    = subst (λ (ls : List Lifetime). IsFirstMeeting c.args.ii registers ls numbers m) c.gather-count.ensures.entries
    (subst (λ ns. IsFirstMeeting c.args.ii registers (take c.gather-count.result c.gather-count.new.into) ns m) owned c.in-Some.ensures.exact) in
    subst (λ (kind : File). Meets c.args.ii files c.args.lives.now c.args.numbers.now file kind (Registers file c.value_at.result c.value_at-in-Some.result m.register m.cycle)) (sym c.in-Rotating.is)
    (record {
      same_file = refl;
      is_meeting = record {
        earlier_there = c.value_at.ensures.there;
        earlier_file = c.value_at.ensures.file;
        later_there = c.value_at-in-Some.ensures.there;
        later_file = c.value_at-in-Some.ensures.file;
        is_first = subst (λ e. IsFirstMeeting c.args.ii registers lives numbers
            (record { earlier = e; later = place_in files file c.value_at-in-Some.result; register = m.register; cycle = m.cycle })) (sym c.value_at.ensures.place)
            (subst (λ l. IsFirstMeeting c.args.ii registers lives numbers (record { earlier = m.earlier; later = l; register = m.register; cycle = m.cycle })) (sym c.value_at-in-Some.ensures.place) first);
      };
    })
