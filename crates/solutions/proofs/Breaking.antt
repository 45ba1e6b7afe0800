-- Whatever is named, the lists are no solution.
use Rattle.schedules.proofs.lawfulness.Breaking.{breaches-break}
use Rattle.registers.proofs.allotted.First.{meetings-are_unlawful}
use Rattle.solutions.specs.declared.judging.broken.Broken.TheVariants.{Interval, Numbers, Number, Schedule, Registers}
use Rattle.solutions.specs.Files.{in_file, place_in}
use Rattle.solutions.specs.Breaks.{BrokenIsUnlawful}
use Rattle.solutions.specs.Solutions.{files_of, listed, lives_of_solution}
use Rattle.solutions.proofs.Rightness.{right-number}

pub broken-is_unlawful : BrokenIsUnlawful
broken-is_unlawful p ii places numbers Interval b is = b (is.is_schedule.ii_some, is.is_schedule.ii_few)
broken-is_unlawful p ii places numbers Numbers b is = b.count is.numbers.each
broken-is_unlawful p ii places numbers (Number value) b is = b.wrong (right-number (listed p ii places numbers) is value b.there)
broken-is_unlawful p ii places numbers (Schedule breach) b is =
    breaches-break p.scheduling ii places breach b.are_right.is_interval.0 b.are_right.is_interval.1 b.is_first is.is_schedule
broken-is_unlawful p ii places numbers (Registers file earlier later register cycle) b is =
    let files = files_of p.draft in
    meetings-are_unlawful ii b.registers (in_file files file (lives_of_solution (listed p ii places numbers))) (in_file files file numbers)
    (record { earlier = place_in files file earlier; later = place_in files file later; register = register; cycle = cycle })
    b.is_first (is.files file b.registers b.is_rotating)
