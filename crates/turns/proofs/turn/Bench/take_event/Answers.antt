-- A refused event leaves all as it was; an accepted one leaves what the bench, the array and the page take of its answer.
use Rattle.std.proofs.Common.{refl}
use Rattle.turns.specs.EventLaws.{event_refused, event_closes, event_goes_on}
use Rattle.turns.proofs.turn.Bench.take_event.Goals as goal

pub returns-in-Some : goal.returns-in-Some
returns-in-Some c = record { same_array = refl; same_page = refl; same_slice = refl; desk = search event_refused }

pub returns-then-closes : goal.returns-then-closes
returns-then-closes c = record { same_array = refl; same_page = refl; same_slice = c.print_select.ensures.same_slice; desk = search event_closes }

pub returns-else-closes : goal.returns-else-closes
returns-else-closes c = record { same_array = refl; same_page = refl; same_slice = refl; desk = search event_goes_on }
