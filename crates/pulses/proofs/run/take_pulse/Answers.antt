-- SCK up, then down; what is refused ends it.
use Rattle.std.proofs.Common.{◌∙◌}
use Rattle.turns.proofs.Leads.{given, not_given, stays}
use Rattle.pulses.specs.RunLaws.{pulse_stays, pulse_stops, pulse_ends}
use Rattle.pulses.proofs.run.take_pulse.Goals as goal

pub returns-then-is_some : goal.returns-then-is_some
returns-then-is_some c = stays (pulse_stays 1 c.args.bench.now (given _ c.is_some.ensures c.if-is_some.true))

pub returns-then-is_some-2 : goal.returns-then-is_some-2
returns-then-is_some-2 c = record {
  same_array = c.take_event.ensures.same_array;
  same_page = c.take_event.ensures.same_page;
  same_slice = c.take_event.ensures.same_slice;
  desk =
      pulse_stops c.args.bench.now c.take_event.new.self (not_given _ c.is_some.ensures c.if-is_some.false) c.take_event.ensures.desk
      (given _ c.is_some-2.ensures c.if-is_some-2.true);
}

pub returns : goal.returns
returns c = record {
  same_array = c.take_event-2.ensures.same_array ∙ c.take_event.ensures.same_array;
  same_page = c.take_event-2.ensures.same_page ∙ c.take_event.ensures.same_page;
  same_slice = c.take_event-2.ensures.same_slice ∙ c.take_event.ensures.same_slice;
  desk =
      pulse_ends c.args.bench.now c.take_event.new.self (not_given _ c.is_some.ensures c.if-is_some.false) c.take_event.ensures.desk
      c.take_event-2.new.self (not_given _ c.is_some-2.ensures c.if-is_some-2.false) c.take_event-2.ensures.desk;
}
