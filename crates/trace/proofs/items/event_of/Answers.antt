-- An item that has more than `k` events, and is no event itself, is a data byte, and `k` one of its events.
use Rattle.trace.proofs.Pulses.{within}
use Rattle.trace.proofs.items.event_of.Goals as goal

pub data_event-requires : goal.data_event-requires
data_event-requires c =
    within c.args.item c.args.k c.events_of.result c.events_of.ensures c.if-item-lt-FIRST_BYTE.false c.if-events_of-k.false
