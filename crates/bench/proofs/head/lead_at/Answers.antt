-- What stands at a place: a number, which may be too large to lead a trace, the end, which is refusal 8, or a refusal.
use Rattle.std.proofs.Common.{rules, ◌∙◌}
use Rattle.bench.proofs.Leads.{lead_high, lead_low, lead_end, lead_refused}
use Rattle.bench.proofs.head.lead_at.Goals as goal

pub returns-then-value-gt-LAST_BYTE : goal.returns-then-value-gt-LAST_BYTE
returns-then-value-gt-LAST_BYTE c = search (rules, lead_high, ◌∙◌)

pub returns-else-value-gt-LAST_BYTE : goal.returns-else-value-gt-LAST_BYTE
returns-else-value-gt-LAST_BYTE c = search lead_low

pub returns-in-Ok-End : goal.returns-in-Ok-End
returns-in-Ok-End c = search (rules, lead_end, ◌∙◌)

pub returns-in-Err : goal.returns-in-Err
returns-in-Err c = search lead_refused
