-- The run from the start, then what is left to tell at its end.
use Rattle.std.proofs.Common.{rules, refl, ap, ◌∙◌}
use Rattle.report.specs.Page.{Page, printed}
use Rattle.bench.specs.Run.{first_text}
use Rattle.bench.proofs.Runs.{ran_whole}
use Rattle.bench.proofs.text.report_run.Goals as goal

pub returns : goal.returns
returns c =
    ran_whole c.args.trace.now c.args.out.now c.args.array.now c.args.head c.start-powered.result _ c.start-powered.ensures.all_fresh
    c.start-powered.ensures.power refl c.new.ensures refl
    (c.start-powered.ensures.prints.page ∙ ap (λ (p : Page). printed p (first_text c.args.head c.start-powered.result)) c.new-page.ensures.page)
    c.take_items.ensures (search (rules, ◌∙◌))
