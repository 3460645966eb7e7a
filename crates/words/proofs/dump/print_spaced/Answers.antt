-- Wherever the loop is, the bytes that are left lead from there to where all of them lead from the start.
use Rattle.std.proofs.Common.{◌∙◌}
use Rattle.report.proofs.Pages.{left_on, left_over}
use Rattle.words.proofs.Rows.{spaced_on, spaced_over}
use Rattle.words.proofs.dump.print_spaced.Goals as goal

pub loop-byte-preserved : goal.loop-byte-preserved
loop-byte-preserved c = (
  c.print_one.ensures.same_slice ∙ c.loop-byte.invariant.0,
  left_on _ _ _ _ _ (spaced_on _ _ c.loop-byte-test.true) c.print_one.ensures ∙ c.loop-byte.invariant.1,
)

pub returns : goal.returns
returns c = record {
  same_slice = c.loop-byte.invariant.0;
  page = left_over _ _ _ (spaced_over _ _ c.loop-byte-test.false) c.loop-byte.invariant.1;
}
