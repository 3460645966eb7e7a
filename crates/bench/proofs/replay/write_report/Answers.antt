-- What is put is no longer than the slice.
use Rattle.std.proofs.Common.{arith}
use Rattle.report.specs.PrintLaws.{print_fits}
use Rattle.bench.proofs.replay.write_report.Goals as goal

pub shared_ref_as_front-write : goal.shared_ref_as_front-write
shared_ref_as_front-write c = omega (arith, (print_fits _ _ _ c.report-n.ensures).0)

pub slice_bounds-write-end : goal.slice_bounds-write-end
slice_bounds-write-end c = (print_fits _ _ _ c.report-n.ensures).1
