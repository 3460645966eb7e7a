-- What the reading came to, as an answer; where all is spelt, the front of the slice is copied.
use Rattle.std.proofs.Common.{sym}
use Rattle.std.proofs.Math.Seq.{length-take-le}
use Rattle.spelling.proofs.SpellTurns.{spelt_fits, spelt_whole, fault_whole}
use Rattle.spelling.proofs.spell.spell_in.Goals as goal

pub slice_bounds-copy-end-in-Ok : goal.slice_bounds-copy-end-in-Ok
slice_bounds-copy-end-in-Ok c =
    sym (length-take-le _ _ (spelt_fits c.args.text.text.now c.args.trace.now c.pass.new.out c.args.text.fits c.requires.0 c.pass.result c.pass.ensures c.in-Ok.here c.in-Ok.is))

pub returns-in-Ok : goal.returns-in-Ok
returns-in-Ok c =
    spelt_whole c.args.text.text.now c.args.trace.now c.pass.new.out c.args.text.fits c.requires.0 c.pass.result c.pass.ensures c.in-Ok.here _ _ c.in-Ok.is c.requires.1 c.copy.ensures

pub returns-in-Err : goal.returns-in-Err
returns-in-Err c =
    fault_whole c.args.text.text.now c.args.trace.now c.pass.new.out c.args.text.fits c.requires.0 c.pass.result c.pass.ensures _ _ _ c.in-Err.is c.fault_of.ensures
