-- The tests come in the order of the refusals; the row is the part's.
use Rattle.std.proofs.Common.{ap, not}
use Rattle.chip.proofs.EventLaws.{lend_misfits, lend_unnumbered, lend_fine}
use Rattle.wear.proofs.CountLaws.{count_unsound, count_rowless, count_lends, count_misfits, count_fine}
use Rattle.wear.proofs.count.check_counted.Goals as goal

pub returns-then-not-sound_by : goal.returns-then-not-sound_by
returns-then-not-sound_by c = count_unsound _ _ _ _ _ c.figure_of-f.ensures c.sound_by.ensures (ap not c.if-not-sound_by.true)

pub returns-then-f-eq0 : goal.returns-then-f-eq0
returns-then-f-eq0 c =
    count_rowless _ _ _ _ _ c.figure_of-f.ensures c.sound_by.ensures (ap not c.if-not-sound_by.false) c.if-f-eq0.true

pub returns-then-len-f : goal.returns-then-len-f
returns-then-len-f c =
    let row = c.figure_of-f.ensures in
    let told = c.sound_by.ensures in
    let good = ap not c.if-not-sound_by.false in
    count_lends _ _ _ _ _ row told good c.if-f-eq0.false (lend_misfits _ _ _ _ row told good c.if-len-f.true)

pub returns-then-not-takes_serial : goal.returns-then-not-takes_serial
returns-then-not-takes_serial c =
    let row = c.figure_of-f.ensures in
    let told = c.sound_by.ensures in
    let good = ap not c.if-not-sound_by.false in
    count_lends _ _ _ _ _ row told good c.if-f-eq0.false
    (lend_unnumbered _ _ _ _ row told c.takes_serial.ensures good c.if-len-f.false (ap not c.if-not-takes_serial.true))

pub returns-then-counters-f : goal.returns-then-counters-f
returns-then-counters-f c =
    let row = c.figure_of-f.ensures in
    let told = c.sound_by.ensures in
    let good = ap not c.if-not-sound_by.false in
    count_misfits _ _ _ _ _ row told good c.if-f-eq0.false
    (lend_fine _ _ _ _ row told c.takes_serial.ensures good c.if-len-f.false (ap not c.if-not-takes_serial.false)) c.if-counters-f.true

pub returns : goal.returns
returns c =
    let row = c.figure_of-f.ensures in
    let told = c.sound_by.ensures in
    let good = ap not c.if-not-sound_by.false in
    count_fine _ _ _ _ _ row told good c.if-f-eq0.false
    (lend_fine _ _ _ _ row told c.takes_serial.ensures good c.if-len-f.false (ap not c.if-not-takes_serial.false)) c.if-counters-f.false
