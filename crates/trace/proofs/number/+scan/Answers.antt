-- `scan` finds what is defined: past the end and with no room left nothing; a byte without the top bit is the number;
-- and behind one with it the number of one group fewer is extended by its group. Nine groups are 63 bits, so the shift
-- loses none.
use Rattle.std.proofs.Common.{ℕ, ◌≡◌, ◌+◌, ◌-◌, ◌%◌, ◌<◌, ◌≤◌, List, length, Option, sym, ap, ◌∙◌, get_or, rules, arith, eq-eqb, ne_eqb}
use Rattle.std.proofs.Math.Nat.{mod-eq_of_lt}
use Rattle.trace.specs.declared.number.Whole.{Whole}
use Rattle.trace.specs.Form.{scanned}
use Rattle.trace.specs.ScanLaws.{extended, scanned_none, scanned_past, scanned_last, scanned_more, scanned_small}
use Rattle.trace.proofs.Packing.{low_group, joined, eight_groups}
use Rattle.trace.proofs.number.+scan.Goals as goal

-- behind a byte with the top bit set
behind :
    (s : List ℕ) (at room b : ℕ) (rest : Option Whole) → at < length s → b ≡ get_or s at 0 → 128 ≤ b → 0 < room → rest ≡ scanned s (at + 1) (room - 1)
    → extended (b % 128) rest ≡ scanned s at room
behind s at room b rest inside is h some e = rw (is, e) (sym (scanned_more s at inside room some (rw is at h)))

pub returns-then-room-eq0 : goal.returns-then-room-eq0
returns-then-room-eq0 t c = sym (ap (scanned c.args.s.now c.args.at) c.if-room-eq0.true ∙ scanned_none _ _)

pub returns-in_err-b : goal.returns-in_err-b
returns-in_err-b t c = c.from_residual.ensures ∙ sym (scanned_past _ _ _ (omega (arith, c.in_err-b.ensures.lookup)))

pub returns-then-b-lt128 : goal.returns-then-b-lt128
returns-then-b-lt128 t c =
    let a = c.args in
    let b = c.in_ok-b.field-0.now in
    let found = c.in_ok-b.ensures.lookup in
    let is : b ≡ get_or a.s.now a.at 0 = found.3.1 0 in
    rw (low_group b, mod-eq_of_lt c.if-b-lt128.true, is) (sym (scanned_last a.s.now a.at found.3.0 a.room (search rules) (rw is at c.if-b-lt128.true)))

pub returns-in_err-value : goal.returns-in_err-value
returns-in_err-value t c =
    let found = c.in_ok-b.ensures.lookup in
    c.from_residual-in_err-value.ensures ∙ behind _ _ _ _ _ found.3.0 (found.3.1 0) c.if-b-lt128.false (search rules) c.in_err-value.ensures

pub returns-then-value-eq0 : goal.returns-then-value-eq0
returns-then-value-eq0 t c =
    let found = c.in_ok-b.ensures.lookup in
    simp (eq-eqb _ _ c.if-value-eq0.true) at (behind _ _ _ _ _ found.3.0 (found.3.1 0) c.if-b-lt128.false (search rules) c.in_ok-value.ensures)

pub returns : goal.returns
returns t c =
    let b = c.in_ok-b.field-0.now in
    let found = c.in_ok-b.ensures.lookup in
    let n = c.in_ok-value.field-0.value in
    let small = eight_groups (c.args.room - 1) n (search rules) (scanned_small _ _ _ n _ c.in_ok-value.ensures) in
    rw (joined n b small) (simp (ne_eqb n 0 c.if-value-eq0.false) at (behind _ _ _ _ _ found.3.0 (found.3.1 0) c.if-b-lt128.false (search rules) c.in_ok-value.ensures))
