-- Wherever the loop is, the bytes that are left lead from there to where all of them lead from the start.
use Rattle.std.specs.Prelude.{List, set}
use Rattle.std.proofs.Common.{◌≡◌, ap, ◌∙◌, ℕ, ◌+◌, ◌-◌, ◌%◌, ◌<◌, ◌≤◌, mod-lt, lt-ltb, le-ltb, arith, length}
use Rattle.pulses.specs.FillLaws.{put_length, fill_on}
use Rattle.pulses.specs.Sums.{put, fill_bytes}
use Rattle.pulses.proofs.write.fill.Goals.{then-at-limit, else-at-limit}
use Rattle.pulses.proofs.write.fill.Goals as goal

-- the byte is put where it may be stored
puts_in : (limit byte at : ℕ) (xs ys : List ℕ) → at < limit → ys ≡ set xs at byte → ys ≡ put limit byte xs at
puts_in limit byte at xs ys h is = rw (lt-ltb at limit h) is

puts_out : (limit byte at : ℕ) (xs ys : List ℕ) → limit ≤ at → ys ≡ xs → ys ≡ put limit byte xs at
puts_out limit byte at xs ys h is = rw (le-ltb at limit h) is

pub loop-preserved : goal.loop-preserved
loop-preserved c =
    let inside = c.loop.invariant.1 in
    let puts : c.if-at-limit.array ≡ put c.args.limit c.args.byte c.loop.array c.loop.at =
    elim c.if-at-limit.branch [
      | then-at-limit w ↦ puts_in _ _ _ _ _ w.if-at-limit.true w.array-is
      | else-at-limit w ↦ puts_out _ _ _ _ _ w.if-at-limit.false w.array-is
    ] in
    let same = ap length puts ∙ put_length c.args.limit c.args.byte c.loop.array c.loop.at ∙ c.loop.invariant.0 in
    let next = c.next-at.ensures ∙ ap (λ (n : ℕ). (c.loop.at + 1) % n) same in
    let less : c.args.bytes - (c.loop.counter + 1) ≡ c.args.bytes - c.loop.counter - 1 = omega arith in (
      same,
      rw next (mod-lt (c.loop.at + 1) (omega (arith, inside))),
      ap (λ (n : ℕ). fill_bytes (length c.args.array.now) c.args.limit c.args.byte n c.next-at.result c.if-at-limit.array) less
          ∙ fill_on _ _ _ (c.args.bytes - c.loop.counter) c.loop.at _ c.loop.array _ inside (omega (arith, c.loop-test.true)) next puts
          ∙ c.loop.invariant.2,
    )
