-- Each way out of `write_at` is the case of `writing` that its tests pick, and the slice goes by that answer: as it was
-- at a refusal, and else with the form that `put` stored in its place. The facts are found by what they say, so that an exchange of
-- the tests falls by what it answers.
use Rattle.std.proofs.Common.{◌≡◌, ◌+◌, ◌-◌, ◌<◌, ◌≤◌, length, refl, ◌∙◌, arith, le-ltb, lt-ltb}
use Rattle.trace.proofs.Storing.{form_between}
use Rattle.trace.specs.Answers.{placed}
use Rattle.trace.specs.Figures.{largest}
use Rattle.trace.specs.Form.{form}
use Rattle.trace.specs.Number.{writing}
use Rattle.trace.specs.WriteLaws.{at_refusal, at_placing}
use Rattle.trace.proofs.number.write_at.Goals as goal

pub returns-then-value-gt-LARGEST : goal.returns-then-value-gt-LARGEST
unfolding writing
returns-then-value-gt-LARGEST c =
    let large : largest < c.args.value = omega arith in
    at_refusal _ _ _ 8 refl (simp (lt-ltb _ _ large))

pub returns-then-at-s : goal.returns-then-at-s
unfolding writing
returns-then-at-s c =
    let small : c.args.value ≤ largest = omega arith in
    let beyond : length c.args.s.now < c.args.at = omega arith in
    at_refusal _ _ _ 9 refl (simp (le-ltb _ _ small, lt-ltb _ _ beyond))

pub returns-then-s-at : goal.returns-then-s-at
unfolding writing
returns-then-s-at c =
    let small : c.args.value ≤ largest = omega arith in
    let within : c.args.at ≤ length c.args.s.now = omega arith in
    let short : length c.args.s.now - c.args.at < length (form c.args.value) = omega (arith, c.width-width.ensures) in
    at_refusal _ _ _ 10 refl (simp (le-ltb _ _ small, le-ltb _ _ within, lt-ltb _ _ short))

pub returns : goal.returns
unfolding writing
returns c =
    let a = c.args in
    let bs = c.put.ensures in
    let size = c.width-width.ensures in
    let small : a.value ≤ largest = omega arith in
    let within : a.at ≤ length a.s.now = omega arith in
    let fit : length (form a.value) ≤ length a.s.now - a.at = omega arith in
    let told : placed (a.at + c.width-width.result) ≡ writing a.s.now a.at a.value = simp (size, le-ltb _ _ small, le-ltb _ _ within, le-ltb _ _ fit) in
    (told, rw (bs) (form_between a.s.now (form a.value) a.at _ size ∙ at_placing a.s.now a.at a.value _ told))
