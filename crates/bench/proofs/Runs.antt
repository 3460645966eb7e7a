-- The run over a trace, read by read: what a refusal stopped stays as it is, a number is taken and the run goes on from the
-- place after it, "end" and a number that cannot be read end it. Then the run from the start, and whole. Assumes nothing.
use Rattle.std.specs.Prelude.{◌≡◌, refl, false, List, [], ◌∷◌, ℕ, zero, suc, ◌-◌, ◌<◌, ◌≤◌, take, replicate, Some, None, is_none, Result, Ok, Err}
use Rattle.std.proofs.Common.{sym, ap, ◌∙◌, lt-ltb, le-ltb, arith}
use Rattle.refusals.specs.RefusalLaws.{refusal_back}
use Rattle.refusals.specs.declared.refusal.Refusal.{Refusal}
use Rattle.trace.specs.Answers.{read_told}
use Rattle.trace.specs.Number.{reading}
use Rattle.trace.specs.declared.answer.Read.{Read}
use Rattle.trace.specs.declared.answer.Read.TheVariants.{Number, End}
use Rattle.trace.specs.declared.answer.Refused.{Refused}
use Rattle.parts.specs.Figures.{figure_of}
use Rattle.parts.specs.FigureLaws.{most, largest}
use Rattle.parts.specs.declared.figures.Figure.{Figure}
use Rattle.pins.specs.Watch.{is_open}
use Rattle.supply.specs.Power.{power_up, fresh, filled}
use Rattle.supply.specs.declared.power.Powered.{Powered}
use Rattle.trace.specs.Figures.{last_byte}
use Rattle.trace.specs.Items.{short_events, item_events}
use Rattle.pulses.specs.Pulse.{pulsed}
use Rattle.report.specs.Lines.{end_line}
use Rattle.report.specs.Record.{most_shown}
use Rattle.refusals.specs.Refusals.{number_of}
use Rattle.turns.specs.Bench.{Bench, Takes, after_events, desk_of, on_page, bench_of}
use Rattle.turns.specs.DeskLaws.{desk_is, carry}
use Rattle.turns.specs.EventLaws.{events_stay}
use Rattle.report.specs.Page.{Page, page_of, printed}
use Rattle.report.specs.PrintLaws.{print_then}
use Rattle.report.specs.Prints.{page_in}
use Rattle.turns.specs.Stand.{no_event}
use Rattle.turns.specs.declared.turn.Bench.{Bench as Lent}
use Rattle.bench.specs.Head.{head_of}
use Rattle.bench.specs.Report.{last_text, whole_text, report, reported}
use Rattle.bench.specs.Run.{items_from, after_item, after_items, ran_from, first_text, started, ran, replayed}
use Rattle.bench.specs.declared.head.Head.{Head}
use Rattle.bench.specs.declared.head.NoHead.{NoHead}
use Rattle.bench.proofs.Items.{items_on}
use Rattle.bench.proofs.Leads.{number_there, end_there, refused_there, no_row_is_0}
use Rattle.bench.proofs.Tells.{tells_ran}

-- an item from 268 up is a run of pulses, any other is its events
pub item_run : (n p : ℕ) (b : Bench) → p ≡ n - last_byte → 0 < p → pulsed p b ≡ after_item b n
unfolding pulsed after_item item_events
item_run n p b is some = rw (lt-ltb last_byte n (omega arith), is)

pub item_short : (n p : ℕ) (b : Bench) → p ≡ n - last_byte → p ≤ 0 → after_events b (short_events n) ≡ after_item b n
unfolding after_item item_events
item_short n p b is none = rw (le-ltb last_byte n (omega arith))

items_stay : (b : Bench) (ns : List ℕ) → is_none b.refusal ≡ false → after_items b ns ≡ b
unfolding after_item
items_stay b [] h = refl
items_stay b (n ∷ ns) h = rw (events_stay b (item_events n) h) (items_stay b ns h)

stays : (s : List ℕ) (at : ℕ) (b : Bench) → is_none b.refusal ≡ false → ran_from s at b ≡ b
unfolding ran_from
stays s at b h = rw (items_stay b (items_from s at).numbers h, h)

-- what a refusal stopped stays as it is
pub ran_stays : (s : List ℕ) (at : ℕ) (y : Lent) → is_none y.refusal ≡ false
    → desk_of y ≡ on_page (page_in y.page.now) (ran_from s at (bench_of y))
ran_stays s at y h = desk_is y ∙ ap (on_page (page_in y.page.now)) (sym (stays s at (bench_of y) h))

module _ (s : List ℕ) (at : ℕ) (found : Result Read Refused) (y : Lent) (read : read_told found ≡ reading s at) where
  first : (r : Read) (n next : ℕ) → found ≡ Ok r → r ≡ Number n next
      → ran_from s next (after_item (bench_of y) n) ≡ ran_from s at (bench_of y)
  unfolding ran_from
  first r n next is kind = rw (items_on s at, number_there s at found read r n next is kind)

  pub ran_number : (r : Read) (n next : ℕ) (z : Lent) → found ≡ Ok r → r ≡ Number n next
      → desk_of z ≡ on_page (page_in y.page.now) (after_item (bench_of y) n)
      → on_page (page_in z.page.now) (ran_from s next (bench_of z)) ≡ on_page (page_in y.page.now) (ran_from s at (bench_of y))
  ran_number r n next z is kind one =
      carry (ran_from s next) (tells_ran s next) z _ _ one ∙ ap (on_page (page_in y.page.now)) (first r n next is kind)

  pub ran_end : (r : Read) (p : ℕ) → y.refusal ≡ None → found ≡ Ok r → r ≡ End p
      → desk_of y ≡ on_page (page_in y.page.now) (ran_from s at (bench_of y))
  unfolding ran_from
  ran_end r p on is kind = desk_is y ∙ rw (on, items_on s at, end_there s at found read r p is kind)

  pub ran_refused : (r : Refused) → y.refusal ≡ None → found ≡ Err r
      → desk_of (record y { refusal = Some r.refusal }) ≡ on_page (page_in y.page.now) (ran_from s at (bench_of y))
  unfolding ran_from
  ran_refused r on is =
      desk_is (record y { refusal = Some r.refusal })
      ∙ rw (on, items_on s at, refused_there s at found read r is, no_row_is_0 r.refusal, refusal_back r.refusal)

take_replicate : (n m a : ℕ) → n ≤ m → take n (replicate m a) ≡ replicate n a
take_replicate zero m a h = refl
take_replicate (suc n) zero a h = absurd (omega arith)
take_replicate (suc n) (suc m) a h = ap (λ (l : List ℕ). a ∷ l) (take_replicate n m a (omega arith))

-- a run by its start, which fills the array, powers up and prints line 1, by its items, and by what is left to tell at its end
pub ran_whole : (s out xs : List ℕ) (lead : Head) (p : Powered) {x y : Lent} (q : Page)
    → x.array.now ≡ filled lead.part fresh xs → p ≡ power_up lead.part lead.kept x.array.now
    → x.refusal ≡ p.refusal → x.stand ≡ no_event p.state → x.shown ≡ replicate most_shown 0
    → page_in x.page.now ≡ printed (page_of out 0) (first_text lead p)
    → Takes x (ran_from s lead.items) y
    → q ≡ printed (page_in y.page.now) (last_text y.stand y.refusal y.shown)
    → q ≡ printed (page_of out 0) (whole_text (ran s lead xs (replicate most_shown 0)))
unfolding ran started
ran_whole s out xs lead p {x} {y} q all-fresh power refusal new none line rest last =
    let b : Bench = ran_from s lead.items (started lead xs (replicate most_shown 0)) in
    let e : desk_of y ≡ on_page (page_of out 0) b = rest.desk ∙ carry (ran_from s lead.items) (tells_ran s lead.items) x _ _ begun in
    print_then (page_of out 0) (page_in y.page.now) q b.text (last_text b.stand b.refusal b.shown) (λ i. (e i).page)
    (last ∙ λ i. printed (page_in y.page.now) (last_text (e i).stand (e i).refusal (e i).shown))
  where
    begun : desk_of x ≡ on_page (page_of out 0) (started lead xs (replicate most_shown 0))
    begun =
        (λ i. record { refusal = refusal i; stand = new i; array = x.array.now; shown = none i; page = line i })
        ∙ ap (on_page (page_of out 0)) (rw (power, all-fresh))

-- the report, where both numbers that lead the trace are read
pub report_led : (s out : List ℕ) (lead : Head) (f : Figure) (q : Page) → Ok lead ≡ head_of s → f ≡ figure_of lead.part
    → q ≡ printed (page_of out 0) (whole_text (ran s lead (take f.size (replicate most 0)) (replicate most_shown 0)))
    → q ≡ reported s out
unfolding report replayed
report_led s out lead f q led row e =
    e ∙ rw (row, take_replicate (figure_of lead.part).size most 0 (largest lead.part), ← led)

-- and where one is refused
pub report_not : (s out : List ℕ) (why : NoHead) (q : Page) → Err why ≡ head_of s
    → q ≡ printed (page_of out 0) (end_line 0 false (number_of why.refusal)) → q ≡ reported s out
unfolding report replayed is_open
report_not s out why q led e = e ∙ rw (← led)
