-- A run on the bench of a program, as far as it has come. Assumes nothing.
use Rattle.std.specs.Prelude.{◌≡◌, refl, Bool, true, false, not, Option, Some, None, is_some, is_none}
use Rattle.std.proofs.Common.{sym, ap, ◌∙◌}
use Rattle.refusals.specs.declared.refusal.Refusal.{Refusal}
use Rattle.turns.specs.Bench.{Bench, Takes, desk_of, on_page, bench_of}
use Rattle.report.specs.Prints.{page_in}
use Rattle.turns.specs.declared.turn.Bench.{Bench as Lent}

-- what is to come leads from here to where all of it leads from the start
pub record Leads (start : Lent) (all : Bench → Bench) (here : Lent) (rest : Bench → Bench) : Type 0 where
  pub same_array : here.array.ghost_name ≡ start.array.ghost_name
  pub same_page : here.page.ghost_name ≡ start.page.ghost_name
  pub same_slice : here.page.now.out.ghost_name ≡ start.page.now.out.ghost_name
  pub desk : on_page (page_in here.page.now) (rest (bench_of here)) ≡ on_page (page_in start.page.now) (all (bench_of start))

pub at_start : (start : Lent) (all : Bench → Bench) → Leads start all start all
at_start start all = record { same_array = refl; same_page = refl; same_slice = refl; desk = refl }

-- some of it is taken
pub taken :
    {start here next : Lent} {all rest some left : Bench → Bench} → Takes here some next
    → on_page (page_in next.page.now) (left (bench_of next)) ≡ on_page (page_in here.page.now) (rest (bench_of here))
    → Leads start all here rest → Leads start all next left
taken x e l = record {
  same_array = x.same_array ∙ l.same_array;
  same_page = x.same_page ∙ l.same_page;
  same_slice = x.same_slice ∙ l.same_slice;
  desk = e ∙ l.desk;
}

-- and what is to come changes nothing
pub at_end : {start here : Lent} {all rest : Bench → Bench} → desk_of here ≡ on_page (page_in here.page.now) (rest (bench_of here))
    → Leads start all here rest → Takes start all here
at_end e l = record { same_array = l.same_array; same_page = l.same_page; same_slice = l.same_slice; desk = e ∙ l.desk }

-- the same by another name
pub same : {start here : Lent} {f g : Bench → Bench} → f (bench_of start) ≡ g (bench_of start) → Takes start f here → Takes start g here
same {start} e x = record {
  same_array = x.same_array;
  same_page = x.same_page;
  same_slice = x.same_slice;
  desk = x.desk ∙ ap (on_page (page_in start.page.now)) e;
}

-- a bench on which nothing happens
pub stays : {here : Lent} {all : Bench → Bench} → desk_of here ≡ on_page (page_in here.page.now) (all (bench_of here)) → Takes here all here
stays {here} {all} e = at_end {rest = all} e (at_start here all)

-- what a program's test of a refusal says
pub given : {v : Bool} (refusal : Option Refusal) → v ≡ is_some refusal → v ≡ true → is_none refusal ≡ false
given {v} refusal is h = go refusal (sym is ∙ h)
  where
    go : (r : Option Refusal) → is_some r ≡ true → is_none r ≡ false
    go None e = cc
    go (Some why) e = refl

pub not_given : {v : Bool} (refusal : Option Refusal) → v ≡ is_some refusal → v ≡ false → refusal ≡ None
not_given {v} refusal is h = go refusal (sym is ∙ h)
  where
    go : (r : Option Refusal) → is_some r ≡ false → r ≡ None
    go None e = refl
    go (Some why) e = cc

pub none_given : {v : Bool} (refusal : Option Refusal) → is_some refusal ≡ not v → v ≡ true → refusal ≡ None
none_given {v} refusal is h = not_given refusal (sym is) (ap not h)

pub some_given : {v : Bool} (refusal : Option Refusal) → is_some refusal ≡ not v → v ≡ false → is_none refusal ≡ false
some_given {v} refusal is h = given refusal (sym is) (ap not h)
