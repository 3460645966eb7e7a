-- Texts printed one behind the other are one text. Assumes nothing.
use Rattle.std.proofs.Common.{◌≡◌, refl, sym, ap, ◌∙◌, Bool, true, false, cond, List, [], ◌++◌, ℕ}
use Rattle.report.specs.Page.{Page, printed}
use Rattle.report.specs.PrintLaws.{print_none, print_then, print_twice}
use Rattle.report.specs.Prints.{Prints, page_in}
use Rattle.report.specs.declared.page.Page.{Page as Lent}

-- nothing is printed
pub none : (p : Lent) → Prints p [] p
none p = record { same_slice = refl; page = sym (print_none (page_in p)) }

-- a text by another name
pub same : {p q : Lent} {a b : List ℕ} → a ≡ b → Prints p a q → Prints p b q
same {p} e x = record { same_slice = x.same_slice; page = x.page ∙ ap (printed (page_in p)) e }

infixl 60 ◌then◌
pub ◌then◌ : {p q r : Lent} {a b : List ℕ} → Prints p a q → Prints q b r → Prints p (a ++ b) r
◌then◌ {p} {q} {r} {a} {b} x y = record {
  same_slice = y.same_slice ∙ x.same_slice;
  page = print_then (page_in p) (page_in q) (page_in r) a b x.page y.page;
}

-- a text that a test lets be printed, and one that it does not
pub where_so : {p q : Lent} {text : List ℕ} (v w : Bool) → v ≡ w → v ≡ true → Prints p text q → Prints p (cond w text []) q
where_so v w which h x = rw (← which, h) x

pub where_not : (p : Lent) (text : List ℕ) (v w : Bool) → v ≡ w → v ≡ false → Prints p (cond w text []) p
where_not p text v w which h = rw (← which, h) (none p)

-- of a text, a piece is printed and the rest is left
pub left_on : (p q : Lent) (piece rest text : List ℕ) → text ≡ piece ++ rest → Prints p piece q
    → printed (page_in q) rest ≡ printed (page_in p) text
left_on p q piece rest text is x =
    ap (λ (y : Page). printed y rest) x.page ∙ print_twice (page_in p).bytes (page_in p).at piece rest ∙ ap (printed (page_in p)) (sym is)

-- nothing is left
pub left_over : (p r : Page) (text : List ℕ) → text ≡ [] → printed p text ≡ r → p ≡ r
left_over p r text is x = sym (print_none p) ∙ ap (printed p) (sym is) ∙ x
